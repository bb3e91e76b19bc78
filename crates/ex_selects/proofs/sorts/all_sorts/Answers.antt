use Rattle.std.proofs.Common.{arith}
use Rattle.std.proofs.lemmas.Grind.{common_steps}
use Rattle.ex_selects.specs.Sorts.{all_sorts}
use Rattle.ex_selects.proofs.sorts.all_sorts.Goals as goal

pub loop-number-preserved : goal.loop-number-preserved
loop-number-preserved c = grind (arith, common_steps)

pub returns : goal.returns
unfolding all_sorts
returns c = grind (arith, common_steps)
