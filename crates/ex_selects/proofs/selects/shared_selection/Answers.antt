use Rattle.std.proofs.Common.{arith}
use Rattle.std.proofs.lemmas.Grind.{common_steps}
use Rattle.ex_selects.specs.Shared.{shared}
use Rattle.ex_selects.proofs.selects.shared_selection.Goals as goal

pub loop-number-preserved : goal.loop-number-preserved
loop-number-preserved c = grind (arith, common_steps)

pub returns : goal.returns
unfolding shared
returns c = grind (arith, common_steps)
