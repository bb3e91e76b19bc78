use Rattle.std.proofs.Common.{arith}
use Rattle.std.proofs.lemmas.Grind.{common_steps}
use Rattle.ex_selects.specs.Shared.{listing}
use Rattle.ex_selects.proofs.selects.listing.Goals as goal

pub loop-number-preserved : goal.loop-number-preserved
loop-number-preserved c = grind (arith, common_steps)

pub returns : goal.returns
unfolding listing
returns c = grind (arith, common_steps)
