use Rattle.std.proofs.Common.{arith}
use Rattle.std.proofs.lemmas.Grind.{common_steps}
use Rattle.rp_compile.proofs.entities.all_given.Goals as goal

pub loop-derived-preserved : goal.loop-derived-preserved
loop-derived-preserved c = grind (arith, common_steps)

pub returns : goal.returns
returns c = grind (arith, common_steps)
