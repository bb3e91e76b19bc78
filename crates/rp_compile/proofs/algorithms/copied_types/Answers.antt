use Rattle.std.proofs.Common.{arith}
use Rattle.std.proofs.lemmas.Grind.{common_steps}
use Rattle.rp_compile.proofs.algorithms.copied_types.Goals as goal

pub loop-data_type-preserved : goal.loop-data_type-preserved
loop-data_type-preserved c = grind (arith, common_steps)

pub returns : goal.returns
returns c = grind (arith, common_steps)
