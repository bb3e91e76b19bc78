use Rattle.std.proofs.Common.{arith}
use Rattle.std.proofs.lemmas.Grind.{common_steps}
use Rattle.rp_reports.proofs.culprits.keys_of.Goals as goal

pub loop-model-preserved : goal.loop-model-preserved
loop-model-preserved c = grind (arith, common_steps)

pub returns : goal.returns
returns c = grind (arith, common_steps)
