use Rattle.std.proofs.Common.{arith}
use Rattle.std.proofs.lemmas.Grind.{common_steps}
use Rattle.rp_reports.proofs.culprits.Telling.culprits.Goals as goal

pub loop-culprit-preserved : goal.loop-culprit-preserved
loop-culprit-preserved c = grind (arith, common_steps)

pub returns : goal.returns
returns c = grind (arith, common_steps)
