use Rattle.std.proofs.Common.{arith}
use Rattle.std.proofs.lemmas.Grind.{common_steps}
use Rattle.rp_reports.proofs.checks.told_checks.Goals as goal

pub loop-check-preserved : goal.loop-check-preserved
loop-check-preserved c = grind (arith, common_steps)

pub returns : goal.returns
returns c = grind (arith, common_steps)
