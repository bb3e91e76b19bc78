use Rattle.std.proofs.Common.{arith}
use Rattle.std.proofs.lemmas.Grind.{common_steps}
use Rattle.rp_reports.proofs.attributes.all_names.Goals as goal

pub loop-entity-preserved : goal.loop-entity-preserved
loop-entity-preserved c = grind (arith, common_steps)

pub returns : goal.returns
returns c = grind (arith, common_steps)
