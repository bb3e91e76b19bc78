use Rattle.std.proofs.Common.{arith}
use Rattle.std.proofs.lemmas.Grind.{common_steps}
use Rattle.rp_reports.proofs.schema_rules.SchemaRules.of.Goals as goal

pub loop-schema-preserved : goal.loop-schema-preserved
loop-schema-preserved c = grind (arith, common_steps)

pub returns : goal.returns
returns c = grind (arith, common_steps)
