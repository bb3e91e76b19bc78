use Rattle.std.proofs.Common.{◌≡◌, drop, ◌++◌}
use Rattle.rp_reports.proofs.schema_rules.SchemaRules.of.Given as goal

abbrev pub invariant-loop-schema : goal.invariant-loop-schema
invariant-loop-schema l = l.ruled.items ++ drop l.schema-index l.schemas ≡ l.schemas
