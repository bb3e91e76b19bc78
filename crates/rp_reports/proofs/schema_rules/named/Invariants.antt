use Rattle.std.proofs.Common.{◌≡◌, drop}
use Rattle.rp_plain.specs.Meaning.{schema_named}
use Rattle.rp_reports.proofs.schema_rules.named.Given as goal

abbrev pub invariant-loop-schema : goal.invariant-loop-schema
invariant-loop-schema l = schema_named (drop l.schema-index l.schemas) l.name ≡ schema_named l.schemas l.name
