use Rattle.std.proofs.Common.{◌≡◌, map, take}
use Rattle.rp_plain.specs.Meaning.{schema_name}
use Rattle.rp_readers.proofs.schemas.names_of.Given as goal

abbrev pub invariant-loop-schema : goal.invariant-loop-schema
invariant-loop-schema l = l.names.items ≡ map schema_name (take l.schema-index l.schemas)
