use Rattle.std.proofs.Common.{◌≡◌, ◌++◌, drop}
use Rattle.rp_meaning.specs.Reading as spec
use Rattle.rp_domain.proofs.attributes.attributes.Given as goal

abbrev pub invariant-loop-entity : goal.invariant-loop-entity
invariant-loop-entity l = l.found ++ spec.attributes l.schema (drop l.entity-index l.entities) ≡ spec.attributes l.schema l.entities
