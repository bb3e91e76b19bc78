use Rattle.std.proofs.Common.{◌≡◌, drop}
use Rattle.std.specs.List.{list_all}
use Rattle.rp_use_laws.specs.Schemas.{is_entity_identified}
use Rattle.rp_use_laws.proofs.bound.entities.Given as goal

abbrev pub invariant-loop-entity : goal.invariant-loop-entity
invariant-loop-entity l = list_all is_entity_identified (drop l.entity-index l.entities) ≡ list_all is_entity_identified l.entities
