use Rattle.std.proofs.Common.{◌≡◌, ◌++◌, map, drop}
use Rattle.ex_types.specs.Checked as spec
use Rattle.ex_types.proofs.names.entity_names.Given as goal

abbrev pub invariant-loop-entity : goal.invariant-loop-entity
invariant-loop-entity l = map (λ n. n.now) l.names.items ++ spec.entity_names (drop l.entity-index l.entities) ≡ spec.entity_names l.entities
