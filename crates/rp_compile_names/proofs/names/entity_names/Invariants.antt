use Rattle.std.proofs.Common.{◌≡◌, drop, map, ◌++◌}
use Rattle.rp_compile_names.proofs.names.entity_names.Given as goal

abbrev pub invariant-loop-entity : goal.invariant-loop-entity
invariant-loop-entity l = map (λ n. n.now) l.names.items ++ map (λ t. t.name.text) (drop l.entity-index l.entities) ≡ map (λ t. t.name.text) l.entities
