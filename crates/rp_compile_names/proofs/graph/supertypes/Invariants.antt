use Rattle.std.proofs.Common.{◌≡◌, drop, map, ◌++◌}
use Rattle.rp_compile_names.proofs.graph.supertypes.Given as goal

abbrev pub invariant-loop-entity : goal.invariant-loop-entity
invariant-loop-entity l = l.graph.items ++ map (λ e. e.supertypes) (drop l.entity-index l.entities) ≡ map (λ e. e.supertypes) l.entities
