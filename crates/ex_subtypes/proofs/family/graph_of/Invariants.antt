use Rattle.std.proofs.Common.{◌≡◌, ◌++◌, map, drop}
use Rattle.ex_subtypes.proofs.family.graph_of.Given as goal

abbrev pub invariant-loop-entity : goal.invariant-loop-entity
invariant-loop-entity l = l.graph.items ++ map (λ e. e.supertypes) (drop l.entity-index l.entities) ≡ map (λ e. e.supertypes) l.entities
