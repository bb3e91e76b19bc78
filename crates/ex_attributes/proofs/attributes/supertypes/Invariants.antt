use Rattle.std.proofs.Common.{◌≡◌, ◌++◌, map, drop}
use Rattle.ex_attributes.proofs.attributes.supertypes.Given as goal

abbrev pub invariant-loop-entity : goal.invariant-loop-entity
invariant-loop-entity l = l.found.items ++ map (λ e. e.supertypes) (drop l.entity-index l.entities) ≡ map (λ e. e.supertypes) l.entities
