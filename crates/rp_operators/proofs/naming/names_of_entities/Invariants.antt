use Rattle.std.proofs.Common.{◌≡◌, ◌++◌, drop, map}
use Rattle.rp_operators.proofs.naming.names_of_entities.Given as goal
use Rattle.rp_value.specs.declared.value.Value.TheVariants as v

abbrev pub invariant-loop-entity : goal.invariant-loop-entity
invariant-loop-entity l = l.texts ++ map (λ x. v.Str x.name) (drop l.entity-index l.entities) ≡ map (λ x. v.Str x.name) l.entities
