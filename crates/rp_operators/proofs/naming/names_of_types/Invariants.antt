use Rattle.std.proofs.Common.{◌≡◌, ◌++◌, drop, map}
use Rattle.rp_operators.proofs.naming.names_of_types.Given as goal
use Rattle.rp_value.specs.declared.value.Value.TheVariants as v

abbrev pub invariant-loop-defined_type : goal.invariant-loop-defined_type
invariant-loop-defined_type l = l.texts ++ map (λ x. v.Str x.name) (drop l.defined_type-index l.types) ≡ map (λ x. v.Str x.name) l.types
