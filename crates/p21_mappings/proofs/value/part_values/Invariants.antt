use Rattle.std.proofs.Common.{◌≡◌, ◌++◌, Ok, length}
use Rattle.std.specs.List.{zip}
use Rattle.p21_mappings.specs.Instances as spec
use Rattle.p21_mappings.specs.ReadSlots as read_spec
use Rattle.p21_mappings.proofs.value.part_values.Given as goal

abbrev pub invariant-values : goal.invariant-values
invariant-values g l =
    spec.and_then (spec.each (read_spec.slot_value l.schema (g.N.DefinedNames.is_defined l.names)) (zip l.slots l.values)) (λ xs. Ok (l.found.items ++ xs))
    ≡ spec.each (read_spec.slot_value l.schema (g.N.DefinedNames.is_defined l.names)) (zip l.initial.slots l.initial.values)

abbrev pub decreases-values : goal.decreases-values
decreases-values g l = length l.slots
