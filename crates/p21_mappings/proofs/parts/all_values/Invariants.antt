use Rattle.std.proofs.Common.{◌≡◌, ◌++◌, Ok, length}
use Rattle.std.specs.List.{zip}
use Rattle.p21_mappings.specs.Instances as spec
use Rattle.p21_mappings.specs.ReadSlots.{record_values}
use Rattle.p21_mappings.proofs.parts.all_values.Given as goal

abbrev pub invariant-parts : goal.invariant-parts
invariant-parts g l =
    spec.and_then (spec.each (record_values l.schema (g.N.DefinedNames.is_defined l.names)) (zip l.slots l.parts)) (λ xs. Ok (l.lists ++ xs))
    ≡ spec.each (record_values l.schema (g.N.DefinedNames.is_defined l.names)) (zip l.initial.slots l.initial.parts)

abbrev pub decreases-parts : goal.decreases-parts
decreases-parts g l = length l.slots
