use Rattle.std.proofs.Common.{◌≡◌, ◌||◌, ℕ, drop}
use Rattle.std.specs.List.{flat_map}
use Rattle.ex_slots.specs.Slots as spec
use Rattle.ex_slots.proofs.instances.derived_among.Given as goal

abbrev pub invariant-loop-number : goal.invariant-loop-number
invariant-loop-number l = (e p : ℕ) →
    (spec.has l.found.keys e p || spec.is_derived (flat_map (spec.derived_by l.entities) (drop l.number-index l.numbers)) e p)
    ≡ spec.is_derived (flat_map (spec.derived_by l.entities) l.numbers) e p
