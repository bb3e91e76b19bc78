use Rattle.std.proofs.Common.{◌≡◌, ◌||◌, ℕ, drop}
use Rattle.std.specs.List.{filter_map}
use Rattle.ex_slots.specs.Slots as spec
use Rattle.ex_slots.proofs.instances.insert_derived.Given as goal

abbrev pub invariant-loop-derived : goal.invariant-loop-derived
invariant-loop-derived l = (e p : ℕ) →
    (spec.has l.found.keys e p || spec.is_derived (filter_map spec.derived_place (drop l.derived-index l.list)) e p)
    ≡ (spec.has l.initial.found.keys e p || spec.is_derived (filter_map spec.derived_place l.list) e p)
