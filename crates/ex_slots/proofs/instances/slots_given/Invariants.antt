use Rattle.std.proofs.Common.{◌≡◌, ◌++◌, drop}
use Rattle.std.specs.List.{flat_map}
use Rattle.ex_slots.specs.Slots as spec
use Rattle.ex_slots.proofs.instances.slots_given.Given as goal

abbrev pub invariant-loop-number : goal.invariant-loop-number
invariant-loop-number l =
    l.found.items ++ flat_map (spec.slots_of l.entities (spec.has l.derived.keys)) (drop l.number-index l.numbers)
    ≡ flat_map (spec.slots_of l.entities (spec.has l.derived.keys)) l.numbers
