use Rattle.std.proofs.Common.{◌≡◌, ◌++◌, map, drop}
use Rattle.ex_slots.specs.Slots as spec
use Rattle.ex_slots.proofs.instances.each_given.Given as goal

abbrev pub invariant-loop-number : goal.invariant-loop-number
invariant-loop-number l =
    l.found.items ++ map (spec.slots_of l.entities (spec.has l.derived.keys)) (drop l.number-index l.numbers)
    ≡ map (spec.slots_of l.entities (spec.has l.derived.keys)) l.numbers
