use Rattle.std.proofs.Common.{◌≡◌, ◌++◌, map, drop}
use Rattle.ex_layouts.specs.Layouts as spec
use Rattle.ex_layouts.proofs.read_slot.read_slots.Given as goal

abbrev pub invariant-loop-slot : goal.invariant-loop-slot
invariant-loop-slot l = l.found.items ++ map (spec.read_slot l.schema) (drop l.slot-index l.slots) ≡ map (spec.read_slot l.schema) l.slots
