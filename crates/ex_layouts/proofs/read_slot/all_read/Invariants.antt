use Rattle.std.proofs.Common.{◌≡◌, ◌++◌, map, drop}
use Rattle.ex_layouts.specs.Layouts as spec
use Rattle.ex_layouts.proofs.read_slot.all_read.Given as goal

abbrev pub invariant-loop-list : goal.invariant-loop-list
invariant-loop-list l = l.found.items ++ map (map (spec.read_slot l.schema)) (drop l.list-index l.slots) ≡ map (map (spec.read_slot l.schema)) l.slots
