use Rattle.std.proofs.Common.{◌≡◌, ◌++◌, drop}
use Rattle.std.specs.List.{flat_map}
use Rattle.rp_rows.specs.Contents.{references}
use Rattle.rp_population.specs.Found.{told_at, values_of}
use Rattle.rp_population.proofs.attribute.push_slots.Given as goal

abbrev pub invariant-loop-slot : goal.invariant-loop-slot
invariant-loop-slot l =
    l.found.items ++ flat_map (told_at l.user) (flat_map references (values_of l.attribute.line l.attribute.name (drop l.slot-index l.slots) l.left))
    ≡ l.initial.found.items ++ flat_map (told_at l.user) (flat_map references (values_of l.attribute.line l.attribute.name l.slots l.values))
