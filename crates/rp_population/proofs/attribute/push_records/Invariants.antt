use Rattle.std.proofs.Common.{◌≡◌, ◌++◌, drop}
use Rattle.std.specs.List.{flat_map}
use Rattle.rp_rows.specs.Contents.{references}
use Rattle.rp_population.specs.Found.{told_at, values_of, all_slots}
use Rattle.rp_population.proofs.attribute.push_records.Given as goal

abbrev pub invariant-loop-slots : goal.invariant-loop-slots
invariant-loop-slots l =
    l.found.items ++ flat_map (told_at l.user) (flat_map references (values_of l.attribute.line l.attribute.name (all_slots (drop l.slots-index l.records)) l.left))
    ≡ l.initial.found.items ++ flat_map (told_at l.user) (flat_map references (values_of l.attribute.line l.attribute.name (all_slots l.records) l.values))
