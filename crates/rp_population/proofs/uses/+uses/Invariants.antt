use Rattle.std.proofs.Common.{◌≡◌, ◌++◌, drop}
use Rattle.std.specs.List.{flat_map}
use Rattle.rp_rows.specs.Contents.{references}
use Rattle.rp_population.specs.Found.{told_at}
use Rattle.rp_population.proofs.uses.+uses.Given as goal

abbrev pub invariant-push_values-loop-value : goal.invariant-push_values-loop-value
invariant-push_values-loop-value l =
    l.found.items ++ flat_map (told_at l.user) (flat_map references (drop l.value-index l.values)) ≡ l.initial.found.items ++ flat_map (told_at l.user) (flat_map references l.values)
