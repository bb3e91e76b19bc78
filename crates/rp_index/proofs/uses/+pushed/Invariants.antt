use Rattle.std.proofs.Common.{◌≡◌, ◌++◌, ℕ, map, drop}
use Rattle.std.specs.List.{flat_map}
use Rattle.rp_rows.specs.Contents.{references}
use Rattle.rp_index.proofs.uses.+pushed.Given as goal

abbrev pub invariant-push_values-loop-value : goal.invariant-push_values-loop-value
invariant-push_values-loop-value l =
    l.found.items ++ map (λ (n : ℕ). (n, l.user)) (flat_map references (drop l.value-index l.values))
    ≡ l.initial.found.items ++ map (λ (n : ℕ). (n, l.user)) (flat_map references l.values)
