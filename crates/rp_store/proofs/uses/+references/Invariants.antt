use Rattle.std.proofs.Common.{◌≡◌, ◌==◌, drop}
use Rattle.std.specs.List.{flat_map, list_any}
use Rattle.rp_rows.specs.Contents.{references}
use Rattle.rp_store.proofs.uses.+references.Given as goal

abbrev pub invariant-have_reference-loop-value : goal.invariant-have_reference-loop-value
invariant-have_reference-loop-value l = list_any (λ m. m == l.name) (flat_map references (drop l.value-index l.values)) ≡ list_any (λ m. m == l.name) (flat_map references l.values)
