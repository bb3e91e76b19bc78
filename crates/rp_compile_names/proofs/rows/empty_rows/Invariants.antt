use Rattle.std.proofs.Common.{◌≡◌, [], replicate}
use Rattle.rp_compile_names.proofs.rows.empty_rows.Given as goal

abbrev pub invariant-loop-row : goal.invariant-loop-row
invariant-loop-row g l = l.rows.items ≡ replicate l._row []
