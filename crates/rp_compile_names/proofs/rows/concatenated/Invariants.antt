use Rattle.std.proofs.Common.{◌≡◌, drop, ◌++◌}
use Rattle.std.specs.List.{flat_map}
use Rattle.rp_compile_names.proofs.rows.concatenated.Given as goal

abbrev pub invariant-loop-row : goal.invariant-loop-row
invariant-loop-row g l = l.found.items ++ flat_map (λ row. row) (drop l.row-index l.rows) ≡ flat_map (λ row. row) l.rows
