use Rattle.std.proofs.Common.{◌≡◌, drop, ◌++◌}
use Rattle.name_tables.specs.Names.{rows_of}
use Rattle.rp_compile_names.proofs.role_names.by_names.Given as goal

abbrev pub invariant-loop-name : goal.invariant-loop-name
invariant-loop-name l = l.table ++ rows_of (drop l.name-index l.rows) ≡ rows_of l.rows
