use Rattle.std.proofs.Common.{◌≡◌, drop, map, ◌++◌}
use Rattle.name_tables.specs.Names.{rows_of}
use Rattle.rp_compile_names.specs.Found as found
use Rattle.rp_compile_names.proofs.role_names.push_roles.Given as goal

abbrev pub invariant-loop-name : goal.invariant-loop-name
invariant-loop-name l = l.found ++ map (λ r. found.role l.entity l.entity_name (rows_of l.rows) r.0) (rows_of (drop l.name-index l.rows)) ≡ l.initial.found ++ map (λ r. found.role l.entity l.entity_name (rows_of l.rows) r.0) (rows_of l.rows)
