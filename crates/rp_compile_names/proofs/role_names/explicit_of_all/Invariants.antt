use Rattle.std.proofs.Common.{◌≡◌, drop, ◌++◌}
use Rattle.std.specs.List.{flat_map}
use Rattle.name_tables.specs.Names.{rows_of}
use Rattle.rp_meaning.specs.CompiledNames as names_spec
use Rattle.rp_compile_names.proofs.role_names.explicit_of_all.Given as goal

abbrev pub invariant-loop-number : goal.invariant-loop-number
invariant-loop-number l = rows_of l.found.items ++ flat_map (names_spec.explicit_rows l.entities) (drop l.number-index l.numbers) ≡ flat_map (names_spec.explicit_rows l.entities) l.numbers
