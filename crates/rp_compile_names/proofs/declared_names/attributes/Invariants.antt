use Rattle.std.proofs.Common.{◌≡◌, drop, ◌++◌}
use Rattle.std.specs.List.{flat_map}
use Rattle.rp_meaning.specs.CompiledNames as names_spec
use Rattle.rp_compile_names.proofs.declared_names.attributes.Given as goal

abbrev pub invariant-loop-number : goal.invariant-loop-number
invariant-loop-number l = l.table ++ flat_map (names_spec.own_rows l.entities) (drop l.number-index l.order) ≡ flat_map (names_spec.own_rows l.entities) l.order
