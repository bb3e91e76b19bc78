use Rattle.std.proofs.Common.{◌≡◌, drop, ◌++◌}
use Rattle.std.specs.List.{flat_map}
use Rattle.rp_meaning.specs.CompiledTypes as types_spec
use Rattle.rp_compile_names.proofs.select_types.all_members.Given as goal

abbrev pub invariant-loop-number : goal.invariant-loop-number
invariant-loop-number l = l.found.items ++ flat_map (types_spec.members l.types) (drop l.number-index l.selects) ≡ flat_map (types_spec.members l.types) l.selects
