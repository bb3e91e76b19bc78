use Rattle.std.proofs.Common.{◌≡◌, drop, ◌++◌}
use Rattle.std.specs.List.{filter_map}
use Rattle.rp_meaning.specs.CompiledTypes as types_spec
use Rattle.rp_compile_names.proofs.select_types.defined_among.Given as goal

abbrev pub invariant-loop-member : goal.invariant-loop-member
invariant-loop-member l = l.found ++ filter_map types_spec.defined_in (drop l.member-index l.members) ≡ filter_map types_spec.defined_in l.members
