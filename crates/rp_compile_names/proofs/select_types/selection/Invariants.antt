use Rattle.std.proofs.Common.{◌≡◌, drop, ◌++◌}
use Rattle.std.specs.List.{filter_map}
use Rattle.plain_data.specs.Numbers.{numbered, numbered_from}
use Rattle.rp_meaning.specs.CompiledTypes as types_spec
use Rattle.rp_compile_names.proofs.select_types.selection.Given as goal

abbrev pub invariant-loop-number : goal.invariant-loop-number
invariant-loop-number l = l.graph.items ++ numbered_from (λ number x. filter_map types_spec.defined_in (types_spec.members l.types number)) l.number (drop l.number l.types) ≡ numbered (λ number x. filter_map types_spec.defined_in (types_spec.members l.types number)) l.types
