use Rattle.std.proofs.Common.{◌≡◌, drop, map, ◌++◌}
use Rattle.std.specs.List.{filter_map}
use Rattle.rp_compile_names.specs.Found as found
use Rattle.rp_compile_names.proofs.declared_names.derived_names.Given as goal

abbrev pub invariant-loop-derived : goal.invariant-loop-derived
invariant-loop-derived l = map (λ n. n.now) l.names.items ++ filter_map found.derived_text (drop l.derived-index l.list) ≡ filter_map found.derived_text l.list
