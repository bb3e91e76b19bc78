use Rattle.std.proofs.Common.{◌≡◌, drop, map, ◌++◌}
use Rattle.rp_compile_names.proofs.names.type_names.Given as goal

abbrev pub invariant-loop-declared : goal.invariant-loop-declared
invariant-loop-declared l = map (λ n. n.now) l.names.items ++ map (λ t. t.name.text) (drop l.declared-index l.types) ≡ map (λ t. t.name.text) l.types
