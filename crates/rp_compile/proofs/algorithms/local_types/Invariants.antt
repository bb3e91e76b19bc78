use Rattle.std.proofs.Common.{◌≡◌, drop, map, ◌++◌}
use Rattle.rp_meaning.specs.Compiled as compiled
use Rattle.rp_compile.proofs.algorithms.local_types.Given as goal

abbrev pub invariant-loop-local : goal.invariant-loop-local
invariant-loop-local l = map (λ t. t.now) l.found.items ++ compiled.of_locals (drop l.local-index l.list) ≡ compiled.of_locals l.list
