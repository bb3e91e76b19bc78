use Rattle.std.proofs.Common.{◌≡◌, drop, map, ◌++◌}
use Rattle.rp_meaning.specs.Compiled as compiled
use Rattle.rp_compile.proofs.algorithms.parameter_types.Given as goal

abbrev pub invariant-loop-parameter : goal.invariant-loop-parameter
invariant-loop-parameter l = map (λ t. t.now) l.found.items ++ compiled.of_parameters (drop l.parameter-index l.list) ≡ compiled.of_parameters l.list
