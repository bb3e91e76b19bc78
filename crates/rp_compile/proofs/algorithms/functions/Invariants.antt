use Rattle.std.proofs.Common.{◌≡◌, drop, map, ◌++◌}
use Rattle.rp_compile.specs.Declarations as spec
use Rattle.rp_compile.proofs.algorithms.functions.Given as goal

abbrev pub invariant-loop-declared : goal.invariant-loop-declared
invariant-loop-declared l = l.found ++ map (spec.function l.schema) (drop l.declared-index l.list) ≡ map (spec.function l.schema) l.list
