use Rattle.std.proofs.Common.{◌≡◌, drop, map, ◌++◌}
use Rattle.rp_compile.specs.Declarations as spec
use Rattle.rp_compile.proofs.expressions.constants.Given as goal

abbrev pub invariant-loop-constant : goal.invariant-loop-constant
invariant-loop-constant l = l.found ++ map (spec.constant l.schema) (drop l.constant-index l.list) ≡ map (spec.constant l.schema) l.list
