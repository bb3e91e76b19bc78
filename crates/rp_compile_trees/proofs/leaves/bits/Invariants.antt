use Rattle.std.proofs.Common.{◌≡◌, ◌++◌, map, drop}
use Rattle.rp_meaning.specs.CompiledExpressions as spec
use Rattle.rp_compile_trees.proofs.leaves.bits.Given as goal

abbrev pub invariant-loop-digit : goal.invariant-loop-digit
invariant-loop-digit l = l.bits ++ map spec.bit (drop l.digit-index l.digits) ≡ map spec.bit l.digits
