use Rattle.std.proofs.Common.{◌≡◌, ◌++◌, length}
use Rattle.p21_canonical.specs.Binaries as spec
use Rattle.p21_canonical.proofs.binary.write_groups.Given as goal

abbrev pub invariant-loop-left : goal.invariant-loop-left
invariant-loop-left l = l.out ++ spec.digits l.left ≡ l.fn.out ++ spec.digits l.bits

abbrev pub decreases-loop-left : goal.decreases-loop-left
decreases-loop-left l = length l.left
