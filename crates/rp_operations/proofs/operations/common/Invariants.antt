use Rattle.std.proofs.Common.{◌≡◌, ◌++◌, drop}
use Rattle.rp_operations.specs.Operations.{common}
use Rattle.rp_operations.proofs.operations.common.Given as goal

abbrev pub invariant-loop-x : goal.invariant-loop-x
invariant-loop-x l = l.found ++ common (drop l.x-index l.xs) l.left ≡ common l.xs l.ys
