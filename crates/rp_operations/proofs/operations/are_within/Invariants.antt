use Rattle.std.proofs.Common.{◌≡◌, drop}
use Rattle.rp_operations.specs.Operations.{all_within}
use Rattle.rp_operations.proofs.operations.are_within.Given as goal

abbrev pub invariant-loop-x : goal.invariant-loop-x
invariant-loop-x l = all_within (drop l.x-index l.xs) l.left ≡ all_within l.xs l.ys
