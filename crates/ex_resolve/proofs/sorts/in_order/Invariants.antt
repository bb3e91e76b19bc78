use Rattle.std.proofs.Common.{◌≡◌, ◌++◌, length}
use Rattle.ex_resolve.proofs.sorts.in_order.Given as goal

abbrev pub invariant-loop-item : goal.invariant-loop-item
invariant-loop-item g l = l.left ++ l.found ≡ l.initial.left

abbrev pub decreases-loop-item : goal.decreases-loop-item
decreases-loop-item g l = length l.left
