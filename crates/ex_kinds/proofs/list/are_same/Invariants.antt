use Rattle.std.proofs.Common.{◌≡◌, length}
use Rattle.ex_kinds.proofs.list.are_same.Given as goal

abbrev pub invariant-loop-kinds : goal.invariant-loop-kinds
invariant-loop-kinds l = l.kinds ≡ l.others → l.fn.kinds ≡ l.fn.others

abbrev pub decreases-loop-kinds : goal.decreases-loop-kinds
decreases-loop-kinds l = length l.kinds
