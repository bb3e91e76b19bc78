use Rattle.std.proofs.Common.{◌≡◌, [], replicate}
use Rattle.rp_faults.proofs.buckets.empty.Given as goal

abbrev pub invariant-loop-number : goal.invariant-loop-number
invariant-loop-number g l = l.made.items ≡ replicate l._number []
