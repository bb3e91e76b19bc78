use Rattle.std.proofs.Common.{◌≡◌, [], take, drop}
use Rattle.rp_operations.specs.Operations.{set_union}
use Rattle.rp_faults.proofs.twice.has_twice_in_few.Given as goal

abbrev pub invariant-loop-place : goal.invariant-loop-place
invariant-loop-place l = set_union (take l.place l.items) (drop l.place l.items) ≡ set_union [] l.items
