use Rattle.std.proofs.Common.{◌≡◌, length}
use Rattle.rp_domain.proofs.room.room_of_extents.Given as goal

abbrev pub invariant-loop-instance : goal.invariant-loop-instance
invariant-loop-instance l = length l.room.items ≡ l.count
