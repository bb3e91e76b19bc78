use Rattle.std.proofs.Common.{◌≡◌, take, map}
use Rattle.std.specs.List.{flat_map}
use Rattle.rp_sight.specs.Listed.{counted_at}
use Rattle.rp_sight.specs.Stored.{row_of}
use Rattle.rp_sight.proofs.members.counted_among.Given as goal

abbrev pub invariant-loop-key : goal.invariant-loop-key
invariant-loop-key l = map row_of l.out.items ≡ flat_map (counted_at l.models.rows (row_of l.group)) (take l.key-index l.keys)
