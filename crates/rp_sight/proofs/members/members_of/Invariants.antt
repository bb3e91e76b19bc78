use Rattle.std.proofs.Common.{◌≡◌, take, map}
use Rattle.rp_sight.specs.Stored.{row_of}
use Rattle.rp_sight.specs.Listed.{member_in, member_of}
use Rattle.rp_sight.proofs.members.members_of.Given as goal

abbrev pub invariant-loop-key : goal.invariant-loop-key
invariant-loop-key l = map member_of l.out.items ≡ map (member_in l.models.rows (row_of l.group)) (take l.key-index l.keys)
