use Rattle.std.proofs.Common.{◌≡◌, take, map}
use Rattle.rp_sight.specs.Listed.{member_of}
use Rattle.rp_readers.specs.Told.{member_told}
use Rattle.rp_readers.proofs.listings.told_members.Given as goal

abbrev pub invariant-loop-member : goal.invariant-loop-member
invariant-loop-member l = l.rows.items ≡ map (λ m. member_told (member_of m)) (take l.member-index l.members)
