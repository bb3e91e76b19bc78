use Rattle.std.proofs.Common.{◌≡◌, take, map}
use Rattle.rp_sight.specs.Seen.{seen_of}
use Rattle.rp_readers.specs.Told.{group_told}
use Rattle.rp_readers.proofs.items.group_rows.Given as goal

abbrev pub invariant-loop-group : goal.invariant-loop-group
invariant-loop-group l = l.rows.items ≡ map (λ s. group_told (seen_of s)) (take l.group-index l.seen)
