use Rattle.std.proofs.Common.{◌≡◌, [], replicate, drop}
use Rattle.rp_domain.specs.Rows.{put_all}
use Rattle.rp_domain.specs.Standing.{standing_from}
use Rattle.rp_domain.proofs.extents.filled.Given as goal

abbrev pub invariant-loop-place : goal.invariant-loop-place
invariant-loop-place l = put_all l.rows.items (standing_from l.place (drop l.place l.instances)) ≡ put_all (replicate l.count []) (standing_from 0 l.instances)
