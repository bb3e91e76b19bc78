use Rattle.std.proofs.Common.{◌≡◌, drop}
use Rattle.rp_domain.specs.Rows.{put_all}
use Rattle.rp_domain.specs.Standing.{standing}
use Rattle.rp_domain.proofs.extents.put_place.Given as goal

abbrev pub invariant-loop-entity : goal.invariant-loop-entity
invariant-loop-entity l = put_all l.rows.items (standing l.place (drop l.entity-index l.entities)) ≡ put_all l.initial.rows.items (standing l.place l.entities)
