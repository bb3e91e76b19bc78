use Rattle.std.specs.Prelude.{◌+◌, map, take}
use Rattle.rp_delivery.specs.Requests.{IsMe}
use Rattle.rp_delivery.specs.Deliveries.{ArePut}
use Rattle.rp_delivery.proofs.delivering.put_and_validate.Given as goal

abbrev pub invariant-loop-place : goal.invariant-loop-place
invariant-loop-place g l =
    IsMe l.repository.content l.ground.me
    × ArePut (g.D.Folder.files l.folder) l.initial.repository.content l.repository.content l.ground.schemas.now (map (λ path. path.now) (take l.place l.paths)) l.delivered.schema (l.place + 1)
