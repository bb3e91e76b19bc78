use Rattle.std.proofs.Common.{◌≡◌, ◌≢◌, IfOk, subst}
use Rattle.std.specs.Bool.{MatchBool}
use Rattle.rp_snapshots.specs.Snapshots.{first_version, snapshot_by}
use Rattle.rp_restore.proofs.restoring.are_its_snapshot.Goals as goal

pub returns : goal.returns
returns c =
    subst (λ text. IfOk c.is_snapshot_of.result (λ same. MatchBool same (c.args.bytes.now ≡ text) (c.args.bytes.now ≢ text)))
    (λ i. snapshot_by first_version (c.schemas.ensures i) (c.groups-groups.ensures i) (c.models-models.ensures i)) c.is_snapshot_of.ensures
