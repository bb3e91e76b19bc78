use Rattle.std.proofs.Common.{◌<◌, length, arith}
use Rattle.rp_config.proofs.LoadLemmas.{one_more}
use Rattle.rp_config.proofs.loading.schemas_at.Goals as goal

pub loop-path-preserved : goal.loop-path-preserved
loop-path-preserved g c =
    let within : c.loop-path.path-index < length c.args.paths.now = omega arith in
    rw c.in_ok-push.ensures.ok (one_more (g.D.Folder.files c.args.folder.now) c.args.paths.now c.loop-path.path-index c.path-item.result c.loop-path.schemas c.in_ok-schema_at.field-0 within c.path-item.is c.loop-path.invariant (rw c.as_str.ensures at c.in_ok-schema_at.ensures))
