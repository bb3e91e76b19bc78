use Rattle.std.proofs.Common.{[]}
use Rattle.rp_delivery.proofs.SourceLemmas.{one_more}
use Rattle.rp_delivery.proofs.sources.sources_at.Goals as goal

pub loop-path-preserved : goal.loop-path-preserved
loop-path-preserved g c =
    rw c.in_ok-push.ensures.ok (one_more (λ path. path.now) (g.D.Folder.files c.args.folder.now) c.args.paths.now c.loop-path.path-index record { ref_ptr = (0, 0); now = [] } c.loop-path.schemas c.in_ok-text.field-0.schema c.loop-path-test.true c.loop-path.invariant c.in_ok-text.ensures)
