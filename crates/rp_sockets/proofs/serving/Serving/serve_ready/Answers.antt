use Rattle.std.proofs.Common.{◌∙◌}
use Rattle.rp_sockets.proofs.Running.{leaves_more}
use Rattle.rp_sockets.proofs.serving.Serving.serve_ready.Goals as goal

pub loop-event-preserved : goal.loop-event-preserved
loop-event-preserved c = (leaves_more c.args.tokens.now c.args.repository.now.content c.loop-event.repository.content c.drive.new.repository.content c.loop-event.invariant.0 c.drive.ensures.run, c.drive.ensures.partners ∙ c.loop-event.invariant.1)
