use Rattle.std.proofs.Common.{◌∙◌}
use Rattle.rp_sockets.proofs.Running.{leaves_more}
use Rattle.rp_sockets.proofs.serving.Serving.sweep.Goals as goal

pub loop-key-preserved : goal.loop-key-preserved
loop-key-preserved c = (leaves_more c.args.tokens.now c.args.repository.now.content c.loop-key.repository.content c.drive_late.new.repository.content c.loop-key.invariant.0 c.drive_late.ensures.run, c.drive_late.ensures.partners ∙ c.loop-key.invariant.1)
