use Rattle.std.proofs.Common.{◌∙◌}
use Rattle.rp_sockets.proofs.Running.{leaves_more}
use Rattle.rp_sockets.proofs.serving.Serving.finish.Goals as goal

pub loop-key-preserved : goal.loop-key-preserved
loop-key-preserved c = (leaves_more c.args.tokens.now c.args.repository.now.content c.loop-key.repository.content c.drive.new.repository.content c.loop-key.invariant.0 c.drive.ensures.run, c.drive.ensures.partners ∙ c.loop-key.invariant.1)
