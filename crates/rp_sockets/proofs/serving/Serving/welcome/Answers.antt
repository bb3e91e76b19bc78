use Rattle.rp_sockets.proofs.Running.{leaves_more}
use Rattle.rp_sockets.proofs.serving.Serving.welcome.Goals as goal

pub returns-clause-run : goal.returns-clause-run
returns-clause-run c = leaves_more c.args.tokens.now c.args.repository.now.content c.admit.new.repository.content c.keep_spare.new.repository.content c.admit.ensures.run c.keep_spare.ensures.run
