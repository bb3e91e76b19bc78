use Rattle.rp_sockets.proofs.Running.{leaves_more}
use Rattle.rp_sockets.proofs.serving.Serving.admit.Goals as goal

pub returns-clause-run : goal.returns-clause-run
returns-clause-run c = leaves_more c.args.tokens.now c.args.repository.now.content c.keep_within.new.repository.content c.connection-connection.new.repository.content c.keep_within.ensures.run c.connection-connection.ensures.run
