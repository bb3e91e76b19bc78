use Rattle.rp_sockets.proofs.Running.{leaves_more}
use Rattle.rp_sockets.proofs.serving.Serving.serve_all.Goals as goal

pub returns-clause-run : goal.returns-clause-run
returns-clause-run c = leaves_more c.args.tokens.now c.args.repository.now.content c.serve_open.new.repository.content c.finish.new.repository.content c.serve_open.ensures.run c.finish.ensures.run
