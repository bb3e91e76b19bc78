use Rattle.rp_sockets.proofs.Running.{leaves_more}
use Rattle.rp_sockets.proofs.serving.Serving.serve_open.Goals as goal

pub returns-clause-run : goal.returns-clause-run
returns-clause-run c = leaves_more c.args.tokens.now c.args.repository.now.content c.serve_ready.new.repository.content c.sweep.new.repository.content c.serve_ready.ensures.run c.sweep.ensures.run
