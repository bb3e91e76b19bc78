use Rattle.rp_sockets.proofs.Running.{leaves_more}
use Rattle.rp_sockets.proofs.serving.Serving.serve_once.Goals as goal

pub returns-clause-run : goal.returns-clause-run
returns-clause-run g c = leaves_more c.args.tokens.now c.args.repository.now.content c.serve_all.new.repository.content c.look_around.new.repository.content c.serve_all.ensures.run c.look_around.ensures.run
