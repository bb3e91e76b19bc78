use Rattle.std.proofs.Common.{◌∙◌}
use Rattle.rp_sockets.proofs.Running.{leaves_more}
use Rattle.rp_sockets.proofs.serving.Serving.accept.Goals as goal

pub returns-in_err-accept_one-clause-run : goal.returns-in_err-accept_one-clause-run
returns-in_err-accept_one-clause-run c = leaves_more c.args.tokens.now c.args.repository.now.content c.loop.repository.content c.accept_one.new.repository.content c.loop.invariant.0 c.accept_one.ensures.run

pub loop-preserved : goal.loop-preserved
loop-preserved c = (leaves_more c.args.tokens.now c.args.repository.now.content c.loop.repository.content c.accept_one.new.repository.content c.loop.invariant.0 c.accept_one.ensures.run, c.accept_one.ensures.partners ∙ c.loop.invariant.1)
