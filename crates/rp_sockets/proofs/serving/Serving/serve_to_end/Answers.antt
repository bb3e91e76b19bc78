use Rattle.std.proofs.Common.{◌∙◌}
use Rattle.rp_sockets.proofs.Running.{leaves_more}
use Rattle.rp_sockets.proofs.serving.Serving.serve_to_end.Goals as goal

pub returns-in_err-serve_next-clause-run : goal.returns-in_err-serve_next-clause-run
returns-in_err-serve_next-clause-run g c = leaves_more c.args.tokens.now c.args.repository.now.content c.loop.repository.content c.serve_next.new.repository.content c.loop.invariant.0 c.serve_next.ensures.run

pub loop-preserved : goal.loop-preserved
loop-preserved g c = (leaves_more c.args.tokens.now c.args.repository.now.content c.loop.repository.content c.serve_next.new.repository.content c.loop.invariant.0 c.serve_next.ensures.run, c.serve_next.ensures.partners ∙ c.loop.invariant.1)
