use Rattle.std.proofs.Common.{◌∙◌}
use Rattle.rp_sockets.proofs.Running.{leaves_more}
use Rattle.rp_sockets.proofs.client.Client.go.Goals as goal

pub returns-then-ne-clause-run : goal.returns-then-ne-clause-run
returns-then-ne-clause-run c = leaves_more c.args.tokens.now c.args.repository.now.content c.loop.repository.content c.step-fate.new.repository.content c.loop.invariant.0 c.step-fate.ensures.run

pub loop-preserved : goal.loop-preserved
loop-preserved c = (leaves_more c.args.tokens.now c.args.repository.now.content c.loop.repository.content c.step-fate.new.repository.content c.loop.invariant.0 c.step-fate.ensures.run, c.step-fate.ensures.partners ∙ c.loop.invariant.1)
