use Rattle.std.proofs.Common.{◌∙◌}
use Rattle.rp_sockets.proofs.Running.{leaves_more}
use Rattle.rp_sockets.proofs.serving.Serving.make_room.Goals as goal

pub returns-then-is_ended-clause-run : goal.returns-then-is_ended-clause-run
returns-then-is_ended-clause-run c = leaves_more c.args.tokens.now c.args.repository.now.content c.loop.repository.content c.drive.new.repository.content c.loop.invariant.0 c.drive.ensures.run

pub loop-preserved : goal.loop-preserved
loop-preserved c = (leaves_more c.args.tokens.now c.args.repository.now.content c.loop.repository.content c.drive.new.repository.content c.loop.invariant.0 c.drive.ensures.run, c.drive.ensures.partners ∙ c.loop.invariant.1)

pub returns-clause-run : goal.returns-clause-run
returns-clause-run c = leaves_more c.args.tokens.now c.args.repository.now.content c.loop.repository.content c.end_quietest.new.repository.content c.loop.invariant.0 c.end_quietest.ensures.run
