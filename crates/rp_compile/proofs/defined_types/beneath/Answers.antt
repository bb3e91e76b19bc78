use Rattle.std.proofs.Common.{◌∙◌}
use Rattle.rp_compile.proofs.Renaming.{turned}
use Rattle.rp_compile.proofs.defined_types.beneath.Goals as goal

pub loop-turn-preserved : goal.loop-turn-preserved
loop-turn-preserved c =
    turned c.args.types.now c.loop-turn._turn c.loop-turn.last c.renamed-next.result c.loop-turn.found c.push.new.self c.loop-turn-test.true c.renamed-next.ensures c.if-next-last.false c.in_ok-push.ensures.ok
    ∙ c.loop-turn.invariant
