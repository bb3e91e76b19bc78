use Rattle.rp_http.proofs.Leaving.{leaves_none}
use Rattle.rp_http.proofs.Looking.{waits, skipped}
use Rattle.rp_http.proofs.turn.take_turn.Goals as goal

pub returns-in-Waits-clause-turn : goal.returns-in-Waits-clause-turn
returns-in-Waits-clause-turn c = λ came holds. waits c.args.tokens.now came c.args.inbox.now c.args.repository.now.content (rw c.in-Waits.is at c.ready.ensures) holds

pub returns-in-Waits-clause-run : goal.returns-in-Waits-clause-run
returns-in-Waits-clause-run c = leaves_none c.args.tokens.now c.args.repository.now.content

pub returns-in-Skipped-clause-turn : goal.returns-in-Skipped-clause-turn
returns-in-Skipped-clause-turn c = λ came holds.
    skipped c.args.tokens.now came c.args.inbox.now c.clear.new.self c.args.repository.now.content c.in-Skipped.stays c.in-Skipped.why _ (rw c.in-Skipped.is at c.ready.ensures) holds c.clear.ensures c.dropped_answer.ensures

pub returns-in-Skipped-clause-run : goal.returns-in-Skipped-clause-run
returns-in-Skipped-clause-run c = leaves_none c.args.tokens.now c.args.repository.now.content
