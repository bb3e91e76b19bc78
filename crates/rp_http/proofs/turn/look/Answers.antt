use Rattle.std.proofs.Common.{refl}
use Rattle.http_messages.specs.Next.{call_of, parts_in}
use Rattle.rp_http.proofs.Answering.{asked_within, found}
use Rattle.rp_http.proofs.Looking.{whole_of, less_of, complete, gathered, decided, begun, shown_came}
use Rattle.rp_http.proofs.Leaving.{leaves_none, leaves_one}
use Rattle.rp_http.proofs.turn.look.Goals.{in-Ok, in-Err}
use Rattle.rp_http.proofs.turn.look.Goals as goal

pub use_up-requires : goal.use_up-requires
use_up-requires c = whole_of c.args.inbox.now (call_of c.in-Complete.message) c.in-Complete.size c.requires.looked (rw c.shown.ensures at c.in-Complete.ensures)

pub answer-requires : goal.answer-requires
answer-requires c = asked_within c.args.tokens.now (call_of c.in-Complete.message) _ c.route-asked.result c.route-asked.ensures.ok c.requires.few

pub returns-in-Complete-clause-turn : goal.returns-in-Complete-clause-turn
returns-in-Complete-clause-turn c = λ came holds.
    complete c.args.tokens.now came c.args.inbox.now c.use_up.new.self c.args.repository.now.content c.answer.new.repository.content (call_of c.in-Complete.message) c.in-Complete.size _ _ c.route-asked.result
    c.requires.looked holds (rw c.shown.ensures at c.in-Complete.ensures) c.use_up.ensures refl c.answer.ensures (found _ c.route-asked.result c.route-asked.ensures.ok c.route-asked.ensures.head c.route-asked.ensures.bad)

pub returns-in-Complete-clause-less : goal.returns-in-Complete-clause-less
returns-in-Complete-clause-less c =
    rw c.use_up.ensures (less_of c.args.inbox.now (call_of c.in-Complete.message) c.in-Complete.size c.requires.looked (rw c.shown.ensures at c.in-Complete.ensures))

pub returns-after-route_head-clause-turn : goal.returns-after-route_head-clause-turn
returns-after-route_head-clause-turn c = λ came holds.
    let is = rw c.shown.ensures at c.in-Awaits.ensures in
    let parts = parts_in c.in-Awaits.head in
    elim c.match-route_head.branch [
      | in-Ok w ↦ rw w.inbox-is (gathered c.args.tokens.now came c.args.inbox.now w.gather.new.self c.args.repository.now.content parts c.in-Awaits.size _ c.requires.looked holds is refl w.gather.ensures)
      | in-Err w ↦ rw w.inbox-is (decided c.args.tokens.now came c.args.inbox.now w.skip.new.self c.args.repository.now.content parts c.in-Awaits.size _ _ c.requires.looked holds is refl w.in-Err.ensures.err w.skip.ensures)
    ]

pub returns-in-Partial-clause-turn : goal.returns-in-Partial-clause-turn
returns-in-Partial-clause-turn c = λ came holds.
    begun c.args.tokens.now came c.args.inbox.now c.args.repository.now.content c.requires.looked holds (rw c.shown.ensures at c.in-Partial.ensures)

pub returns-in-Failed-clause-turn : goal.returns-in-Failed-clause-turn
returns-in-Failed-clause-turn c = λ came holds.
    (rw (c.shown.ensures, shown_came c.args.tokens.now came c.args.inbox.now c.requires.looked holds) at c.in-Failed.ensures, holds, refl)

pub returns-in-Complete-clause-run : goal.returns-in-Complete-clause-run
returns-in-Complete-clause-run c =
    leaves_one c.args.tokens.now c.args.repository.now.content c.answer.new.repository.content (call_of c.in-Complete.message) _ c.route-asked.result c.answer.ensures
    (found _ c.route-asked.result c.route-asked.ensures.ok c.route-asked.ensures.head c.route-asked.ensures.bad)

pub returns-after-route_head-clause-run : goal.returns-after-route_head-clause-run
returns-after-route_head-clause-run c = leaves_none c.args.tokens.now c.args.repository.now.content

pub returns-in-Partial-clause-run : goal.returns-in-Partial-clause-run
returns-in-Partial-clause-run c = leaves_none c.args.tokens.now c.args.repository.now.content

pub returns-in-Failed-clause-run : goal.returns-in-Failed-clause-run
returns-in-Failed-clause-run c = leaves_none c.args.tokens.now c.args.repository.now.content
