use Rattle.std.proofs.Common.{subst}
use Rattle.std.specs.Prelude.{Err}
use Rattle.rp_messages.specs.declared.routing.Unrouted.{Unrouted}
use Rattle.rp_http.specs.Turns.{IsRouted}
use Rattle.rp_http.proofs.Answering.{no_memory, barely, unreadable}
use Rattle.rp_http.proofs.turn.answer_unrouted.Goals as goal

pub returns-in-Head : goal.returns-in-Head
returns-in-Head c = λ r asked is. barely r asked c.in-Head.bare _ (subst (λ (u : Unrouted). IsRouted asked (Err u)) c.in-Head.is is) c.bare_answer.ensures

pub returns-in-BadRequest : goal.returns-in-BadRequest
returns-in-BadRequest c = λ r asked is. unreadable r asked _ (subst (λ (u : Unrouted). IsRouted asked (Err u)) c.in-BadRequest.is is) c.refused.ensures

pub returns-in-NoMemory : goal.returns-in-NoMemory
returns-in-NoMemory c = λ r asked is. no_memory r _ _ c.no_memory_answer.ensures
