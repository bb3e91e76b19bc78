use Rattle.std.proofs.Common.{refl, inl, inr, sym, ap, ◌∙◌}
use Rattle.rp_http.specs.Bytes.{owed_in}
use Rattle.rp_http.specs.Stepping.{settled}
use Rattle.rp_http.proofs.Serving.{sends_left, more_owed}
use Rattle.rp_http.proofs.Stepping.{sent_none}
use Rattle.rp_http.proofs.connection.Connection.send_on.Goals as goal

pub returns-clause-served : goal.returns-clause-served
returns-clause-served g c = λ tokens start now input known before is. c.settle.ensures.served tokens start now input known before _ is

pub returns-in-Ok-clause-served : goal.returns-in-Ok-clause-served
returns-in-Ok-clause-served g c = λ tokens start now input known before is. c.send.ensures.served tokens start now input known before is

pub returns-in-Err-clause-served : goal.returns-in-Err-clause-served
returns-in-Err-clause-served g c = λ tokens start now input known before is. c.send.ensures.served tokens start now input known before is

pub returns-clause-moves : goal.returns-clause-moves
returns-clause-moves g c = λ turns wants.
    let none = c.owes.ensures.none c.if-owes.false in
    let sends = sends_left c.args.self.now.phase (c.is_last.ensures.more c.if-is_last.false) turns wants in
    (turns, wants, c.settle.ensures.inbox, c.settle.ensures.settles ∙ ap (λ o. settled c.args.self.now.phase (owed_in o)) (sym c.settle.ensures.outbox), inr (none, sends))

pub returns-in-Ok-clause-moves : goal.returns-in-Ok-clause-moves
returns-in-Ok-clause-moves g c = λ turns wants. (turns, wants, c.send.ensures.inbox, c.in-Ok.ensures.settles, inl (c.in-Ok.ensures.fewer (c.owes.ensures.owes c.if-owes.true)))

pub returns-then-is_last-clause-moves : goal.returns-then-is_last-clause-moves
returns-then-is_last-clause-moves g c = λ turns wants. (c.is_last.ensures.last c.if-is_last.true, c.owes.ensures.none c.if-owes.false, refl)

pub returns-in-Err-clause-kept : goal.returns-in-Err-clause-kept
returns-in-Err-clause-kept g c = c.in-Err.ensures.kept

pub returns-clause-writes : goal.returns-clause-writes
returns-clause-writes g c = sent_none _ _ _ (ap owed_in c.settle.ensures.outbox)

pub returns-in-Ok-clause-writes : goal.returns-in-Ok-clause-writes
returns-in-Ok-clause-writes g c = c.in-Ok.ensures.sent

pub returns-in-Err-clause-write_failed : goal.returns-in-Err-clause-write_failed
returns-in-Err-clause-write_failed g c = λ _. (more_owed c.args.self.now.outbox.first c.args.self.now.outbox.rest (c.owes.ensures.owes c.if-owes.true), c.in-Err.ensures.err)
