use Rattle.rp_http.specs.Bytes.{owed_in}
use Rattle.rp_http.proofs.Serving.{settled, some_owed}
use Rattle.rp_http.proofs.Stepping.{settled_other, settled_out, settled_open}
use Rattle.std.proofs.Common.{arith, length-append}
use Rattle.rp_http.proofs.connection.Connection.settle.Goals as goal

pub returns-then-not-owes-clause-served : goal.returns-then-not-owes-clause-served
returns-then-not-owes-clause-served c = λ tokens start now input known before after is.
    let s = c.args.self.now in
    settled tokens start now input known before after s.inbox (owed_in s.outbox) s.phase (c.goes_on.ensures.goes c.if-not-goes_on.false) (c.owes.ensures.none c.if-not-owes.true) is

pub returns-else-not-owes-clause-phase : goal.returns-else-not-owes-clause-phase
returns-else-not-owes-clause-phase c = λ none. absurd (some_owed c.args.self.now.outbox.first c.args.self.now.outbox.rest (c.owes.ensures.owes c.if-not-owes.false) none)

pub returns-then-not-goes_on-clause-settles : goal.returns-then-not-goes_on-clause-settles
returns-then-not-goes_on-clause-settles c = settled_other c.args.self.now.phase (owed_in c.args.self.now.outbox) (c.goes_on.ensures.other c.if-not-goes_on.true)

pub returns-then-not-owes-clause-settles : goal.returns-then-not-owes-clause-settles
returns-then-not-owes-clause-settles c =
    settled_out c.args.self.now.phase (owed_in c.args.self.now.outbox) (c.goes_on.ensures.goes c.if-not-goes_on.false) (c.owes.ensures.none c.if-not-owes.true)

pub returns-else-not-owes-clause-settles : goal.returns-else-not-owes-clause-settles
returns-else-not-owes-clause-settles c =
    let s = c.args.self.now in
    settled_open s.phase (owed_in s.outbox) (omega (arith, length-append s.outbox.first s.outbox.rest, c.owes.ensures.owes c.if-not-owes.false))
