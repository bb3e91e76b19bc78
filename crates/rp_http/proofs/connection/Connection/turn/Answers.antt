use Rattle.std.proofs.Common.{◌∙◌}
use Rattle.rp_http.specs.Bytes.{owed_in}
use Rattle.rp_http.proofs.Leaving.{leaves_partners}
use Rattle.rp_http.specs.declared.connection.Phase.TheVariants.{Turns}
use Rattle.rp_http.proofs.Serving.{as_idle, answered, refuses, short}
use Rattle.rp_http.proofs.Stepping.{come_at, taken_answer}
use Rattle.rp_http.proofs.connection.Connection.turn.Goals as goal

pub returns-in-Answered-clause-served : goal.returns-in-Answered-clause-served
returns-in-Answered-clause-served c = λ start input known before after is.
    let s = c.args.self.now in
    let old = c.args.repository.now.content in
    let idle = as_idle c.args.tokens.now start old input known before after s.inbox (owed_in s.outbox) s.phase c.requires.turns is in
    answered c.args.tokens.now start old c.take_turn.new.repository.content input known before after s.inbox c.take_turn.new.inbox (owed_in s.outbox) _ (owed_in c.put.new.self) c.in-Answered.stays
    idle (c.in-Answered.ensures.turn idle.came idle.holds) c.put.ensures

pub returns-in-Refused-clause-served : goal.returns-in-Refused-clause-served
returns-in-Refused-clause-served c = λ start input known before after is.
    let s = c.args.self.now in
    let old = c.args.repository.now.content in
    let idle = as_idle c.args.tokens.now start old input known before after s.inbox (owed_in s.outbox) s.phase c.requires.turns is in
    let turn = c.in-Refused.ensures.turn idle.came idle.holds in
    refuses c.args.tokens.now start old c.take_turn.new.repository.content input known before after s.inbox (owed_in s.outbox) (owed_in c.put-in-Refused.new.self) c.in-Refused.fault
    idle turn.0 turn.2 (c.put-in-Refused.ensures ∙ c.fault_answer.ensures)

pub returns-in-Wants-clause-served : goal.returns-in-Wants-clause-served
returns-in-Wants-clause-served c = λ start input known before after is.
    let s = c.args.self.now in
    let old = c.args.repository.now.content in
    let idle = as_idle c.args.tokens.now start old input known before after s.inbox (owed_in s.outbox) s.phase c.requires.turns is in
    let turn = c.in-Wants.ensures.turn idle.came idle.holds in
    short c.args.tokens.now start old c.take_turn.new.repository.content input known before after s.inbox c.take_turn.new.inbox (owed_in s.outbox) idle turn.0 turn.1 turn.2 turn.3

pub returns-in-Answered-clause-partners : goal.returns-in-Answered-clause-partners
returns-in-Answered-clause-partners c = leaves_partners c.args.tokens.now _ _ c.take_turn.ensures.run

pub returns-in-Refused-clause-partners : goal.returns-in-Refused-clause-partners
returns-in-Refused-clause-partners c = leaves_partners c.args.tokens.now _ _ c.take_turn.ensures.run

pub returns-in-Wants-clause-partners : goal.returns-in-Wants-clause-partners
returns-in-Wants-clause-partners c = leaves_partners c.args.tokens.now _ _ c.take_turn.ensures.run

pub returns-in-Answered-clause-takes : goal.returns-in-Answered-clause-takes
returns-in-Answered-clause-takes c = λ came is.
    let s = c.args.self.now in
    let come = come_at c.args.tokens.now came s.inbox (owed_in s.outbox) s.phase Turns c.requires.turns is in
    taken_answer c.args.tokens.now came c.args.repository.now.content c.take_turn.new.repository.content c.take_turn.new.inbox (owed_in c.put.new.self) _ c.in-Answered.stays
    (c.in-Answered.ensures.turn came come.0) c.put.ensures

pub returns-in-Refused-clause-takes : goal.returns-in-Refused-clause-takes
returns-in-Refused-clause-takes c = λ came is.
    let s = c.args.self.now in
    let come = come_at c.args.tokens.now came s.inbox (owed_in s.outbox) s.phase Turns c.requires.turns is in
    let turn = c.in-Refused.ensures.turn came come.0 in
    (turn.1, turn.2, (c.in-Refused.fault, turn.0, c.put-in-Refused.ensures ∙ c.fault_answer.ensures))

pub returns-in-Wants-clause-takes : goal.returns-in-Wants-clause-takes
returns-in-Wants-clause-takes c = λ came is.
    let s = c.args.self.now in
    let come = come_at c.args.tokens.now came s.inbox (owed_in s.outbox) s.phase Turns c.requires.turns is in
    let turn = c.in-Wants.ensures.turn came come.0 in
    ((turn.1, come.1, turn.0, turn.2), turn.3)
