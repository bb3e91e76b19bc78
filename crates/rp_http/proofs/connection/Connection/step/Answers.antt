use Rattle.std.proofs.Common.{◌<◌, refl, inl, ap, ◌∙◌, arith}
use Rattle.rp_http.specs.declared.connection.Phase.TheVariants.{Wants}
use Rattle.rp_http.specs.Bytes.{owed_in}
use Rattle.rp_http.proofs.Leaving.{leaves_none}
use Rattle.rp_http.proofs.Serving.{over_run, whole_if, keeps_same, on_err_then, sends_not}
use Rattle.rp_http.proofs.Stepping.{come_at, come_still, come_more, read_none, takes_on, spends_on}
use Rattle.rp_http.proofs.connection.Connection.step.Goals as goal

pub returns-in-Turns-clause-served : goal.returns-in-Turns-clause-served
returns-in-Turns-clause-served g c = λ start input before is. c.turn.ensures.served start input _ before _ is

pub returns-then-count-eq0-clause-served : goal.returns-then-count-eq0-clause-served
returns-then-count-eq0-clause-served g c = λ start input before is. c.read.ensures.served c.args.tokens.now start c.args.repository.now.content input before _ is

pub returns-then-count-eq0-clause-run : goal.returns-then-count-eq0-clause-run
returns-then-count-eq0-clause-run g c = leaves_none c.args.tokens.now c.args.repository.now.content

pub returns-then-count-eq0-clause-whole : goal.returns-then-count-eq0-clause-whole
returns-then-count-eq0-clause-whole g c = λ ends start now input before is. inl (c.in-Ok.ensures.ended c.if-count-eq0.true c.args.tokens.now start now input before _ is)

pub returns-else-count-eq0-clause-served : goal.returns-else-count-eq0-clause-served
returns-else-count-eq0-clause-served g c = λ start input before is. c.read.ensures.served c.args.tokens.now start c.args.repository.now.content input before _ is

pub returns-else-count-eq0-clause-run : goal.returns-else-count-eq0-clause-run
returns-else-count-eq0-clause-run g c = leaves_none c.args.tokens.now c.args.repository.now.content

pub returns-in-Err-clause-served : goal.returns-in-Err-clause-served
returns-in-Err-clause-served g c = λ start input before is. c.read.ensures.served c.args.tokens.now start c.args.repository.now.content input before _ is

pub returns-in-Err-clause-run : goal.returns-in-Err-clause-run
returns-in-Err-clause-run g c = leaves_none c.args.tokens.now c.args.repository.now.content

pub returns-in-Sends-clause-served : goal.returns-in-Sends-clause-served
returns-in-Sends-clause-served g c = λ start input before is. c.send_on.ensures.served c.args.tokens.now start c.args.repository.now.content input _ before is

pub returns-in-Sends-clause-run : goal.returns-in-Sends-clause-run
returns-in-Sends-clause-run g c = leaves_none c.args.tokens.now c.args.repository.now.content

pub returns-in-Sends-clause-whole : goal.returns-in-Sends-clause-whole
returns-in-Sends-clause-whole g c =
    whole_if c.send_on.result c.send_on.ensures.over c.send_on.ensures.ended (λ last start now input before is.
    over_run c.args.tokens.now start now input _ before _ c.send_on.new.self.inbox (owed_in c.send_on.new.self.outbox) c.send_on.new.self.phase last.0 last.1
    (c.send_on.ensures.served c.args.tokens.now start now input _ before is))

pub returns-in-Turns-clause-moves : goal.returns-in-Turns-clause-moves
returns-in-Turns-clause-moves g c = (c.in-Turns.is, c.turn.ensures.phase)

pub returns-in-Turns-clause-spends : goal.returns-in-Turns-clause-spends
returns-in-Turns-clause-spends g c = (c.turn.ensures.reads, refl)

pub returns-then-count-eq0-clause-moves : goal.returns-then-count-eq0-clause-moves
returns-then-count-eq0-clause-moves g c =
    let none = c.in-Ok.ensures.none c.if-count-eq0.true in
    (c.in-Wants.is, none.1 ∙ c.in-Wants.is, none.0, c.read.ensures.outbox)

pub returns-then-count-eq0-clause-spends : goal.returns-then-count-eq0-clause-spends
returns-then-count-eq0-clause-spends g c =
    let gave = c.in-Ok.ensures.gave in
    (c.in-Ok.ensures.reads, c.in-Ok.ensures.counted, (gave.0, gave.1 ∙ c.if-count-eq0.true, gave.2))

pub returns-else-count-eq0-clause-moves : goal.returns-else-count-eq0-clause-moves
returns-else-count-eq0-clause-moves g c =
    let some : 0 < c.in-Ok.count = omega (arith, c.if-count-eq0.false) in
    (c.in-Wants.is, some, c.in-Ok.ensures.phase some, c.read.ensures.outbox)

pub returns-else-count-eq0-clause-spends : goal.returns-else-count-eq0-clause-spends
returns-else-count-eq0-clause-spends g c = (c.in-Ok.ensures.reads, c.in-Ok.ensures.counted, c.in-Ok.ensures.gave)

pub returns-in-Err-clause-kept : goal.returns-in-Err-clause-kept
returns-in-Err-clause-kept g c = (c.in-Err.ensures.kept.0, refl, c.in-Err.ensures.kept.1, keeps_same _)

pub returns-in-Err-clause-read_failed : goal.returns-in-Err-clause-read_failed
returns-in-Err-clause-read_failed g c = λ _. (c.in-Wants.is, refl, c.in-Err.ensures.err)

pub returns-in-Sends-clause-moves : goal.returns-in-Sends-clause-moves
returns-in-Sends-clause-moves g c =
    let others = sends_not c.args.self.now.phase c.in-Sends.is in
    c.send_on.ensures.moves others.0 others.1

pub returns-in-Sends-clause-spends : goal.returns-in-Sends-clause-spends
returns-in-Sends-clause-spends g c =
    let others = sends_not c.args.self.now.phase c.in-Sends.is in
    spends_on g.R.Source.reads_made g.R.Source.remaining c.args.reader.now c.args.self.now c.send_on.new.self c.send_on.result others.1 (c.send_on.ensures.moves others.0 others.1) c.send_on.ensures.reads

pub returns-in-Sends-clause-kept : goal.returns-in-Sends-clause-kept
returns-in-Sends-clause-kept g c = on_err_then c.send_on.result c.send_on.ensures.kept (λ is. (is.0, refl, keeps_same _, is.1))

pub returns-in-Sends-clause-read_failed : goal.returns-in-Sends-clause-read_failed
returns-in-Sends-clause-read_failed g c = λ is. absurd (c.send_on.ensures.other is)

pub returns-in-Sends-clause-write_failed : goal.returns-in-Sends-clause-write_failed
returns-in-Sends-clause-write_failed g c = λ is.
    let failed = c.send_on.ensures.write_failed is in
    (failed.0, refl, failed.1)

pub returns-in-Turns-clause-between : goal.returns-in-Turns-clause-between
returns-in-Turns-clause-between g c = λ later. absurd (later c.in-Turns.is)

pub returns-in-Turns-clause-still : goal.returns-in-Turns-clause-still
returns-in-Turns-clause-still g c = λ later. absurd (later c.in-Turns.is)

pub returns-in-Turns-clause-takes : goal.returns-in-Turns-clause-takes
returns-in-Turns-clause-takes g c = c.turn.ensures.takes

pub returns-then-count-eq0-clause-between : goal.returns-then-count-eq0-clause-between
returns-then-count-eq0-clause-between g c = λ later start now input before is. c.read.ensures.served c.args.tokens.now start now input before _ is

pub returns-then-count-eq0-clause-takes : goal.returns-then-count-eq0-clause-takes
returns-then-count-eq0-clause-takes g c = λ came is.
    let s = c.args.self.now in
    let none = c.in-Ok.ensures.none c.if-count-eq0.true in
    let come = come_at c.args.tokens.now came s.inbox (owed_in s.outbox) s.phase Wants c.in-Wants.is is in
    let gave = c.in-Ok.ensures.gives come.3 in (
      read_none g.R.Source.reads_made g.R.Source.remaining g.R.Source.read_gives c.args.reader.now c.read.new.reader _ gave.0 (gave.1 ∙ c.if-count-eq0.true) gave.2,
      come_still c.args.tokens.now came s.inbox c.read.new.self.inbox (owed_in s.outbox) (owed_in c.read.new.self.outbox) s.phase c.read.new.self.phase none.0 (ap owed_in c.read.ensures.outbox) none.1 is,
    )

pub returns-else-count-eq0-clause-between : goal.returns-else-count-eq0-clause-between
returns-else-count-eq0-clause-between g c = λ later start now input before is. c.read.ensures.served c.args.tokens.now start now input before _ is

pub returns-else-count-eq0-clause-takes : goal.returns-else-count-eq0-clause-takes
returns-else-count-eq0-clause-takes g c = λ came is.
    let s = c.args.self.now in
    let some : 0 < c.in-Ok.count = omega (arith, c.if-count-eq0.false) in
    let come = come_at c.args.tokens.now came s.inbox (owed_in s.outbox) s.phase Wants c.in-Wants.is is in
    let gave = c.in-Ok.ensures.gives come.3 in (
      gave.0,
      gave.1,
      gave.2,
      come_more c.args.tokens.now _ c.read.new.self.inbox (owed_in s.outbox) (owed_in c.read.new.self.outbox) c.read.new.self.phase (gave.3 c.args.tokens.now came come.0) (ap owed_in c.read.ensures.outbox) come.1 (c.in-Ok.ensures.phase some),
    )

pub returns-in-Err-clause-between : goal.returns-in-Err-clause-between
returns-in-Err-clause-between g c = λ later start now input before is. c.read.ensures.served c.args.tokens.now start now input before _ is

pub returns-in-Sends-clause-between : goal.returns-in-Sends-clause-between
returns-in-Sends-clause-between g c = λ later start now input before is. c.send_on.ensures.served c.args.tokens.now start now input _ before is

pub returns-in-Sends-clause-takes : goal.returns-in-Sends-clause-takes
returns-in-Sends-clause-takes g c = λ came is.
    let others = sends_not c.args.self.now.phase c.in-Sends.is in
    takes_on c.args.tokens.now came c.args.repository.now.content c.args.self.now c.send_on.new.self _ c.send_on.result others.0 others.1 (c.send_on.ensures.moves others.0 others.1) is

pub returns-in-Sends-clause-writes : goal.returns-in-Sends-clause-writes
returns-in-Sends-clause-writes g c = c.send_on.ensures.writes
