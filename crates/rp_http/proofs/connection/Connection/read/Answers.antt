use Rattle.std.proofs.Common.{◌≡◌, length, take, subst, arith}
use Rattle.std.specs.Prelude.{min}
use Rattle.rp_io.specs.Reads.{MakesReads}
use Rattle.rp_http.specs.Inboxes.{room_of}
use Rattle.rp_http.specs.Stepping.{piece_room}
use Rattle.std.proofs.lemmas.List.{length-take, length-take-le}
use Rattle.rp_http.specs.Bytes.{owed_in}
use Rattle.rp_http.proofs.Serving.{read_nothing, read_on, as_short, ended_run, Keeps-none, consumes_none, kept_on_err}
use Rattle.rp_http.proofs.Stepping.{came_none, one_read}
use Rattle.rp_http.proofs.connection.Connection.read.Goals as goal

pub returns-in_err-count-clause-served : goal.returns-in_err-count-clause-served
returns-in_err-count-clause-served g c = λ tokens start now input before after is.
    let s = c.args.self.now in
    read_nothing tokens start now input _ _ before after s.inbox (owed_in s.outbox) s.phase c.requires (Keeps-none _ _ c.in_err-count.ensures.keeps) is

pub returns-then-count-gt0-clause-served : goal.returns-then-count-gt0-clause-served
returns-then-count-gt0-clause-served g c = λ tokens start now input before after is.
    let s = c.args.self.now in
    let short = as_short tokens start now input _ before after s.inbox (owed_in s.outbox) s.phase c.requires is in
    read_on tokens start now input _ _ before after s.inbox c.receive.new.self (owed_in s.outbox) _ short.idle c.in_ok-count.ensures.bytes (c.receive.ensures.holds tokens short.idle.came short.idle.holds)

pub returns-else-count-gt0-clause-served : goal.returns-else-count-gt0-clause-served
returns-else-count-gt0-clause-served g c = λ tokens start now input before after is.
    let s = c.args.self.now in
    read_nothing tokens start now input _ _ before after s.inbox (owed_in s.outbox) s.phase c.requires (consumes_none _ _ _ c.in_ok-count.count (omega (arith, c.if-count-gt0.false)) c.in_ok-count.ensures.bytes) is

pub returns-else-count-gt0-clause-ended : goal.returns-else-count-gt0-clause-ended
returns-else-count-gt0-clause-ended g c = λ none tokens start now input before after is.
    let s = c.args.self.now in
    let short = as_short tokens start now input _ before after s.inbox (owed_in s.outbox) s.phase c.requires is in
    ended_run tokens start now input _ _ before after s.inbox (owed_in s.outbox) short (consumes_none _ _ _ c.in_ok-count.count none c.in_ok-count.ensures.bytes)
    (c.in_ok-count.ensures.end none (omega (arith, short.room, c.room.ensures, c.min-room.ensures)))

pub returns-then-count-gt0-clause-counted : goal.returns-then-count-gt0-clause-counted
returns-then-count-gt0-clause-counted g c = record { count = c.read_once.ensures.counted.count }

pub returns-else-count-gt0-clause-counted : goal.returns-else-count-gt0-clause-counted
returns-else-count-gt0-clause-counted g c = record { count = c.read_once.ensures.counted.count }

pub returns-in_err-count-clause-kept : goal.returns-in_err-count-clause-kept
returns-in_err-count-clause-kept g c = kept_on_err c.from_residual.result c.args.self.now _ _ c.in_err-count.ensures.keeps

pub returns-then-count-gt0-clause-gives : goal.returns-then-count-gt0-clause-gives
returns-then-count-gt0-clause-gives g c = λ room.
    let n = c.in_ok-count.count in
    let piece = c.args.workspace.now.piece in
    let all : length (take c.min-room.result piece) ≡ min piece_room (room_of c.args.self.now.inbox) = omega (arith, length-take c.min-room.result piece, c.room.ensures, c.min-room.ensures) in
    let fits = length-take-le n _ c.in_ok-count.ensures.bound in (
      _,
      fits,
      one_read g.R.Source.reads_made g.R.Source.remaining g.R.Source.read_gives c.args.reader.now c.read_once.new.reader _ n _ fits
          (subst (λ k. MakesReads (g.R.Source.reads_made c.args.reader.now) (g.R.Source.reads_made c.read_once.new.reader) 1 k) all c.read_once.ensures.counted) c.in_ok-count.ensures.gives c.in_ok-count.ensures.bytes (λ none. c.in_ok-count.ensures.end none (omega (arith, room, c.room.ensures, c.min-room.ensures))),
      c.receive.ensures.holds,
    )

pub returns-else-count-gt0-clause-gives : goal.returns-else-count-gt0-clause-gives
returns-else-count-gt0-clause-gives g c = λ room.
    let n = c.in_ok-count.count in
    let piece = c.args.workspace.now.piece in
    let all : length (take c.min-room.result piece) ≡ min piece_room (room_of c.args.self.now.inbox) = omega (arith, length-take c.min-room.result piece, c.room.ensures, c.min-room.ensures) in
    let fits = length-take-le n _ c.in_ok-count.ensures.bound in (
      _,
      fits,
      one_read g.R.Source.reads_made g.R.Source.remaining g.R.Source.read_gives c.args.reader.now c.read_once.new.reader _ n _ fits
          (subst (λ k. MakesReads (g.R.Source.reads_made c.args.reader.now) (g.R.Source.reads_made c.read_once.new.reader) 1 k) all c.read_once.ensures.counted) c.in_ok-count.ensures.gives c.in_ok-count.ensures.bytes (λ none. c.in_ok-count.ensures.end none (omega (arith, room, c.room.ensures, c.min-room.ensures))),
      λ tokens came. came_none tokens came _ n c.args.self.now.inbox (omega (arith, c.if-count-gt0.false)),
    )
