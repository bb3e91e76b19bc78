use Rattle.std.proofs.Common.{◌<◌, ℕ, List, Option, length, sym, ap, ◌∙◌}
use Rattle.rp_plain.specs.Plain.{Plain}
use Rattle.rp_http.specs.Runs.{IsCutRun}
use Rattle.rp_http.specs.Serving.{IsServed}
use Rattle.rp_http.specs.Bytes.{owed_in}
use Rattle.rp_http.proofs.Serving.{write_failed, wrote_first, cut_run, on_err, kept_on_err}
use Rattle.rp_http.proofs.Stepping.{sent_of}
use Rattle.rp_http.specs.Stepping.{settled}
use Rattle.rp_http.proofs.connection.Connection.send.Goals as goal

pub returns-in_err-count-clause-served : goal.returns-in_err-count-clause-served
returns-in_err-count-clause-served g c = λ tokens start now input known before is.
    let s = c.args.self.now in
    write_failed tokens start now input known before _ _ s.inbox (owed_in s.outbox) s.phase c.in_err-count.ensures.bytes is

pub returns-clause-served : goal.returns-clause-served
returns-clause-served g c = λ tokens start now input known before is.
    let s = c.args.self.now in
    c.settle.ensures.served tokens start now input known before _
    (wrote_first tokens start now input known before _ _ s.inbox s.outbox.first s.outbox.rest _ c.in_ok-count.count s.phase (rw c.next.ensures.first at c.in_ok-count.ensures.bound) (rw c.next.ensures.first at c.in_ok-count.ensures.bytes) c.advance.ensures is)

pub returns-in_err-count-clause-cut : goal.returns-in_err-count-clause-cut
returns-in_err-count-clause-cut g c =
    let s = c.args.self.now in
    let cut : 0 < length s.outbox.first → (tokens : List (List ℕ)) (start now : Plain) (input known before : Option (List ℕ)) → IsServed tokens start now input known before (g.W.Sink.contents c.args.writer.now) s
    → IsCutRun tokens start now input before (g.W.Sink.contents c.write.new.self) = λ some tokens start now input known before is.
    cut_run tokens start now input known before _ s.inbox s.outbox.first s.outbox.rest s.phase some
    (write_failed tokens start now input known before _ _ s.inbox (owed_in s.outbox) s.phase c.in_err-count.ensures.bytes is) in
    on_err c.from_residual.result _ cut

pub returns-in_err-count-clause-kept : goal.returns-in_err-count-clause-kept
returns-in_err-count-clause-kept g c = kept_on_err c.from_residual.result c.args.self.now _ _ c.in_err-count.ensures.bytes

pub returns-clause-sent : goal.returns-clause-sent
returns-clause-sent g c =
    let s = c.args.self.now in
    sent_of s.outbox.first s.outbox.rest _ _ _ c.in_ok-count.count (rw c.next.ensures.first at c.in_ok-count.ensures.bound) (rw c.next.ensures.first at c.in_ok-count.ensures.bytes)
    (ap owed_in c.settle.ensures.outbox ∙ c.advance.ensures)

pub returns-clause-settles : goal.returns-clause-settles
returns-clause-settles g c = c.settle.ensures.settles ∙ ap (λ o. settled c.args.self.now.phase (owed_in o)) (sym c.settle.ensures.outbox)
