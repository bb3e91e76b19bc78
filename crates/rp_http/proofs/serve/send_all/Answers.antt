use Rattle.std.proofs.Common.{ℕ, List, Option}
use Rattle.rp_plain.specs.Plain.{Plain}
use Rattle.rp_http.specs.Runs.{IsCutRun}
use Rattle.rp_http.specs.Serving.{IsServed}
use Rattle.std.proofs.Common.{sym, ◌∙◌}
use Rattle.rp_http.proofs.Serving.{on_err}
use Rattle.rp_http.proofs.serve.send_all.Goals as goal

pub loop-connection-preserved : goal.loop-connection-preserved
loop-connection-preserved g c = record {
  served = λ tokens start now input known before is. c.send.ensures.served tokens start now input known before (c.loop-connection.invariant.served tokens start now input known before is);
  same = c.in_ok-send.ensures.same ∙ c.loop-connection.invariant.same;
  stays = λ other.
      let same = c.loop-connection.invariant.stays other in
      c.send.ensures.stays (λ e. other (sym same ∙ e)) ∙ same;
  wants = λ e. c.loop-connection.invariant.wants (c.send.ensures.wants e);
  inbox = c.send.ensures.inbox ∙ c.loop-connection.invariant.inbox;
  reads = c.send.ensures.reads ∙ c.loop-connection.invariant.reads;
}

pub returns-in_err-send-clause-served : goal.returns-in_err-send-clause-served
returns-in_err-send-clause-served g c = λ tokens start now input known before is.
    c.send.ensures.served tokens start now input known before (c.loop-connection.invariant.served tokens start now input known before is)

pub returns-in_err-send-clause-cut : goal.returns-in_err-send-clause-cut
returns-in_err-send-clause-cut g c =
    let cut : (tokens : List (List ℕ)) (start now : Plain) (input known before : Option (List ℕ)) → IsServed tokens start now input known before (g.W.Sink.contents c.args.writer.now) c.args.connection.now
    → IsCutRun tokens start now input before (g.W.Sink.contents c.send.new.writer) = λ tokens start now input known before is.
    c.in_err-send.ensures.cut (c.owes.ensures.owes c.loop-connection-test.true) tokens start now input known before (c.loop-connection.invariant.served tokens start now input known before is) in
    on_err c.from_residual.result _ cut

pub returns-clause-served : goal.returns-clause-served
returns-clause-served g c = λ tokens start now input known before is.
    c.settle.ensures.served tokens start now input known before _ (c.loop-connection.invariant.served tokens start now input known before is)

pub returns-clause-stays : goal.returns-clause-stays
returns-clause-stays g c = λ other.
    let same = c.loop-connection.invariant.stays other in
    c.settle.ensures.stays (λ e. other (sym same ∙ e)) ∙ same

pub returns-in_err-send-clause-stays : goal.returns-in_err-send-clause-stays
returns-in_err-send-clause-stays g c = λ other.
    let same = c.loop-connection.invariant.stays other in
    c.send.ensures.stays (λ e. other (sym same ∙ e)) ∙ same
