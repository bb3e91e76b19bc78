use Rattle.std.proofs.Common.{◌≢◌, ◌<◌, refl, sym, subst, ap, inl, inr, ◌∙◌, arith}
use Rattle.rp_http.specs.declared.connection.Phase.TheVariants.{Wants, Refuses}
use Rattle.rp_http.specs.Bytes.{owed_in}
use Rattle.rp_http.specs.Inboxes.{weight}
use Rattle.rp_http.proofs.Feeding.{IsFed, fed_first, fed_more, fault_of}
use Rattle.rp_http.proofs.Serving.{begins, over_run, as_short, read_run, turns_left, wants_not, refuses_not}
use Rattle.rp_http.proofs.serve.serve_connection.Goals as goal

pub turns-init : goal.turns-init
turns-init g c =
    let s = c.in-Ok-new.connection in
    record {
      served = begins c.args.tokens.now c.args.repository.now.content _ _ s.inbox (owed_in s.outbox) s.phase c.in-Ok-new.ensures.inbox c.in-Ok-new.ensures.outbox c.in-Ok-new.ensures.phase;
      turns = c.in-Ok-new.ensures.phase;
      partners = refl;
      fed = fed_first _ _ _ c.in-Ok-new.ensures.reads;
      same_reader = refl;
      same_writer = refl;
    }

pub returns-in_default-send_all-clause-cut : goal.returns-in_default-send_all-clause-cut
returns-in_default-send_all-clause-cut g c = λ _. c.in_default-send_all.ensures.cut _ _ _ _ _ _ (c.turn.ensures.served _ _ _ _ _ c.turns.invariant.served)

pub returns-then-is_last-clause-whole : goal.returns-then-is_last-clause-whole
returns-then-is_last-clause-whole g c =
    let s = c.send_all.new.connection in
    over_run c.args.tokens.now c.args.repository.now.content c.turn.new.repository.content _ _ _ _ s.inbox (owed_in s.outbox) s.phase (c.is_last.ensures.last c.if-is_last.true) c.in-Ok-send_all.ensures.out
    (c.send_all.ensures.served _ _ _ _ _ _ (c.turn.ensures.served _ _ _ _ _ c.turns.invariant.served))

pub returns-then-count-eq0-clause-whole : goal.returns-then-count-eq0-clause-whole
returns-then-count-eq0-clause-whole g c =
    inl (c.in-Ok-read.ensures.ended c.if-count-eq0.true c.args.tokens.now c.args.repository.now.content c.turn.new.repository.content _ _ _
    (c.send_all.ensures.served _ _ _ _ _ _ (c.turn.ensures.served _ _ _ _ _ c.turns.invariant.served)))

pub turns-preserved-else-count-eq0 : goal.turns-preserved-else-count-eq0
turns-preserved-else-count-eq0 g c =
    let some : 0 < c.in-Ok-read.count = omega (arith, c.if-count-eq0.false) in
    let gave = c.in-Ok-read.ensures.gave in
    let same = c.send_all.ensures.reads ∙ c.turn.ensures.reads in
    record {
      served = c.read.ensures.served _ _ _ _ _ _ (c.send_all.ensures.served _ _ _ _ _ _ (c.turn.ensures.served _ _ _ _ _ c.turns.invariant.served));
      turns = c.in-Ok-read.ensures.phase some;
      partners = c.turn.ensures.partners ∙ c.turns.invariant.partners;
      fed = fed_more _ _ _ _ _ _ gave.0 _ _ c.turns.invariant.fed (c.in-Ok-read.ensures.reads ∙ same) c.in-Ok-read.ensures.counted gave.2 (omega (arith, gave.1, some));
      same_reader = c.in-Ok-read.ensures.same ∙ c.turns.invariant.same_reader;
      same_writer = c.in-Ok-send_all.ensures.same ∙ c.turns.invariant.same_writer;
    }

pub returns-in-Err-clause-first : goal.returns-in-Err-clause-first
returns-in-Err-clause-first g c = λ _.
    let s = c.send_all.new.connection in
    let short = as_short c.args.tokens.now c.args.repository.now.content c.turn.new.repository.content _ _ _ _ s.inbox (owed_in s.outbox) s.phase (c.wants.ensures.wants c.if-wants.true)
    (c.send_all.ensures.served _ _ _ _ _ _ (c.turn.ensures.served _ _ _ _ _ c.turns.invariant.served)) in
    read_run c.args.tokens.now c.args.repository.now.content c.turn.new.repository.content _ _ _ _ _ s.inbox (owed_in s.outbox) short c.in-Err.ensures.kept.1

pub returns-in-Err-clause-read_failed : goal.returns-in-Err-clause-read_failed
returns-in-Err-clause-read_failed g c = λ _.
    fault_of g.R.Source.reads_made g.R.Source.read_failures c.args.reader.now c.turns.reader c.read.new.reader (g.R.Source.remaining c.args.reader.now) (g.R.Source.remaining c.turns.reader)
    c.turns.connection.reads _ c.turns.invariant.fed (c.send_all.ensures.reads ∙ c.turn.ensures.reads) c.turns.invariant.same_reader c.in-Err.ensures.err

pub turns-smaller : goal.turns-smaller
turns-smaller g c =
    let more : c.turn.new.self.phase ≢ Wants = λ e. c.wants.ensures.other c.if-wants.false (c.send_all.ensures.stays (wants_not _ e) ∙ e) in
    let sends : c.turn.new.self.phase ≢ Refuses = λ e. c.is_last.ensures.more c.if-is_last.false (inr (c.send_all.ensures.stays (refuses_not _ e) ∙ e)) in
    omega (arith, c.turn.ensures.less more sends, ap (λ i. weight i) c.send_all.ensures.inbox, c.send_all.ensures.reads, c.turn.ensures.reads)

pub turns-preserved : goal.turns-preserved
turns-preserved g c =
    let same = c.send_all.ensures.reads ∙ c.turn.ensures.reads in
    record {
      served = c.send_all.ensures.served _ _ _ _ _ _ (c.turn.ensures.served _ _ _ _ _ c.turns.invariant.served);
      turns = turns_left _ (c.is_last.ensures.more c.if-is_last.false) (c.wants.ensures.other c.if-wants.false) c.in-Ok-send_all.ensures.phase;
      partners = c.turn.ensures.partners ∙ c.turns.invariant.partners;
      fed = subst (λ k. IsFed (g.R.Source.reads_made c.args.reader.now) (g.R.Source.reads_made c.turns.reader) (g.R.Source.remaining c.args.reader.now) (g.R.Source.remaining c.turns.reader) k)
          (sym same) c.turns.invariant.fed;
      same_reader = c.turns.invariant.same_reader;
      same_writer = c.in-Ok-send_all.ensures.same ∙ c.turns.invariant.same_writer;
    }
