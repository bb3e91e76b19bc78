use Rattle.std.proofs.Common.{◌≡◌, is_ok, true, ◌≢◌, ◌<◌, [], ◌∷◌, ◌++◌, ◌∙◌, arith, length-append}
use Rattle.rp_io.specs.declared.chunk.Taken.TheVariants.{End}
use Rattle.rp_io.specs.Held.{turns}
use Rattle.rp_io.proofs.ReadLemmas.{spends_more}
use Rattle.rp_repo.proofs.RunLemmas.{on_ok, TakesLines-more, AreFirstLines-taken, Replies-more, Replies-cut}
use Rattle.rp_repo.proofs.run.run_lines.Goals as goal

pub returns-then-is_err-clause-cut : goal.returns-then-is_err-clause-cut
returns-then-is_err-clause-cut g c =
    let done = c.lines.invariant.done in
    let taken = rw c.in-Line.is at c.in-Ok.ensures.takes in
    λ _. (
      done.0 ++ taken.0 ∷ [],
      AreFirstLines-taken _ _ _ (TakesLines-more _ _ _ done.0 taken.0 done.1 taken.2),
      Replies-cut _ _ _ _ _ _ done.0 taken.0 _ done.2 (c.serve.ensures.served taken.0 taken.1),
    )

pub lines-preserved : goal.lines-preserved
lines-preserved g c =
    let done = c.lines.invariant.done in
    let taken = rw c.in-Line.is at c.in-Ok.ensures.takes in
    let some : c.in-Ok.taken ≢ End = λ e. (cc) in
    let fewer : turns c.next_line.new.chunk < turns c.lines.chunk = c.in-Ok.ensures.fewer some in
    let ok : is_ok c.serve.result ≡ true = c.if-is_err.ensures.negation in
    record {
      done = (
        done.0 ++ taken.0 ∷ [],
        TakesLines-more _ _ _ done.0 taken.0 done.1 taken.2,
        Replies-more _ _ _ _ _ _ done.0 taken.0 _ done.2 (c.serve.ensures.served taken.0 taken.1) ok,
        omega (arith, length-append done.0 (taken.0 ∷ []), done.3),
      );
      settled = c.in-Ok.ensures.settled;
      spends = spends_more _ _ _ _ _ _ _ _ _ c.lines.invariant.spends c.in-Ok.ensures.spends;
      same_reader = c.in-Ok.ensures.same ∙ c.lines.invariant.same_reader;
      same_writer = on_ok c.serve.result _ c.serve.ensures.ok ok ∙ c.lines.invariant.same_writer;
      fits = omega (arith, fewer, c.lines.invariant.fits);
    }
