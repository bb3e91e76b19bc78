use Rattle.std.proofs.lemmas.Str.{IsUtf8-past_char, chars_past_char}
use Rattle.std.proofs.lemmas.Result.{on_ok_weaker, on_err_weaker}
use Rattle.std.specs.Str.{chars}
use Rattle.std.specs.Str.Iter.{chars_rest}
use Rattle.p21_escapes.specs.Encoding.{encoded}
use Rattle.p21_escapes.proofs.Begins.{kept_through}
use Rattle.p21_escapes.proofs.Runs.{run_taken, run_ended, no_characters}
use Rattle.p21_escapes.proofs.encode.push_all.Goals as goal

pub loop-c-preserved : goal.loop-c-preserved
loop-c-preserved c =
    let held = c.loop-c.invariant in
    let parts = c.in-Some.ensures.steps.0 in
    let rest = chars_rest c.next.new.self in
    record {
      utf8 = IsUtf8-past_char _ rest c.in-Some.c held.utf8 parts;
      kept = kept_through c.args.out.now.items c.loop-c.out.items c.push_next.new.out.items held.kept c.push_next.ensures.keeps;
      text = run_taken c.args.out.now.items c.loop-c.out.items c.push_next.new.out.items c.loop-c.run.items c.push_next.new.run.items _ (chars rest) (encoded c.args.text.now) c.in-Some.c
          (chars_past_char _ rest c.in-Some.c held.utf8 parts) held.text (c.in_ok-push_next.ensures.ok (chars rest));
    }

pub returns-clause-ok : goal.returns-clause-ok
returns-clause-ok c =
    let held = c.loop-c.invariant in
    on_ok_weaker c.push_open.result (λ pushed. run_ended c.args.out.now.items c.loop-c.out.items c.push_open.new.out.items c.loop-c.run.items _ (encoded c.args.text.now) held.text (no_characters _ c.in-None.ensures.steps.0.0) (rw c.as_slice.ensures.value at pushed)) c.push_open.ensures.ok

pub returns-clause-err : goal.returns-clause-err
returns-clause-err c = on_err_weaker c.push_open.result (kept_through c.args.out.now.items c.loop-c.out.items c.push_open.new.out.items c.loop-c.invariant.kept) c.push_open.ensures.err
