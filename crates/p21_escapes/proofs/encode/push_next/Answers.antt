use Rattle.std.proofs.Common.{rules, ◌≡◌, true, false}
use Rattle.std.proofs.lemmas.Result.{on_ok_weaker}
use Rattle.p21_escapes.specs.Encoding as spec
use Rattle.p21_escapes.proofs.Begins.{kept_by, kept_front}
use Rattle.p21_escapes.proofs.Runs.{run_closed, run_goes_on}
use Rattle.p21_escapes.proofs.encode.push_next.Goals as goal

pub returns-then-not-is_plain-clause-ok : goal.returns-then-not-is_plain-clause-ok
returns-then-not-is_plain-clause-ok c = λ cs.
    let is : spec.is_plain c.args.c ≡ false = search rules in
    run_goes_on c.args.out.now.items c.args.run.now.items c.push.new.self.items c.args.c cs is c.in_ok-push.ensures.items

pub returns-clause-ok : goal.returns-clause-ok
returns-clause-ok c =
    let is : spec.is_plain c.args.c ≡ true = search rules in
    on_ok_weaker c.push_plain.result
    (λ pushed cs. run_closed c.args.out.now.items c.push_open.new.out.items c.push_plain.new.out.items c.args.run.now.items c.clear.new.self.items c.args.c cs is
    (rw c.as_slice.ensures.value at c.in_ok-push_open.ensures.ok) c.clear.ensures.items pushed)
    c.push_plain.ensures.ok

pub returns-clause-keeps : goal.returns-clause-keeps
returns-clause-keeps c =
    kept_by c.push_plain.result c.args.out.now.items c.push_open.new.out.items c.push_plain.new.out.items (spec.plain_text c.args.c)
    (kept_front c.args.out.now.items c.push_open.new.out.items _ c.in_ok-push_open.ensures.ok) c.push_plain.ensures.ok c.push_plain.ensures.err
