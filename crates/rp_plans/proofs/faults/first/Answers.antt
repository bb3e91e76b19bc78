use Rattle.std.proofs.Common.{None, get_or, refl, sym, ◌∙◌, add-one}
use Rattle.rp_plans.proofs.Firsts.{first_none, some_there, none_there}
use Rattle.rp_plans.proofs.faults.first.Goals as goal

pub returns-then-is_some : goal.returns-then-is_some
returns-then-is_some c =
    let test = get_or c.args.tests.now c.loop-test.test-index None in
    sym (some_there test (sym c.is_some.ensures ∙ c.if-is_some.true) c.args.tests.now c.loop-test.test-index c.loop-test-test.true c.loop-test.invariant refl)

pub loop-test-preserved : goal.loop-test-preserved
loop-test-preserved c =
    let test = get_or c.args.tests.now c.loop-test.test-index None in
    rw add-one (first_none c.args.tests.now c.loop-test.test-index None c.loop-test-test.true c.loop-test.invariant (none_there test (sym c.is_some.ensures ∙ c.if-is_some.false)))
