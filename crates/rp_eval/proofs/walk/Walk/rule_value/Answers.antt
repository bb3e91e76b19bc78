use Rattle.std.proofs.Common.{rules}
use Rattle.rp_eval.proofs.walk.Walk.rule_value.Goals as goal

pub returns : goal.returns
returns g c =
    let after = c.condition_after.ensures.value c.algorithm.new.into in
    search (rules, after)
