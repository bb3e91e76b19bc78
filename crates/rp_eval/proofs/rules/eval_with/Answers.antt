use Rattle.rp_eval.proofs.Knot.{left-falls}
use Rattle.rp_eval.proofs.rules.eval_with.Goals as goal

pub overflow_sub-result : goal.overflow_sub-result
overflow_sub-result g c =
    rw c.into_parts-found.ensures.counter (left-falls c.args.world.now 200 (record { left = c.args.limit; nesting = 0 }) c.ended-ended.new.run.counter c.in-Ok.value c.args.rule c.args.itself c.in-Ok.ensures.value)
