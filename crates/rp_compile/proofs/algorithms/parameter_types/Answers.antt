use Rattle.std.proofs.Common.{map, ◌∙◌}
use Rattle.rp_compile.proofs.Variables.{next-parameter}
use Rattle.rp_compile.proofs.algorithms.parameter_types.Goals as goal

pub loop-parameter-preserved : goal.loop-parameter-preserved
loop-parameter-preserved c =
    next-parameter c.args.list.now c.loop-parameter.parameter-index c.parameter-item.result (map (λ t. t.now) c.loop-parameter.found.items) (map (λ t. t.now) c.push_for_each.new.found.items) c.as_slice.result.now
    c.loop-parameter-test.true c.parameter-item.is c.as_slice.ensures c.in_ok-push_for_each.ensures.types
    ∙ c.loop-parameter.invariant
