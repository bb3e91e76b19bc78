use Rattle.std.proofs.Common.{map, ◌∙◌}
use Rattle.rp_compile.proofs.Variables.{next-local}
use Rattle.rp_compile.proofs.algorithms.local_types.Goals as goal

pub loop-local-preserved : goal.loop-local-preserved
loop-local-preserved c =
    next-local c.args.list.now c.loop-local.local-index c.local-item.result (map (λ t. t.now) c.loop-local.found.items) (map (λ t. t.now) c.push_for_each.new.found.items) c.as_slice.result.now
    c.loop-local-test.true c.local-item.is c.as_slice.ensures c.in_ok-push_for_each.ensures.types
    ∙ c.loop-local.invariant
