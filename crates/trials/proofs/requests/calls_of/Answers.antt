use Rattle.std.proofs.Common.{◌<◌, length}
use Rattle.trials.proofs.Calls.{one_more}
use Rattle.trials.proofs.requests.calls_of.Goals as goal

pub loop-line-preserved : goal.loop-line-preserved
loop-line-preserved c =
    let partners = c.args.repository.now.content.partners in
    rw c.in_ok-push.ensures.items (one_more (λ call. call.caller < length partners) c.loop-line.calls.items c.in_ok-call_of.field-0 c.loop-line.invariant c.in_ok-call_of.ensures)
