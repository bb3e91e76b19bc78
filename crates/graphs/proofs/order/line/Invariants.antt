use Rattle.graphs.proofs.Walk.{Walk, weight}
use Rattle.graphs.proofs.order.line.Given as goal

abbrev pub invariant-loop-step : goal.invariant-loop-step
invariant-loop-step l = Walk l.graph l.member l.order l.order l.steps.items

abbrev pub decreases-loop-step : goal.decreases-loop-step
decreases-loop-step l = weight l.graph l.steps.items
