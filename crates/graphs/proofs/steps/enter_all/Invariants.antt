use Rattle.std.proofs.Common.{◌≡◌, ◌++◌, map}
use Rattle.graphs.specs.declared.steps.Step.TheVariants.{Enter}
use Rattle.graphs.proofs.steps.enter_all.Given as goal

abbrev pub invariant-loop-member : goal.invariant-loop-member
invariant-loop-member l = l.steps.items ≡ l.initial.steps.items ++ map (λ m. Enter m.now) l.yielded
