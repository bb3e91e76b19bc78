use Rattle.std.proofs.Common.{◌≡◌, ◌++◌, drop}
use Rattle.ancestors.proofs.descents.copied.Given as goal

abbrev pub invariant-loop-above : goal.invariant-loop-above
invariant-loop-above l = l.found.items ++ drop l.above-index l.graph ≡ l.graph
