use Rattle.std.proofs.Common.{◌≡◌, length}
use Rattle.ex_named.specs.Outcomes.{each, each_after}
use Rattle.ex_bind_algorithms.specs.Algorithms as algorithms
use Rattle.ex_resolve.proofs.parts.rules.Given as goal

abbrev pub invariant-loop-tree : goal.invariant-loop-tree
invariant-loop-tree l = each_after (algorithms.named_rule l.declarations) l.found l.left ≡ each (algorithms.named_rule l.declarations) l.initial.left

abbrev pub decreases-loop-tree : goal.decreases-loop-tree
decreases-loop-tree l = length l.left
