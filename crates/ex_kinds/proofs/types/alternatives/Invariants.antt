use Rattle.std.proofs.Common.{◌≡◌, ◌++◌, drop}
use Rattle.ex_kinds.specs.Types as spec
use Rattle.ex_kinds.proofs.types.alternatives.Given as goal

abbrev pub invariant-loop-kinds : goal.invariant-loop-kinds
invariant-loop-kinds l = l.graph.items ++ spec.alternatives (drop l.kinds-index l.types) ≡ spec.alternatives l.types
