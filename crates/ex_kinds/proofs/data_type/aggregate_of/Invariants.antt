use Rattle.std.proofs.Common.{◌≡◌, ◌++◌, map, drop}
use Rattle.ex_kinds.specs.Kinds as spec
use Rattle.ex_kinds.proofs.data_type.aggregate_of.Given as goal

abbrev pub invariant-loop-element : goal.invariant-loop-element
invariant-loop-element l = l.kinds ++ map spec.deeper (drop l.element-index l.elements) ≡ spec.aggregate_of l.elements
