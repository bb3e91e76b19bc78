use Rattle.std.proofs.Common.{◌≡◌, ◌++◌, drop}
use Rattle.ex_kinds.specs.Kinds.{of_type}
use Rattle.ex_types.specs.Declarations as spec
use Rattle.ex_types.proofs.variables.push_for_each.Given as goal

abbrev pub invariant-loop-name : goal.invariant-loop-name
invariant-loop-name l = l.found ++ spec.for_each (drop l._name-index l.names) (of_type l.data_type) ≡ l.initial.found ++ spec.for_each l.names (of_type l.data_type)
