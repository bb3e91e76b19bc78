use Rattle.std.proofs.Common.{◌≡◌, ◌++◌, drop}
use Rattle.ex_types.specs.Declarations as spec
use Rattle.ex_types.proofs.variables.parameters.Given as goal

abbrev pub invariant-loop-parameter : goal.invariant-loop-parameter
invariant-loop-parameter l = l.found ++ spec.parameters (drop l.parameter-index l.list) ≡ spec.parameters l.list
