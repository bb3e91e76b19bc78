use Rattle.std.proofs.Common.{◌≡◌, ◌++◌, drop}
use Rattle.ex_types.specs.Declarations as spec
use Rattle.ex_types.proofs.variables.push_locals.Given as goal

abbrev pub invariant-loop-local : goal.invariant-loop-local
invariant-loop-local l = l.found ++ spec.locals (drop l.local-index l.list) ≡ l.initial.found ++ spec.locals l.list
