use Rattle.std.proofs.Common.{◌≡◌, drop}
use Rattle.ex_named.specs.Outcomes.{each, each_after}
use Rattle.ex_bind_algorithms.specs.Algorithms.{local_variable}
use Rattle.ex_bind_algorithms.proofs.variables.local_variables.Given as goal

abbrev pub invariant-loop-local : goal.invariant-loop-local
invariant-loop-local l = each_after (local_variable l.declarations l.scope) l.found (drop l.local-index l.locals) ≡ each (local_variable l.declarations l.scope) l.locals
