use Rattle.std.proofs.Common.{◌≡◌, drop, length, ◌++◌}
use Rattle.rp_compile.specs.Declarations as spec
use Rattle.rp_compile.proofs.algorithms.initials.Given as goal

abbrev pub invariant-loop-local : goal.invariant-loop-local
invariant-loop-local l = l.found ++ spec.initial_from l.schema l.scope (length l.variables.items) (drop l.local-index l.list) ≡ spec.initial_from l.schema l.scope (length l.parameters) l.list
