use Rattle.std.proofs.Common.{◌≡◌, drop}
use Rattle.ex_types.specs.Declarations as spec
use Rattle.ex_types.proofs.variables.locals.Given as goal

abbrev pub invariant-loop-local : goal.invariant-loop-local
invariant-loop-local l = spec.told_after (spec.local l.schema l.scope) l.found (drop l.local-index l.list) ≡ spec.told (spec.local l.schema l.scope) l.list
