use Rattle.std.proofs.Common.{◌≡◌, drop}
use Rattle.ex_types.specs.Declarations as spec
use Rattle.ex_types.proofs.entities.derived.Given as goal

abbrev pub invariant-loop-each : goal.invariant-loop-each
invariant-loop-each l = spec.told_after (spec.derived_one l.schema l.scope) l.found (drop l.each-index l.list) ≡ spec.told (spec.derived_one l.schema l.scope) l.list
