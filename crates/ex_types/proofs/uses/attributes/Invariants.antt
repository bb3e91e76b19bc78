use Rattle.std.proofs.Common.{◌≡◌, drop}
use Rattle.ex_types.specs.Declarations as spec
use Rattle.ex_types.proofs.uses.attributes.Given as goal

abbrev pub invariant-loop-each : goal.invariant-loop-each
invariant-loop-each l = spec.told_after spec.attribute l.found (drop l.each-index l.list) ≡ spec.told spec.attribute l.list
