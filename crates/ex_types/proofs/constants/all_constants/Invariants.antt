use Rattle.std.proofs.Common.{◌≡◌, drop}
use Rattle.ex_types.specs.Declarations as spec
use Rattle.ex_types.proofs.constants.all_constants.Given as goal

abbrev pub invariant-loop-each : goal.invariant-loop-each
invariant-loop-each l = spec.told_after (spec.constant l.schema) l.found (drop l.each-index l.constants) ≡ spec.told (spec.constant l.schema) l.constants
