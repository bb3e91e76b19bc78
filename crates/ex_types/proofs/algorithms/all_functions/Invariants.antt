use Rattle.std.proofs.Common.{◌≡◌, drop}
use Rattle.ex_types.specs.Declarations as spec
use Rattle.ex_types.proofs.algorithms.all_functions.Given as goal

abbrev pub invariant-loop-each : goal.invariant-loop-each
invariant-loop-each l = spec.told_after (spec.function l.schema) l.found (drop l.each-index l.functions) ≡ spec.told (spec.function l.schema) l.functions
