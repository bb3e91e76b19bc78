use Rattle.std.proofs.Common.{◌≡◌, drop}
use Rattle.ex_types.specs.Declarations as spec
use Rattle.ex_types.proofs.defined_types.all_types.Given as goal

abbrev pub invariant-loop-number : goal.invariant-loop-number
invariant-loop-number l = spec.told_numbered_after (spec.defined_type l.schema) l.number l.found (drop l.number l.types) ≡ spec.told_numbered (spec.defined_type l.schema) l.types
