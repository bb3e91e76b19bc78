use Rattle.std.proofs.Common.{◌≡◌, drop}
use Rattle.ex_types.specs.Declarations as spec
use Rattle.ex_types.proofs.entities.all_entities.Given as goal

abbrev pub invariant-loop-number : goal.invariant-loop-number
invariant-loop-number l = spec.told_numbered_after (spec.entity l.schema) l.number l.found (drop l.number l.entities) ≡ spec.told_numbered (spec.entity l.schema) l.entities
