use Rattle.std.proofs.Common.{◌≡◌, drop, fold}
use Rattle.std.specs.List.{flat_map}
use Rattle.plain_data.specs.Numbers.{numbered_from}
use Rattle.ex_subtypes.specs.Faults as spec
use Rattle.ex_subtypes.proofs.build.first_fault.Given as goal

abbrev pub invariant-loop-number : goal.invariant-loop-number
invariant-loop-number l = fold spec.sooner l.first (flat_map (λ fs. fs) (numbered_from (spec.entity_faults l.entities) l.number (drop l.number l.entities))) ≡ spec.first_fault l.entities
