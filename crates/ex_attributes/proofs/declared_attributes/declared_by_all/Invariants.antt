use Rattle.std.proofs.Common.{◌≡◌, ◌++◌, drop}
use Rattle.std.specs.List.{flat_map}
use Rattle.plain_data.specs.Numbers.{numbered_from}
use Rattle.ex_attributes.specs.Attributes as spec
use Rattle.ex_attributes.proofs.declared_attributes.declared_by_all.Given as goal

abbrev pub invariant-loop-number : goal.invariant-loop-number
invariant-loop-number l = l.found ++ flat_map (λ rows. rows) (numbered_from spec.declared_by l.number (drop l.number l.entities)) ≡ spec.of_each spec.declared_by l.entities
