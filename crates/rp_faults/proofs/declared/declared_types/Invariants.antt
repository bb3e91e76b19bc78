use Rattle.std.proofs.Common.{◌≡◌, ◌++◌, drop, map}
use Rattle.std.specs.List.{flat_map}
use Rattle.rp_meaning.specs.Faults.{redeclared_by}
use Rattle.rp_faults.specs.Declarations.{all_now, declared_types}
use Rattle.rp_faults.proofs.declared.declared_types.Given as goal

abbrev pub invariant-loop-entity : goal.invariant-loop-entity
invariant-loop-entity l =
    all_now l.found.items ++ map (λ x. x.data_type) (flat_map (redeclared_by l.schema l.attribute) (drop l.entity-index l.entities)) ≡ declared_types l.schema l.entities l.attribute
