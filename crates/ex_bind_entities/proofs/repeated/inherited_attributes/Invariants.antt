use Rattle.std.proofs.Common.{◌≡◌, ◌++◌, drop}
use Rattle.std.specs.List.{flat_map}
use Rattle.ex_scopes.specs.declared.sorts.Sorts.TheVariants.{Explicit, ExplicitOrDerived}
use Rattle.ex_bind_entities.specs.Inherited.{read, inherited_by, inherited_of}
use Rattle.ex_bind_entities.proofs.repeated.inherited_attributes.Given as goal

abbrev pub invariant-loop-explicit : goal.invariant-loop-explicit
invariant-loop-explicit l = read l.found.items ++ flat_map (λ x. flat_map (inherited_by Explicit) x.attributes) (drop l.explicit-index l.explicit-items)
    ≡ flat_map (λ x. flat_map (inherited_by Explicit) x.attributes) l.body.explicit

abbrev pub invariant-loop-derived : goal.invariant-loop-derived
invariant-loop-derived l = read l.found.items ++ flat_map (λ x. inherited_by ExplicitOrDerived x.attribute) (drop l.derived-index l.derived-items) ≡ inherited_of l.body
