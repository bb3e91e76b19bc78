use Rattle.std.proofs.Common.{◌≡◌, ◌++◌, drop}
use Rattle.std.specs.List.{filter_map}
use Rattle.ex_kinds.specs.Kinds.{of_type}
use Rattle.ex_attributes.specs.Attributes as spec
use Rattle.ex_attributes.proofs.redeclarations.push_derived.Given as goal

abbrev pub invariant-loop-derived : goal.invariant-loop-derived
invariant-loop-derived l =
    l.found ++ filter_map (λ x. spec.redeclared_as l.entity (of_type x.data_type) x.attribute) (drop l.derived-index l.list)
    ≡ l.initial.found ++ filter_map (λ x. spec.redeclared_as l.entity (of_type x.data_type) x.attribute) l.list
