use Rattle.std.proofs.Common.{◌≡◌, ◌++◌, drop}
use Rattle.std.specs.List.{filter_map, flat_map}
use Rattle.ex_kinds.specs.Kinds.{of_type}
use Rattle.ex_attributes.specs.Attributes as spec
use Rattle.ex_attributes.proofs.redeclarations.push_explicit.Given as goal

abbrev pub invariant-loop-explicit : goal.invariant-loop-explicit
invariant-loop-explicit l =
    l.found ++ flat_map (λ x. filter_map (spec.redeclared_as l.entity (of_type x.data_type)) x.attributes) (drop l.explicit-index l.list)
    ≡ l.initial.found ++ flat_map (λ x. filter_map (spec.redeclared_as l.entity (of_type x.data_type)) x.attributes) l.list
