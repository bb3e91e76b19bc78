use Rattle.std.proofs.Common.{◌≡◌, ◌++◌, drop}
use Rattle.std.specs.List.{filter_map}
use Rattle.ex_kinds.specs.Kinds.{of_type}
use Rattle.ex_attributes.specs.Attributes as spec
use Rattle.ex_attributes.proofs.redeclarations.push_redeclared.Given as goal

abbrev pub invariant-loop-attribute : goal.invariant-loop-attribute
invariant-loop-attribute l =
    l.found ++ filter_map (spec.redeclared_as l.entity (of_type l.data_type)) (drop l.attribute-index l.attributes)
    ≡ l.initial.found ++ filter_map (spec.redeclared_as l.entity (of_type l.data_type)) l.attributes
