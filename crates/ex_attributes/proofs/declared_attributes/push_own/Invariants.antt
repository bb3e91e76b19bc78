use Rattle.std.proofs.Common.{◌≡◌, ◌++◌, map, drop}
use Rattle.std.specs.List.{filter_map}
use Rattle.ex_kinds.specs.Kinds.{of_type}
use Rattle.ex_attributes.specs.Attributes as spec
use Rattle.ex_attributes.specs.Steps.{rows_of}
use Rattle.ex_attributes.proofs.declared_attributes.push_own.Given as goal

abbrev pub invariant-loop-attribute : goal.invariant-loop-attribute
invariant-loop-attribute l =
    rows_of l.rows.items ++ map (λ n. (n.text, of_type l.data_type)) (filter_map spec.own (drop l.attribute-index l.attributes))
    ≡ rows_of l.initial.rows.items ++ map (λ n. (n.text, of_type l.data_type)) (filter_map spec.own l.attributes)
