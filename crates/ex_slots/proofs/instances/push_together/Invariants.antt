use Rattle.std.proofs.Common.{◌≡◌, ◌++◌, map, drop}
use Rattle.std.specs.List.{filter_map}
use Rattle.ex_attributes.specs.Attributes.{own}
use Rattle.ex_slots.specs.Slots as spec
use Rattle.ex_slots.proofs.instances.push_together.Given as goal

abbrev pub invariant-loop-attribute : goal.invariant-loop-attribute
invariant-loop-attribute l =
    spec.rows_of l.rows.items ++ map (λ n. (n, l.explicit)) (filter_map own (drop l.attribute-index l.explicit.attributes))
    ≡ spec.rows_of l.initial.rows.items ++ spec.declared_together l.explicit
