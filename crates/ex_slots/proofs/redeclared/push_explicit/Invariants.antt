use Rattle.std.proofs.Common.{◌≡◌, ◌++◌, drop}
use Rattle.std.specs.List.{filter_map}
use Rattle.ex_slots.specs.declared.redeclared.Clause.TheVariants.{Explicit}
use Rattle.ex_slots.specs.Slots as spec
use Rattle.ex_slots.proofs.redeclared.push_explicit.Given as goal

abbrev pub invariant-loop-attribute : goal.invariant-loop-attribute
invariant-loop-attribute l =
    l.found.items ++ filter_map (spec.redeclared Explicit l.explicit.data_type) (drop l.attribute-index l.explicit.attributes)
    ≡ l.initial.found.items ++ spec.redeclared_explicit l.explicit
