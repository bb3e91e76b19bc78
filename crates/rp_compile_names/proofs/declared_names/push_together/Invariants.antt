use Rattle.std.proofs.Common.{◌≡◌, drop, map, ◌++◌}
use Rattle.std.specs.List.{filter_map}
use Rattle.ex_attributes.specs.Attributes.{own}
use Rattle.ex_slots.specs.Slots as slots
use Rattle.rp_compile_names.proofs.declared_names.push_together.Given as goal

abbrev pub invariant-loop-attribute : goal.invariant-loop-attribute
invariant-loop-attribute l = slots.rows_of l.rows.items ++ map (λ n. (n, l.explicit)) (filter_map own (drop l.attribute-index l.explicit.attributes)) ≡ slots.rows_of l.initial.rows.items ++ slots.declared_together l.explicit
