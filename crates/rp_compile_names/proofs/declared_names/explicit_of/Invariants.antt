use Rattle.std.proofs.Common.{◌≡◌, drop, ◌++◌}
use Rattle.std.specs.List.{flat_map}
use Rattle.ex_slots.specs.Slots as slots
use Rattle.rp_compile_names.proofs.declared_names.explicit_of.Given as goal

abbrev pub invariant-loop-explicit : goal.invariant-loop-explicit
invariant-loop-explicit l = slots.rows_of l.rows.items ++ flat_map slots.declared_together (drop l.explicit-index l.entity.explicit) ≡ flat_map slots.declared_together l.entity.explicit
