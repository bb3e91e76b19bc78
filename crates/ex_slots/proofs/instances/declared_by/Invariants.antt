use Rattle.std.proofs.Common.{◌≡◌, ◌++◌, drop}
use Rattle.std.specs.List.{flat_map}
use Rattle.ex_slots.specs.Slots as spec
use Rattle.ex_slots.proofs.instances.declared_by.Given as goal

abbrev pub invariant-loop-explicit : goal.invariant-loop-explicit
invariant-loop-explicit l =
    spec.rows_of l.rows.items ++ flat_map spec.declared_together (drop l.explicit-index l.entity.explicit) ≡ flat_map spec.declared_together l.entity.explicit
