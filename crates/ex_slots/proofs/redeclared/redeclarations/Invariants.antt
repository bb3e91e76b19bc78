use Rattle.std.proofs.Common.{◌≡◌, ◌++◌, drop}
use Rattle.std.specs.List.{flat_map}
use Rattle.ex_slots.specs.Slots as spec
use Rattle.ex_slots.proofs.redeclared.redeclarations.Given as goal

abbrev pub invariant-loop-explicit : goal.invariant-loop-explicit
invariant-loop-explicit l =
    l.found.items ++ flat_map spec.redeclared_explicit (drop l.explicit-index l.entity.explicit) ≡ flat_map spec.redeclared_explicit l.entity.explicit
