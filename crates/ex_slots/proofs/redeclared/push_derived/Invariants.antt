use Rattle.std.proofs.Common.{◌≡◌, ◌++◌, drop}
use Rattle.std.specs.List.{filter_map}
use Rattle.ex_slots.specs.Slots as spec
use Rattle.ex_slots.proofs.redeclared.push_derived.Given as goal

abbrev pub invariant-loop-derived : goal.invariant-loop-derived
invariant-loop-derived l =
    l.found.items ++ filter_map spec.redeclared_derived (drop l.derived-index l.list) ≡ l.initial.found.items ++ filter_map spec.redeclared_derived l.list
