use Rattle.std.proofs.Common.{◌≡◌, ◌++◌, drop}
use Rattle.plain_data.specs.Numbers.{numbered, numbered_from}
use Rattle.ex_slots.specs.Slots as spec
use Rattle.ex_slots.proofs.instances.push_slots.Given as goal

abbrev pub invariant-loop-place : goal.invariant-loop-place
invariant-loop-place l =
    l.found.items ++ numbered_from (spec.slot (spec.has l.derived.keys) l.entity) l.place (spec.rows_of (drop l.place l.rows))
    ≡ l.initial.found.items ++ numbered (spec.slot (spec.has l.derived.keys) l.entity) (spec.rows_of l.rows)
