use Rattle.std.proofs.Common.{◌≡◌, ◌≤◌, ◌-◌, ◌++◌, length, filter, drop}
use Rattle.plain_data.specs.Numbers.{numbered_from}
use Rattle.ex_resolve.specs.Schemas as spec
use Rattle.ex_resolve.proofs.named.push_own.Given as goal

abbrev pub invariant-loop-attribute : goal.invariant-loop-attribute
invariant-loop-attribute l = (l.start ≤ length l.places.items)
    × (l.places.items ++ numbered_from (spec.place_in l.number) (length l.places.items - l.start) (filter spec.is_own (drop l.attribute-index l.attributes))
    ≡ l.initial.places.items ++ numbered_from (spec.place_in l.number) (length l.initial.places.items - l.start) (filter spec.is_own l.attributes))
