use Rattle.std.proofs.Common.{◌≡◌, ◌≤◌, ◌-◌, ◌++◌, length, filter, drop}
use Rattle.std.specs.List.{flat_map}
use Rattle.plain_data.specs.Numbers.{numbered_from}
use Rattle.ex_resolve.specs.Schemas as spec
use Rattle.ex_resolve.proofs.named.push_explicit.Given as goal

abbrev pub invariant-loop-explicit : goal.invariant-loop-explicit
invariant-loop-explicit l = (l.start ≤ length l.places.items)
    × (l.places.items ++ numbered_from (spec.place_in l.number) (length l.places.items - l.start) (flat_map (λ x. filter spec.is_own x.attributes) (drop l.explicit-index l.entity.explicit))
    ≡ l.initial.places.items ++ spec.explicit_places l.number l.entity)
