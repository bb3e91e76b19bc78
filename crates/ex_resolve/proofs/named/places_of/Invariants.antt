use Rattle.std.proofs.Common.{◌≡◌, ◌++◌, drop}
use Rattle.std.specs.List.{flat_map}
use Rattle.ex_resolve.specs.Schemas as spec
use Rattle.ex_resolve.proofs.named.places_of.Given as goal

abbrev pub invariant-loop-number : goal.invariant-loop-number
invariant-loop-number l = l.places.items ++ flat_map (spec.explicit_of l.entities) (drop l.number-index l.numbers) ≡ flat_map (spec.explicit_of l.entities) l.numbers
