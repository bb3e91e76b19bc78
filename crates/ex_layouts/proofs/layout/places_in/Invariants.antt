use Rattle.std.proofs.Common.{◌≡◌, ◌++◌, map, drop}
use Rattle.ex_layouts.specs.Layouts as spec
use Rattle.ex_layouts.proofs.layout.places_in.Given as goal

abbrev pub invariant-loop-entity : goal.invariant-loop-entity
invariant-loop-entity l = l.places.items ++ map (spec.place_in l.numbers) (drop l.entity-index l.order) ≡ map (spec.place_in l.numbers) l.order
