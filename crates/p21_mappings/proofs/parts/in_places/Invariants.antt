use Rattle.std.proofs.Common.{◌≡◌, ◌++◌, drop}
use Rattle.p21_mappings.specs.Instances as spec
use Rattle.p21_mappings.proofs.parts.in_places.Given as goal

abbrev pub invariant-loop-place : goal.invariant-loop-place
invariant-loop-place l = l.found ++ spec.in_places (drop l.place-index l.places) l.lists ≡ spec.in_places l.places l.lists
