use Rattle.std.proofs.Common.{◌≡◌, ◌++◌, drop}
use Rattle.rp_meaning.specs.Populations.{instances, places_from}
use Rattle.rp_domain.proofs.extents.found_extent.Given as goal

abbrev pub invariant-loop-at : goal.invariant-loop-at
invariant-loop-at l = l.found ++ instances (places_from l.entity l.at (drop l.at l.instances)) ≡ instances (places_from l.entity 0 l.instances)
