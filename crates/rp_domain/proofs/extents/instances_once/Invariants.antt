use Rattle.std.proofs.Common.{◌≡◌, ◌++◌, drop}
use Rattle.rp_meaning.specs.Populations.{instances}
use Rattle.rp_meaning.specs.Uses.{each_once}
use Rattle.rp_domain.specs.Standing.{once_behind}
use Rattle.rp_domain.proofs.extents.instances_once.Given as goal

abbrev pub invariant-loop-place : goal.invariant-loop-place
invariant-loop-place l = l.found ++ instances (once_behind l.last (drop l.place-index l.places)) ≡ instances (each_once l.places)
