use Rattle.std.proofs.Common.{◌≡◌, ◌++◌, drop}
use Rattle.rp_group_domain.specs.Models.{targets_of}
use Rattle.rp_group_domain.proofs.targets.targets.Given as goal

abbrev pub invariant-loop-link : goal.invariant-loop-link
invariant-loop-link l = l.found ++ targets_of l.population (drop l.link-index l.links) ≡ targets_of l.population l.links
