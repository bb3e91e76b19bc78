use Rattle.std.proofs.Common.{◌≡◌, drop}
use Rattle.std.specs.List.{list_any}
use Rattle.p21_mappings.specs.Instances as spec
use Rattle.p21_mappings.proofs.value.+stars.Given as goal

abbrev pub invariant-have_star-loop-value : goal.invariant-have_star-loop-value
invariant-have_star-loop-value l = list_any spec.has_star (drop l.value-index l.values) ≡ list_any spec.has_star l.values
