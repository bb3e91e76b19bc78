use Rattle.std.proofs.Common.{◌≡◌, length}
use Rattle.p21_mappings.specs.Instances as spec
use Rattle.p21_mappings.proofs.parts.same_counts.Given as goal

abbrev pub invariant-parts : goal.invariant-parts
invariant-parts l = spec.same_counts l.slots l.parts ≡ spec.same_counts l.initial.slots l.initial.parts

abbrev pub decreases-parts : goal.decreases-parts
decreases-parts l = length l.slots
