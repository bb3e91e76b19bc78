use Rattle.std.proofs.Common.{◌≡◌, [], drop}
use Rattle.p21_mappings.specs.Instances as spec
use Rattle.p21_mappings.proofs.parts.repeats.Given as goal

abbrev pub invariant-loop-keyword : goal.invariant-loop-keyword
invariant-loop-keyword l = spec.repeats l.before (drop l.keyword-index l.keywords) ≡ spec.repeats [] l.keywords
