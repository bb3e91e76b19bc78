use Rattle.std.proofs.Common.{◌≡◌, ◌++◌, drop}
use Rattle.p21_mappings.specs.Instances as spec
use Rattle.p21_mappings.proofs.parts.keywords.Given as goal

abbrev pub invariant-loop-part : goal.invariant-loop-part
invariant-loop-part l = l.keywords.items ++ spec.keywords (drop l.part-index l.parts) ≡ spec.keywords l.parts
