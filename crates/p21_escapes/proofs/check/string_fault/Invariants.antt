use Rattle.std.proofs.Common.{◌≡◌, length}
use Rattle.p21_escapes.specs.Decoding.{spelled}
use Rattle.p21_escapes.specs.Forms.{checked}
use Rattle.p21_escapes.specs.LineEnds.{kept}
use Rattle.p21_escapes.proofs.check.string_fault.Given as goal

abbrev pub invariant-fronts : goal.invariant-fronts
invariant-fronts l = checked (spelled l.z) ≡ checked (spelled (kept l.bytes))

abbrev pub decreases-fronts : goal.decreases-fronts
decreases-fronts l = length l.z
