use Rattle.std.proofs.Common.{◌≡◌, ◌≤◌, drop, length}
use Rattle.p21_escapes.specs.LineEnds.{kept}
use Rattle.p21_escapes.proofs.kept_bytes.after.Given as goal

abbrev pub invariant-bytes : goal.invariant-bytes
invariant-bytes l = (drop l.left (kept l.bytes) ≡ drop l.initial.left (kept l.initial.bytes)) × (length l.bytes ≤ length l.initial.bytes)

abbrev pub decreases-bytes : goal.decreases-bytes
decreases-bytes l = length l.bytes
