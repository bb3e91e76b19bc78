use Rattle.std.proofs.Common.{◌≡◌, ◌≤◌, ◌*◌, None, length, take}
use Rattle.p21_escapes.specs.Decoding.{short}
use Rattle.p21_escapes.specs.Forms.{checked}
use Rattle.p21_escapes.proofs.check.check_short.Given as goal

abbrev pub invariant-groups : goal.invariant-groups
invariant-groups l = (checked (short l.high (take (4 * l.n) l.z)) ≡ checked (short None (take (4 * l.initial.n) l.initial.z))) × (4 * l.n ≤ length l.z)

abbrev pub decreases-groups : goal.decreases-groups
decreases-groups l = l.n
