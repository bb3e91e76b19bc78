use Rattle.std.proofs.Common.{◌≡◌, ◌≤◌, ◌*◌, None, length, take, string_bytes}
use Rattle.p21_escapes.specs.Decoding.{appended, short}
use Rattle.p21_escapes.proofs.decode.push_short.Given as goal

abbrev pub invariant-groups : goal.invariant-groups
invariant-groups l = (appended (string_bytes l.out) (short l.high (take (4 * l.n) l.z)) ≡ appended (string_bytes l.initial.out) (short None (take (4 * l.initial.n) l.initial.z))) × (4 * l.n ≤ length l.z)

abbrev pub decreases-groups : goal.decreases-groups
decreases-groups l = l.n
