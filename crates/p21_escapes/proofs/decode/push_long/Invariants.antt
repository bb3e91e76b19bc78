use Rattle.std.proofs.Common.{◌≡◌, ◌≤◌, ◌*◌, length, take, string_bytes}
use Rattle.p21_escapes.specs.Decoding.{appended, long}
use Rattle.p21_escapes.proofs.decode.push_long.Given as goal

abbrev pub invariant-groups : goal.invariant-groups
invariant-groups l = (appended (string_bytes l.out) (long (take (4 * l.n) l.z)) ≡ appended (string_bytes l.initial.out) (long (take (4 * l.initial.n) l.initial.z))) × (4 * l.n ≤ length l.z)

abbrev pub decreases-groups : goal.decreases-groups
decreases-groups l = l.n
