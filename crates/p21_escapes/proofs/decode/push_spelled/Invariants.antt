use Rattle.std.proofs.Common.{◌≡◌, length, string_bytes}
use Rattle.p21_escapes.specs.Decoding.{appended, spelled}
use Rattle.p21_escapes.proofs.decode.push_spelled.Given as goal

abbrev pub invariant-pieces : goal.invariant-pieces
invariant-pieces l = appended (string_bytes l.out) (spelled l.z) ≡ appended (string_bytes l.initial.out) (spelled l.initial.z)

abbrev pub decreases-pieces : goal.decreases-pieces
decreases-pieces l = length l.z
