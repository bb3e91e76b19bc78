use Rattle.std.proofs.Common.{◌≡◌, ◌≤◌, ◌+◌, length, false}
use Rattle.p21_lexemes.specs.Lexical.{string_end}
use Rattle.p21_lexemes.proofs.front.string_end.Given as goal

abbrev pub invariant-bytes : goal.invariant-bytes
invariant-bytes l = (string_end l.is_second l.at l.z ≡ string_end false 1 l.initial.z) × (l.at + length l.z ≡ length l.initial.z + 1) × (1 ≤ l.at)

abbrev pub decreases-bytes : goal.decreases-bytes
decreases-bytes l = length l.z
