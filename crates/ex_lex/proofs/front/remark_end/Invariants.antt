use Rattle.std.proofs.Common.{◌≡◌, ◌+◌, ◌≤◌, length, false}
use Rattle.ex_lex.specs.Lexical.{remark_end}
use Rattle.ex_lex.proofs.front.remark_end.Given as goal

abbrev pub invariant-bytes : goal.invariant-bytes
invariant-bytes l = (remark_end false l.inner l.at l.z ≡ remark_end false 0 2 l.initial.z) × (l.at + length l.z ≡ length l.initial.z + 2) × (l.inner ≤ l.at)

abbrev pub decreases-bytes : goal.decreases-bytes
decreases-bytes l = length l.z
