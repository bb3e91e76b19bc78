use Rattle.std.proofs.Common.{◌≡◌, length}
use Rattle.std.specs.Str.{str_eq_ignore_ascii_case}
use Rattle.ex_lex.proofs.words.is_same.Given as goal

abbrev pub invariant-bytes : goal.invariant-bytes
invariant-bytes l = (length l.left ≡ length l.others) × (str_eq_ignore_ascii_case l.left l.others ≡ str_eq_ignore_ascii_case l.a l.b)

abbrev pub decreases-bytes : goal.decreases-bytes
decreases-bytes l = length l.left
