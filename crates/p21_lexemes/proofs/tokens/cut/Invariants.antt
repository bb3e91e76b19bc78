use Rattle.std.proofs.Common.{◌≡◌, ◌≤◌, ◌-◌, length}
use Rattle.p21_lexemes.specs.Tokens.{lexemes}
use Rattle.p21_lexemes.proofs.tokens.cut.Given as goal

abbrev pub invariant-blanks : goal.invariant-blanks
invariant-blanks l = (lexemes (l.end - length l.left) l.left ≡ lexemes (l.end - length l.initial.left) l.initial.left) × (length l.left ≤ l.end)

abbrev pub decreases-blanks : goal.decreases-blanks
decreases-blanks l = length l.left
