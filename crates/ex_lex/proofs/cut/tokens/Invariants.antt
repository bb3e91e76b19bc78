use Rattle.std.proofs.Common.{◌≡◌, ◌+◌, length, map}
use Rattle.ex_lex.specs.Lexeme.{lexeme}
use Rattle.ex_lex.specs.Spelling.{behind, lexemes}
use Rattle.ex_lex.proofs.cut.tokens.Given as goal

abbrev pub invariant-tokens : goal.invariant-tokens
invariant-tokens l = (behind (map lexeme l.found.items) (lexemes l.at l.left) ≡ lexemes 0 l.text) × (l.at + length l.left ≡ length l.text)

abbrev pub decreases-tokens : goal.decreases-tokens
decreases-tokens l = length l.left
