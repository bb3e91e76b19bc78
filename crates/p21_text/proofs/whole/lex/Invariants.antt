use Rattle.std.proofs.Common.{◌≡◌, ◌++◌, length, map}
use Rattle.p21_lexemes.specs.Tokens.{view, lexemes}
use Rattle.p21_text.proofs.whole.lex.Given as goal

abbrev pub invariant-tokens : goal.invariant-tokens
invariant-tokens l = record {
  front : map view l.found.items ++ l.tokens.tokens ≡ (lexemes 0 l.text).tokens;
  same_end : l.tokens.end ≡ (lexemes 0 l.text).end;
}

abbrev pub decreases-tokens : goal.decreases-tokens
decreases-tokens l = length l.tokens.tokens
