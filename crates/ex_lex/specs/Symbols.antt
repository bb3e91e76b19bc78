-- The symbols (ISO 10303-11:1994, 7.3).
use Rattle.std.specs.Prelude.{ℕ, nat_eq, List, [], ◌∷◌, length, codes, if◌then◌else◌}
use Rattle.std.specs.List.{starts_with}
use Rattle.ex_tree.specs.declared.kind.TokenKind.{TokenKind}
use Rattle.ex_tree.specs.declared.kind.TokenKind.TheVariants as k
use Rattle.ex_tree.specs.declared.fault.LexFaultKind.TheVariants as fault
use Rattle.ex_lex.specs.declared.front.Start.{Start}
use Rattle.ex_lex.specs.declared.front.Start.TheVariants.{Token, Fault}

abbrev pub Row : Type 0
Row = List ℕ × TokenKind

-- the longest first
abbrev pub symbols : List Row
symbols =
    (codes ":<>:", k.InstanceNotEqual) ∷
    (codes ":=:", k.InstanceEqual) ∷
    (codes ":=", k.Becomes) ∷
    (codes "<=", k.LessEqual) ∷
    (codes "<>", k.NotEqual) ∷
    (codes "<*", k.QuerySource) ∷
    (codes ">=", k.GreaterEqual) ∷
    (codes "**", k.Power) ∷
    (codes "||", k.Concatenate) ∷
    (codes ".", k.Point) ∷
    (codes ",", k.Comma) ∷
    (codes ";", k.Semicolon) ∷
    (codes ":", k.Colon) ∷
    (codes "*", k.Star) ∷
    (codes "+", k.Plus) ∷
    (codes "-", k.Minus) ∷
    (codes "=", k.Equals) ∷
    (codes "\\", k.Backslash) ∷
    (codes "/", k.Slash) ∷
    (codes "<", k.Less) ∷
    (codes ">", k.Greater) ∷
    (codes "[", k.OpenBracket) ∷
    (codes "]", k.CloseBracket) ∷
    (codes "{", k.OpenBrace) ∷
    (codes "}", k.CloseBrace) ∷
    (codes "|", k.Bar) ∷
    (codes "(", k.OpenParenthesis) ∷
    (codes ")", k.CloseParenthesis) ∷
    (codes "?", k.QuestionMark) ∷
    []

-- the first of these with which the text begins
abbrev pub symbol_in : List Row → List ℕ → Start
symbol_in [] z = Fault fault.Token
symbol_in (row ∷ rows) z = if starts_with nat_eq z row.0 then Token row.1 (length row.0) else symbol_in rows z

unfoldable pub symbol : List ℕ → Start
symbol z = symbol_in symbols z
