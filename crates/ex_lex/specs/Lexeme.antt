-- Tokens as slices of a text.
use Rattle.std.specs.Prelude.{ℕ, List}
use Rattle.ex_tree.specs.declared.kind.TokenKind.{TokenKind}
use Rattle.ex_tree.specs.declared.token.Token.{Token}

-- a token, without where it lies in memory
pub record Lexeme : Type 0 where
  pub kind : TokenKind
  pub at : ℕ
  pub text : List ℕ

abbrev pub lexeme : Token → Lexeme
lexeme t = record { kind = t.kind; at = t.at; text = t.text.now }

-- the tokens of a text of so many bytes
pub record Lexed : Type 0 where
  pub lexemes : List Lexeme
  pub length : ℕ
