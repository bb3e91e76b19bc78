-- The string literals of a text (ISO 10303-11:1994, 7.5.4).
use Rattle.std.specs.Prelude.{ℕ, List, Option, None, option_map}
use Rattle.std.specs.List.{filter_map}
use Rattle.ex_lex.specs.Lexeme.{Lexeme}
use Rattle.ex_tree.specs.declared.kind.TokenKind.{TokenKind}
use Rattle.ex_tree.specs.declared.kind.TokenKind.TheVariants as k
use Rattle.ex_tree.specs.declared.declaration.StringToken.{StringToken}
use Rattle.ex_expressions.specs.Literals.{simple_value, encoded_value}

abbrev pub value_by : TokenKind → List ℕ → Option (List ℕ)
value_by k.SimpleStringLiteral token = simple_value token
value_by k.EncodedStringLiteral token = encoded_value token
value_by _ token = None

-- the value of a token that is a string literal
abbrev pub string_value : Lexeme → Option (List ℕ)
string_value t = value_by t.kind t.text

-- with its first byte
abbrev pub string_token : Lexeme → Option StringToken
string_token t = option_map (λ value. record { value = value; at = t.at }) (string_value t)

-- the string literals among the tokens, in their order
unfoldable pub strings : List Lexeme → List StringToken
strings = filter_map string_token
