-- Literals and their values (ISO 10303-11:1994, 7.5).
use Rattle.std.specs.Prelude.{ℕ, ◌-◌, Bool, true, false, ◌==◌, if◌then◌else◌, List, [], ◌∷◌, length, take, drop, Option, option_map}
use Rattle.std.specs.List.{list_any}
use Rattle.std.specs.Result.{result_ok}
use Rattle.std.specs.Str.{encode_utf8_all}
use Rattle.text_forms.specs.Forms.{◌>>=◌, ◌>>◌, ◌<$>◌, pure}
use Rattle.rp_numbers.specs.Decimals.{Decimal, negated}
use Rattle.rp_numbers.specs.Spelling.{parse}
use Rattle.rp_numbers.specs.declared.Logical.{Logical}
use Rattle.rp_numbers.specs.declared.Logical.TheVariants.{False, Unknown, True}
use Rattle.ex_lex.specs.Strings.{characters}
use Rattle.ex_tree.specs.declared.kind.TokenKind.{TokenKind}
use Rattle.ex_tree.specs.declared.kind.TokenKind.TheVariants as k
use Rattle.ex_tree.specs.declared.expression.Literal.{Literal}
use Rattle.ex_tree.specs.declared.expression.Literal.TheVariants as l
use Rattle.ex_forms.specs.Input.{Parser, Lexemes, same_kind, kind, peek, expect, eat, refuse, spelled, whole, utf8}

-- ---- values

-- what stands between the first byte of a token and its last
abbrev pub inner : List ℕ → List ℕ
inner token = take (length token - 2) (drop 1 token)

-- The same without the second of each two apostrophes; at first the last byte is none that was doubled.
abbrev pub undoubled : Bool → List ℕ → List ℕ
undoubled is_second [] = []
undoubled true (b ∷ z) = undoubled false z
undoubled false (b ∷ z) = b ∷ undoubled (b == 39) z

-- what a string in apostrophes holds
abbrev pub simple_value : List ℕ → Option (List ℕ)
simple_value token = utf8 (undoubled false (inner token))

-- the UTF-8 of the characters that a string in double quotes holds
abbrev pub encoded_value : List ℕ → Option (List ℕ)
encoded_value token = option_map encode_utf8_all (characters (inner token))

-- the bits behind `%`
abbrev pub bits : List ℕ → Option (List ℕ)
bits token = utf8 (drop 1 token)

abbrev pub real_value : List ℕ → Option Decimal
real_value token = result_ok (parse token)

-- ---- literals

abbrev pub literal_tokens : List TokenKind
literal_tokens = k.IntegerLiteral ∷ k.RealLiteral ∷ k.SimpleStringLiteral ∷ k.EncodedStringLiteral ∷ k.BinaryLiteral ∷ k.True ∷ k.False ∷ k.Unknown ∷ []

abbrev pub begins_literal : Lexemes → Bool
begins_literal s = list_any (same_kind (kind s)) literal_tokens

unfoldable pub real : Parser Decimal
real = do
  t ← expect k.RealLiteral
  spelled t (real_value t.text)

-- A sign that stands directly before a real is the real's.
unfoldable pub signed_real : Parser Literal
signed_real = do
  is_negative ← eat k.Minus
  if is_negative then (λ x. l.Real (negated x)) <$> real else expect k.Plus >> l.Real <$> real

unfoldable pub simple_string : Parser Literal
simple_string = do
  t ← expect k.SimpleStringLiteral
  text ← spelled t (simple_value t.text)
  pure (l.String text t.at)

unfoldable pub encoded_string : Parser Literal
encoded_string = do
  t ← expect k.EncodedStringLiteral
  text ← spelled t (encoded_value t.text)
  pure (l.String text t.at)

unfoldable pub binary : Parser Literal
binary = do
  t ← expect k.BinaryLiteral
  text ← spelled t (bits t.text)
  pure (l.Binary text)

abbrev pub logical : TokenKind → Logical → Parser Literal
logical word value = expect word >> pure (l.Logical value)

abbrev pub literal_by : TokenKind → Parser Literal
literal_by k.IntegerLiteral = l.Integer <$> whole
literal_by k.RealLiteral = l.Real <$> real
literal_by k.SimpleStringLiteral = simple_string
literal_by k.EncodedStringLiteral = encoded_string
literal_by k.BinaryLiteral = binary
literal_by k.False = logical k.False False
literal_by k.Unknown = logical k.Unknown Unknown
literal_by k.True = logical k.True True
literal_by _ = refuse

unfoldable pub literal : Parser Literal
literal = peek >>= literal_by
