-- What a form of the grammar reads from, and the forms that have no tree of their own.
use Rattle.std.specs.Prelude.{ℕ, zero, suc, Bool, ◌&&◌, ◌||◌, List, [], ◌∷◌, codes, Option, Some, None, Ok, Err, if◌then◌else◌}
use Rattle.std.specs.List.{list_any}
use Rattle.std.specs.Str.{str_eq_ignore_ascii_case, str_to_ascii_uppercase}
use Rattle.std.specs.Str.{is_utf8}
use denote.Enum.Bare.{sameb}
use Rattle.text_forms.specs.Forms as forms
use Rattle.text_forms.specs.Forms.{Stream, pure, ◌>>=◌}
pub use Rattle.text_forms.specs.Forms.{many, some, optional}
use Rattle.ex_lex.specs.Lexeme.{Lexeme, Lexed}
use Rattle.ex_tree.specs.contracts.kind.TokenKind.{the_type}
use Rattle.ex_tree.specs.declared.kind.TokenKind.{TokenKind}
use Rattle.ex_tree.specs.declared.kind.TokenKind.TheVariants as k
use Rattle.ex_tree.specs.declared.fault.ParseFaultKind.TheVariants.{Syntax, TooDeep, OutOfProfile}
use Rattle.ex_tree.specs.declared.fault.ParseFault.{ParseFault}
use Rattle.ex_tree.specs.declared.expression.Name.{Name}
use Rattle.ex_tree.specs.Identifiers.{as_identifier}
use Rattle.rp_numbers.specs.Whole.{whole_number}

abbrev pub Lexemes : Type 0
Lexemes = Stream Lexeme ParseFault

-- Whoever wants a token more than there are faults at the end of the text.
abbrev pub stream : Lexed → Lexemes
stream t = record { tokens = t.lexemes; end = record { kind = Syntax; at = t.length } }

abbrev pub Parser : Type 0 → Type 0
Parser A = forms.Form Lexemes ParseFault A

-- ---- the next token

unfoldable pub same_kind : TokenKind → TokenKind → Bool
same_kind = sameb the_type

abbrev pub kind_of : List Lexeme → TokenKind
kind_of [] = k.Finish
kind_of (t ∷ ts) = t.kind

abbrev pub kind : Lexemes → TokenKind
kind s = kind_of s.tokens

abbrev pub kind_after : List Lexeme → TokenKind
kind_after [] = k.Finish
kind_after (t ∷ ts) = kind_of ts

-- the kind of the token after the next
abbrev pub second_kind : Lexemes → TokenKind
second_kind s = kind_after s.tokens

abbrev pub sees : TokenKind → Lexemes → Bool
sees k s = same_kind (kind s) k

abbrev pub sees_second : TokenKind → Lexemes → Bool
sees_second k s = same_kind (second_kind s) k

-- ---- faults

-- words of the language, and a symbol, that no text of this profile has in these places
abbrev pub left_out : List TokenKind
left_out = k.Acos ∷ k.Aggregate ∷ k.Alias ∷ k.Asin ∷ k.Atan ∷ k.Concatenate ∷ k.ConstE ∷ k.Cos ∷ k.Exp ∷ k.Format ∷ k.Generic
    ∷ k.HiBound ∷ k.Insert ∷ k.Like ∷ k.LoBound ∷ k.Log ∷ k.Log10 ∷ k.Log2 ∷ k.Pi ∷ k.Procedure ∷ k.Reference ∷ k.Remove
    ∷ k.RolesOf ∷ k.Sin ∷ k.Sqrt ∷ k.Tan ∷ k.Use ∷ k.Value ∷ k.ValueUnique ∷ []

-- the identifier SUBTYPE_CONSTRAINT, which begins a declaration of the second edition
abbrev pub is_constraint_word : Lexeme → Bool
is_constraint_word t = same_kind t.kind k.Identifier && str_eq_ignore_ascii_case t.text (codes "SUBTYPE_CONSTRAINT")

abbrev pub is_left_out : Lexeme → Bool
is_left_out t = list_any (same_kind t.kind) left_out || is_constraint_word t

-- no form takes the token
unfoldable pub refused : Lexeme → ParseFault
refused t = record { kind = if is_left_out t then OutOfProfile t.kind else Syntax; at = t.at }

abbrev pub refusal : Lexemes → ParseFault
refusal s = forms.refusal refused s

abbrev pub refuse : {A : Type 0} → Parser A
refuse = λ s. Err (refusal s)

-- the next token opens a level too many
abbrev pub too_deep : Lexemes → ParseFault
too_deep s = forms.refusal (λ t. record { kind = TooDeep; at = t.at }) s

-- ---- forms of one token

abbrev pub peek : Parser TokenKind
peek = λ s. Ok (kind s, s)

abbrev pub peek_second : Parser TokenKind
peek_second = λ s. Ok (second_kind s, s)

abbrev pub next_is : TokenKind → Parser Bool
next_is k = λ s. Ok (sees k s, s)

abbrev pub taken : Parser Lexeme
taken s = elim (s.tokens) [ [] ↦ Err s.end | t ∷ ts ↦ Ok (t, record s { tokens = ts }) ]

-- a token of this kind
unfoldable pub expect : TokenKind → Parser Lexeme
expect k = λ s. if sees k s then taken s else Err (refusal s)

-- a token of this kind, which opens a level: so many are left
unfoldable pub enter : ℕ → TokenKind → Parser Lexeme
enter zero k = λ s. if sees k s then Err (too_deep s) else Err (refusal s)
enter (suc n) k = expect k

-- whether a token of this kind came next, and was taken
unfoldable pub eat : TokenKind → Parser Bool
eat k = λ s. Ok (sees k s, if sees k s then forms.rest s else s)

-- no token
unfoldable pub finish : Parser (Unit {0})
finish s = elim (s.tokens) [ [] ↦ Ok (tt, s) | t ∷ ts ↦ Err (refused t) ]

-- what a token spells; one that spells nothing is refused (no text has one)
abbrev pub spelled : {A : Type 0} → Lexeme → Option A → Parser A
spelled t (Some a) = pure a
spelled t None = λ s. Err (refused t)

-- ---- identifiers and whole numbers

-- bytes that are text
abbrev pub utf8 : List ℕ → Option (List ℕ)
utf8 bytes = if is_utf8 bytes then Some bytes else None

-- the identifier in upper case that bytes spell, if they spell one
abbrev pub identifier : List ℕ → Option (List ℕ)
identifier bytes = as_identifier (str_to_ascii_uppercase bytes)

unfoldable pub name : Parser Name
name = do
  t ← expect k.Identifier
  text ← spelled t (identifier t.text)
  pure (record { text = text; at = t.at })

unfoldable pub whole : Parser ℕ
whole = do
  t ← expect k.IntegerLiteral
  spelled t (whole_number t.text)

-- ---- repetition

-- one item or more, with such tokens between
abbrev pub separated : {A : Type 0} → TokenKind → Parser A → Parser (List A)
separated k item = forms.separated (sees k) (expect k) item
