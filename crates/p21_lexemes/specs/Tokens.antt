-- The tokens of a text, in order, and what its end says.
use Rattle.std.specs.Prelude.{ℕ, zero, suc, ◌+◌, ◌-◌, List, [], ◌∷◌, take, drop, nat_eq, Bool, false, ◌&&◌, Result, Ok, Err, if◌then◌else◌}
use Rattle.std.specs.List.{starts_with}
use Rattle.std.specs.Str.{str_eq_ignore_ascii_case}
use denote.Enum.Bare.{sameb}
use Rattle.p21_lexemes.specs.contracts.token.TokenKind.{the_type}
use Rattle.text_forms.specs.Forms as forms
use Rattle.text_forms.specs.Forms.{Stream}
use Rattle.p21_lexemes.specs.declared.token.TokenKind.TheVariants.{End, Word}
use Rattle.p21_lexemes.specs.declared.token.TokenKind.{TokenKind}
use Rattle.p21_lexemes.specs.declared.token.Token.{Token}
use Rattle.p21_tree.specs.declared.fault.FaultKind.{FaultKind}
use Rattle.p21_tree.specs.declared.fault.FaultKind.TheVariants.{Syntax, Sections, Deep}
use Rattle.p21_tree.specs.declared.fault.FileFault.{FileFault}
use Rattle.p21_lexemes.specs.declared.front.Start.{Start}
use Rattle.p21_lexemes.specs.declared.front.Start.TheVariants as front
use Rattle.p21_lexemes.specs.Lexical.{front}

-- a token, without where it lies in memory
pub record Lexeme : Type 0 where
  pub kind : TokenKind
  pub at : ℕ
  pub text : List ℕ

abbrev pub view : Token → Lexeme
view t = record { kind = t.kind; at = t.at; text = t.text.now }

abbrev pub Lexemes : Type 0
Lexemes = Stream Lexeme FileFault

abbrev pub before : Lexeme → Lexemes → Lexemes
before t s = record s { tokens = t ∷ s.tokens }

-- at the end of a text no form can take a token
abbrev pub ended : ℕ → Lexemes
ended at = record { tokens = []; end = record { kind = Syntax; at = at } }

abbrev pub faulty : FaultKind → ℕ → Lexemes
faulty kind at = record { tokens = []; end = record { kind = kind; at = at } }

-- What stands in front, and then what `after` says of the place that comes so many bytes later.
abbrev pub with_front : Start → (ℕ → Lexemes) → ℕ → List ℕ → Lexemes
with_front (front.Blank n) after at z = after n
with_front (front.Token kind n) after at z = before (record { kind = kind; at = at; text = take n z }) (after n)
with_front (front.Fault kind) after at z = faulty kind at

-- The tokens from the place `at` on, up to the first lexical fault. The second number counts the bytes left of what stands in front.
abbrev pub lexemes_from : ℕ → ℕ → List ℕ → Lexemes
lexemes_from at left [] = ended at
lexemes_from at (suc left) (b ∷ z) = lexemes_from (at + 1) left z
lexemes_from at zero (b ∷ z) = with_front (front (b ∷ z)) (λ n. lexemes_from (at + 1) (n - 1) z) at (b ∷ z)

-- the tokens of a text that begins at the place `at`
unfoldable pub lexemes : ℕ → List ℕ → Lexemes
lexemes at z = lexemes_from at 0 z

-- the byte order mark of UTF-8
abbrev pub mark : List ℕ
mark = 239 ∷ 187 ∷ 191 ∷ []

-- The tokens of a whole file, which may have a byte order mark in front. Places count the bytes of the mark.
abbrev pub file_lexemes : List ℕ → Lexemes
file_lexemes text = if starts_with nat_eq text mark then lexemes 3 (drop 3 text) else lexemes 0 text

-- ---- the next token

abbrev pub kind : Lexemes → TokenKind
kind s = elim (s.tokens) [ [] ↦ End | t ∷ ts ↦ t.kind ]

abbrev pub refused : FaultKind → Lexeme → FileFault
refused kind t = record { kind = kind; at = t.at }

abbrev pub refusal : Lexemes → FileFault
refusal s = forms.refusal (refused Syntax) s

-- the tokens of a whole text, if it has no lexical fault
abbrev pub lexed_by : FaultKind → Lexemes → Result (List Lexeme) FileFault
lexed_by Syntax s = Ok (s.tokens)
lexed_by _ s = Err (s.end)

abbrev pub lexed : Lexemes → Result (List Lexeme) FileFault
lexed s = lexed_by (s.end.kind) s

-- `==` on kinds
unfoldable pub same_kind : TokenKind → TokenKind → Bool
same_kind = sameb the_type

abbrev pub sees : TokenKind → Lexemes → Bool
sees k s = elim (s.tokens) [ [] ↦ false | t ∷ ts ↦ same_kind t.kind k ]

-- the text of the next token
abbrev pub text : Lexemes → List ℕ
text s = elim (s.tokens) [ [] ↦ [] | t ∷ ts ↦ t.text ]

abbrev pub deep_fault : Lexemes → FileFault
deep_fault s = forms.refusal (refused Deep) s

abbrev pub sections_fault : Lexemes → FileFault
sections_fault s = forms.refusal (refused Sections) s

-- ---- forms

abbrev pub Parser : Type 0 → Type 0
Parser A = forms.Form Lexemes FileFault A

abbrev pub refuse : {A : Type 0} → Parser A
refuse = λ s. Err (refusal s)

abbrev pub too_deep : {A : Type 0} → Parser A
too_deep = λ s. Err (deep_fault s)

abbrev pub too_many_sections : {A : Type 0} → Parser A
too_many_sections = λ s. Err (sections_fault s)

abbrev pub peek : Parser TokenKind
peek = λ s. Ok (kind s, s)

-- whether the next token is of this kind
abbrev pub sees_next : TokenKind → Parser Bool
sees_next k = λ s. Ok (sees k s, s)

-- a token of this kind: its text
unfoldable pub expect : TokenKind → Parser (List ℕ)
expect k = λ s. if sees k s then Ok (text s, forms.rest s) else Err (refusal s)

abbrev pub ends_by : FaultKind → Parser (Unit {0})
ends_by Syntax s = Ok (tt, s)
ends_by _ s = Err (s.end)

-- the end of the text, without a lexical fault
abbrev pub finish : Parser (Unit {0})
finish s = elim (s.tokens) [ [] ↦ ends_by (s.end.kind) s | t ∷ ts ↦ Err (refusal s) ]

abbrev pub sees_word : List ℕ → Lexemes → Bool
sees_word w s = elim (s.tokens) [ [] ↦ false | t ∷ ts ↦ same_kind t.kind Word && str_eq_ignore_ascii_case t.text w ]

-- this word, in either case
unfoldable pub word : List ℕ → Parser (Unit {0})
word w = λ s. if sees_word w s then Ok (tt, forms.rest s) else Err (refusal s)
