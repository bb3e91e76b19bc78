-- A word is ASCII, and no token is of the kind `End`.
use Rattle.std.proofs.Common.{◌≡◌, ◌<◌, ◌+◌, ◌||◌, ℕ, suc, nat_le, Bool, true, false, List, [], ◌∷◌, take, if◌then◌else◌, Option, Some, None, refl, ◌∙◌, ap, arith, rules}
use Rattle.std.proofs.lemmas.Bool.Decides.{nat_tests}
use Rattle.std.proofs.lemmas.Str.Ascii.{IsAscii-nil, IsAscii-cons}
use Rattle.std.specs.Char.{is_ascii_digit}
use Rattle.std.specs.List.{prefix_len, slice_index}
use Rattle.std.specs.Str.{IsAscii}
use Rattle.p21_escapes.specs.declared.fault.StringFault.{StringFault}
use denote.Enum.Bare.{false_same}
use Rattle.p21_lexemes.specs.contracts.token.TokenKind.{the_type}
use Rattle.p21_lexemes.specs.Tokens.{same_kind}
use Rattle.p21_lexemes.specs.declared.token.TokenKind.{TokenKind}
use Rattle.p21_lexemes.specs.declared.token.TokenKind.TheVariants as k
use Rattle.p21_lexemes.specs.declared.front.Start.{Start}
use Rattle.p21_lexemes.specs.declared.front.Start.TheVariants.{Blank, Token}
use Rattle.p21_lexemes.specs.Lexical.{is_letter, is_mark_byte, is_sign, word, number, name, item, quoted, closed, string, binary, commented, slash, directive, single, punctuation, front}

-- ---- nothing else is a word, and nothing at all is the end

abbrev is_word : Start → Bool
is_word (Token k.Word n) = true
is_word (Token k.End n) = true
is_word _ = false

number_is : (z : List ℕ) → is_word (number z) ≡ false
unfolding number
number_is z = grind arith

name_is : (z : List ℕ) → is_word (name z) ≡ false
unfolding name
name_is z = grind arith

item_is : (z : List ℕ) → is_word (item z) ≡ false
unfolding item
item_is z = grind arith

quoted_is : (n : ℕ) (fault : Option StringFault) → is_word (quoted n fault) ≡ false
quoted_is n None = refl
quoted_is n (Some fault) = refl

closed_is : (z : List ℕ) (end : Option ℕ) → is_word (closed z end) ≡ false
closed_is z None = refl
closed_is z (Some end) = quoted_is end _

string_is : (z : List ℕ) → is_word (string z) ≡ false
unfolding string
string_is z = closed_is z _

binary_is : (z : List ℕ) → is_word (binary z) ≡ false
unfolding binary
binary_is z = grind arith

commented_is : (len : Option ℕ) → is_word (commented len) ≡ false
commented_is None = refl
commented_is (Some len) = refl

slash_is : (z : List ℕ) → is_word (slash z) ≡ false
unfolding slash
slash_is z = grind (arith, commented_is)

directive_is : (z : List ℕ) → is_word (directive z) ≡ false
unfolding directive
directive_is z = grind arith

single_is : (b : ℕ) → is_word (single b) ≡ false
single_is b = grind arith

punctuation_is : (z : List ℕ) → is_word (punctuation z) ≡ false
unfolding punctuation
punctuation_is z = grind (arith, string_is, name_is, item_is, binary_is, slash_is, directive_is, single_is)

-- ---- a word is ASCII

mark_byte_below : (b : ℕ) → is_mark_byte b ≡ true → b < 128
mark_byte_below b e = grind (arith, nat_tests)

marks_below : (z : List ℕ) → IsAscii (take (prefix_len is_mark_byte z) z)
marks_below [] = IsAscii-nil
marks_below (b ∷ z) = first (is_mark_byte b) refl (marks_below z)
  where
    first : (t : Bool) → is_mark_byte b ≡ t → IsAscii (take (prefix_len is_mark_byte z) z) → IsAscii (take (prefix_len is_mark_byte (b ∷ z)) (b ∷ z))
    first true e more =
        let one_more : 1 + prefix_len is_mark_byte z ≡ suc (prefix_len is_mark_byte z) = omega arith in
        rw (e, one_more) (IsAscii-cons b (take (prefix_len is_mark_byte z) z) (mark_byte_below b e) more)
    first false e more = rw e IsAscii-nil

word_len : (z : List ℕ) (n : ℕ) → word z ≡ Token k.Word n → n ≡ prefix_len is_mark_byte z
unfolding word
word_len z n e = grind arith

no_word : (s : Start) (n : ℕ) → is_word s ≡ false → s ≡ Token k.Word n → ⊥
no_word s n other e = let same = ap is_word e in cc

-- of the kind k, what stands in front can only be a word
of_kind : {P : Type 0} (kind : TokenKind) (is_blank begins_word begins_number : Bool) (a b c : Start) (n : ℕ) → (a ≡ Token kind n → P) → (b ≡ Token kind n → ⊥) → (c ≡ Token kind n → ⊥)
    → (if is_blank then Blank 1 else if begins_word then a else if begins_number then b else c) ≡ Token kind n → P
of_kind kind true begins_word begins_number a b c n here there elsewhere e = cc
of_kind kind false true begins_number a b c n here there elsewhere e = here e
of_kind kind false false true a b c n here there elsewhere e = absurd (there e)
of_kind kind false false false a b c n here there elsewhere e = absurd (elsewhere e)

front_len : (z : List ℕ) (n : ℕ) → front z ≡ Token k.Word n → n ≡ prefix_len is_mark_byte z
unfolding front
front_len z n e =
    let b = slice_index z 0 in
    of_kind k.Word (nat_le b 32) (is_letter b) (is_sign b || is_ascii_digit b) (word z) (number z) (punctuation z) n
    (word_len z n) (no_word (number z) n (number_is z)) (no_word (punctuation z) n (punctuation_is z)) e

-- a word in front of a text
pub word-IsAscii : (z : List ℕ) (kind : TokenKind) (n : ℕ) → front z ≡ Token kind n → kind ≡ k.Word → IsAscii (take n z)
word-IsAscii z kind n e is = rw (front_len z n (e ∙ ap (λ k. Token k n) is)) (marks_below z)

no_end : (s : Start) (n : ℕ) → is_word s ≡ false → s ≡ Token k.End n → ⊥
no_end s n other e = let same = ap is_word e in cc

word_no_end : (z : List ℕ) (n : ℕ) → word z ≡ Token k.End n → ⊥
unfolding word
word_no_end z n e = grind arith

front_no_end : (z : List ℕ) (n : ℕ) → front z ≡ Token k.End n → ⊥
unfolding front
front_no_end z n e =
    let b = slice_index z 0 in
    of_kind k.End (nat_le b 32) (is_letter b) (is_sign b || is_ascii_digit b) (word z) (number z) (punctuation z) n
    (word_no_end z n) (no_end (number z) n (number_is z)) (no_end (punctuation z) n (punctuation_is z)) e

-- the kind of a token in front of a text
pub token_is : (z : List ℕ) (kind : TokenKind) (n : ℕ) → front z ≡ Token kind n → same_kind kind k.End ≡ false
unfolding same_kind
token_is z kind n e = false_same the_type (search rules) kind k.End (λ is. front_no_end z n (e ∙ ap (λ k. Token k n) is))
