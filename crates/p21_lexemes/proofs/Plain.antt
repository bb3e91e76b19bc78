-- A word that no `-` follows.
use Rattle.std.proofs.Common.{◌≡◌, ◌∙◌, ℕ, suc, ◌+◌, ◌==◌, Bool, true, false, cond, List, [], ◌∷◌, take, codes, refl, ap, slice_index, arith}
use Rattle.std.proofs.lemmas.Bool.Decides.{nat_tests}
use Rattle.std.proofs.lemmas.Slice.Eq.{bytes_eq-Decides}
use Rattle.std.specs.Char.{to_ascii_lowercase}
use Rattle.std.specs.List.{prefix_len, list_any}
use Rattle.std.specs.Str.{str_eq_ignore_ascii_case, str_to_ascii_lowercase}
use Rattle.p21_lexemes.specs.declared.token.TokenKind.TheVariants.{Word}
use Rattle.p21_lexemes.specs.declared.front.Start.TheVariants.{Token}
use Rattle.text_forms.specs.Words.{is_word_byte}
use Rattle.p21_lexemes.specs.Lexical.{is_mark_byte, word}

abbrev is_dash : ℕ → Bool
is_dash b = b == 45

longer : (b : ℕ) (z : List ℕ) (t : Bool) → is_word_byte b ≡ t → (slice_index (b ∷ z) (cond t (1 + prefix_len is_word_byte z) 0) == 45) ≡ false
    → ((slice_index z (prefix_len is_word_byte z) == 45) ≡ false → prefix_len is_mark_byte z ≡ prefix_len is_word_byte z)
    → prefix_len is_mark_byte (b ∷ z) ≡ cond t (1 + prefix_len is_word_byte z) 0
longer b z true is e more =
    let one_more : suc (prefix_len is_word_byte z) ≡ 1 + prefix_len is_word_byte z = omega arith in
    rw is (ap (λ n. 1 + n) (more (ap (λ k. slice_index (b ∷ z) k == 45) one_more ∙ e)))
longer b z false is e more = rw (is, e) refl

same_len : (z : List ℕ) → (slice_index z (prefix_len is_word_byte z) == 45) ≡ false → prefix_len is_mark_byte z ≡ prefix_len is_word_byte z
same_len [] e = refl
same_len (b ∷ z) e = longer b z (is_word_byte b) refl e (same_len z)

word_byte_is : (b : ℕ) → is_word_byte b ≡ true → is_dash b ≡ false
word_byte_is b e = grind (arith, nat_tests)

one_byte : (b : ℕ) (z : List ℕ) (t : Bool) → is_word_byte b ≡ t → list_any is_dash (take (prefix_len is_word_byte z) z) ≡ false
    → list_any is_dash (take (cond t (1 + prefix_len is_word_byte z) 0) (b ∷ z)) ≡ false
one_byte b z true is none =
    let one_more : 1 + prefix_len is_word_byte z ≡ suc (prefix_len is_word_byte z) = omega arith in
    rw (one_more, word_byte_is b is) none
one_byte b z false is none = refl

no_dash : (z : List ℕ) → list_any is_dash (take (prefix_len is_word_byte z) z) ≡ false
no_dash [] = refl
no_dash (b ∷ z) = one_byte b z (is_word_byte b) refl (no_dash z)

lower_is : (b : ℕ) → is_dash (to_ascii_lowercase b) ≡ is_dash b
lower_is b = grind (arith, nat_tests)

lower_has : (z : List ℕ) → list_any is_dash (str_to_ascii_lowercase z) ≡ list_any is_dash z
lower_has [] = refl
lower_has (b ∷ z) = rw (lower_is b, lower_has z) refl

differs : (text mark : List ℕ) (t : Bool) → str_eq_ignore_ascii_case text mark ≡ t → list_any is_dash text ≡ false → list_any is_dash (str_to_ascii_lowercase mark) ≡ true
    → str_eq_ignore_ascii_case text mark ≡ false
differs text mark false e none some = e
differs text mark true e none some =
    let same = (bytes_eq-Decides (str_to_ascii_lowercase text) (str_to_ascii_lowercase mark)).0 e in
    let both : list_any is_dash (str_to_ascii_lowercase text) ≡ list_any is_dash (str_to_ascii_lowercase mark) = ap (list_any is_dash) same in
    let plain = lower_has text in
    cc

pub plain_word : (z : List ℕ) → (slice_index z (prefix_len is_word_byte z) == 45) ≡ false → word z ≡ Token Word (prefix_len is_word_byte z)
unfolding word
plain_word z e =
    let text = take (prefix_len is_word_byte z) z in
    let none = no_dash z in
    let no_start = differs text (codes "ISO-10303-21") (str_eq_ignore_ascii_case text (codes "ISO-10303-21")) refl none refl in
    let no_end = differs text (codes "END-ISO-10303-21") (str_eq_ignore_ascii_case text (codes "END-ISO-10303-21")) refl none refl in
    rw (same_len z e, no_start, no_end, none) refl
