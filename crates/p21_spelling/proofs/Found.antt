-- What is found in front of a text is a token as it is spelled.
use Rattle.std.proofs.Common.{◌≡◌, ℕ, zero, suc, ◌+◌, ◌-◌, ◌<◌, ◌≤◌, Bool, true, false, not, ◌&&◌, ◌||◌, ◌==◌, nat_le, nat_lt, if◌then◌else◌, List, [], ◌∷◌, length, length-take, take, drop, Option, Some, None, codes, ⊎_elim, refl, sym, ◌∙◌, ap, arith}
use Rattle.std.proofs.lemmas.Bool.{cases_Bool}
use Rattle.std.proofs.lemmas.Bool.Decides.{nat_tests}
use Rattle.std.proofs.lemmas.List.Sums.{prefix_len-le-length}
use Rattle.std.specs.Char.{is_ascii_digit}
use Rattle.std.specs.List.{list_all, list_any, prefix_len, AllByRecursion}
use Rattle.std.specs.Option.{is_none}
use Rattle.std.specs.Prelude.{is_ok, slice_index}
use Rattle.std.specs.Str.{str_eq_ignore_ascii_case}
use Rattle.p21_escapes.specs.declared.fault.StringFault.{StringFault}
use Rattle.p21_escapes.specs.Decoding as strings
use Rattle.p21_escapes.specs.Encoding.{is_paired}
use Rattle.p21_lexemes.specs.declared.token.TokenKind.{TokenKind}
use Rattle.p21_lexemes.specs.declared.token.TokenKind.TheVariants as k
use Rattle.p21_lexemes.specs.declared.front.Start.{Start}
use Rattle.p21_lexemes.specs.declared.front.Start.TheVariants.{Blank, Token, Fault}
use Rattle.rp_numbers.specs.Whole.{value}
use Rattle.text_forms.specs.Words.{is_word_byte}
use Rattle.p21_lexemes.specs.Lexical.{front, word, number, real, name, item, string, closed, quoted, binary, is_binary, slash, comment_len, commented, directive, single, punctuation, string_end, is_letter, is_mark_byte, is_sign, greatest, max_name}
use Rattle.p21_lexemes.specs.Tokens.{Lexeme, Lexemes, lexemes, lexemes_from, with_front}
use Rattle.p21_tree.specs.declared.fault.FaultKind.TheVariants as fault
use Rattle.p21_grammar.specs.Grammar.{inner}
use Rattle.rp_numbers.specs.Spelling.{parse, sign_len, digits_len, exponent_len}
use Rattle.rp_numbers.proofs.Digits.{all_in_front}
use Rattle.p21_spelling.specs.Tokens.{are_digits, is_integer, is_real, is_bits, is_word, is_string}
use Rattle.p21_spelling.proofs.Runs.{first_holds, second_holds, both_hold}
use Rattle.p21_spelling.proofs.Fronts.{letter_is_word_byte, within_by}

-- ---- tokens as they are cut

abbrev pub is_token : TokenKind → List ℕ → Bool
is_token k.Word t = is_word t
is_token k.Integer t = is_integer t
is_token k.Real t = is_real t
is_token k.Text t = is_string (inner t)
is_token k.Item t = is_word (inner t)
is_token k.Binary t = is_bits (inner t)
is_token _ t = true

-- what stands in front of a text is such, if it is a token
abbrev is_found : Start → List ℕ → Bool
is_found (Token kind n) z = is_token kind (take n z)
is_found _ z = true

record IsFound (s : Start) (z : List ℕ) : Type 0 where
  holds : is_found s z ≡ true

either : {z : List ℕ} (b : Bool) (x y : Start) → (b ≡ true → IsFound x z) → (b ≡ false → IsFound y z) → IsFound (if b then x else y) z
either true x y here there = here refl
either false x y here there = there refl

fine : {s : Start} {z : List ℕ} → is_found s z ≡ true → IsFound s z
fine e = record { holds = e }

-- ---- runs

-- letters, digits and `_` behind a letter
word_in_front : (z : List ℕ) → is_letter (slice_index z 0) ≡ true → is_word (take (prefix_len is_word_byte z) z) ≡ true
word_in_front [] e = cc
word_in_front (b ∷ z) e =
    let one_more : 1 + prefix_len is_word_byte z ≡ suc (prefix_len is_word_byte z) = omega arith in
    rw (letter_is_word_byte b e, one_more) (both_hold (is_letter b) (list_all is_word_byte (take (prefix_len is_word_byte z) z)) e (all_in_front is_word_byte z))

-- ---- words

no_hyphen : (b : ℕ) → is_mark_byte b ≡ true → (b == 45) ≡ false → is_word_byte b ≡ true
no_hyphen b e other = either_of (is_word_byte b) (b == 45) e other
  where
    either_of : (s t : Bool) → (s || t) ≡ true → t ≡ false → s ≡ true
    either_of true t e f = refl
    either_of false true e f = sym f ∙ e
    either_of false false e f = e

neither_first : (a b : Bool) → (a || b) ≡ false → a ≡ false
neither_first true b e = cc
neither_first false b e = refl

neither_second : (a b : Bool) → (a || b) ≡ false → b ≡ false
neither_second true b e = cc
neither_second false b e = e

marks_are_words : (t : List ℕ) → list_all is_mark_byte t ≡ true → list_any (λ b. b == 45) t ≡ false → list_all is_word_byte t ≡ true
marks_are_words [] all none = refl
marks_are_words (b ∷ t) all none =
    let others = list_any (λ b. b == 45) t in
    both_hold (is_word_byte b) (list_all is_word_byte t) (no_hyphen b (first_holds (is_mark_byte b) (list_all is_mark_byte t) all) (neither_first (b == 45) others none))
    (marks_are_words t (second_holds (is_mark_byte b) (list_all is_mark_byte t) all) (neither_second (b == 45) others none))

word_is : (b : ℕ) (z : List ℕ) → is_letter b ≡ true → IsFound (word (b ∷ z)) (b ∷ z)
unfolding word
word_is b z letter =
    let n = prefix_len is_mark_byte (b ∷ z) in
    let t = take n (b ∷ z) in
    let hyphen = list_any (λ b. b == 45) t in
    let plain : Start = if hyphen then Fault fault.Token else Token k.Word n in
    let ends : Start = if str_eq_ignore_ascii_case t (codes "END-ISO-10303-21") then Token k.FileEnd n else plain in
    either (str_eq_ignore_ascii_case t (codes "ISO-10303-21")) (Token k.FileStart n) ends (λ e. fine refl)
    (λ e. either (str_eq_ignore_ascii_case t (codes "END-ISO-10303-21")) (Token k.FileEnd n) plain (λ e. fine refl)
    (λ e. either hyphen (Fault fault.Token) (Token k.Word n) (λ e. fine refl) (λ none. fine (text_is none))))
  where
    text_is : list_any (λ b. b == 45) (take (prefix_len is_mark_byte (b ∷ z)) (b ∷ z)) ≡ false → is_word (take (prefix_len is_mark_byte (b ∷ z)) (b ∷ z)) ≡ true
    text_is none =
        let bytes = marks_are_words (take (prefix_len is_mark_byte (b ∷ z)) (b ∷ z)) (all_in_front is_mark_byte (b ∷ z)) none in
        let one_more : 1 + prefix_len is_mark_byte z ≡ suc (prefix_len is_mark_byte z) = omega arith in
        let marked : is_mark_byte b ≡ true = rw (letter_is_word_byte b letter) refl in
        let same : take (prefix_len is_mark_byte (b ∷ z)) (b ∷ z) ≡ b ∷ take (prefix_len is_mark_byte z) z = rw (marked, one_more) refl in
        let behind : list_all is_word_byte (b ∷ take (prefix_len is_mark_byte z) z) ≡ true = ap (list_all is_word_byte) (sym same) ∙ bytes in
        ap is_word same ∙ both_hold (is_letter b) (list_all is_word_byte (take (prefix_len is_mark_byte z) z)) letter (second_holds (is_word_byte b) (list_all is_word_byte (take (prefix_len is_mark_byte z) z)) behind)

-- ---- numbers

some_of : (n : ℕ) → (n == 0) ≡ false → nat_lt 0 n ≡ true
some_of n e = grind (arith, nat_tests)

digits_in_front : (z : List ℕ) → (digits_len z == 0) ≡ false → are_digits (take (digits_len z) z) ≡ true
digits_in_front z some =
    let whole = digits_len z in
    let fits = prefix_len-le-length is_ascii_digit z in
    let size : length (take whole z) ≡ whole = omega (arith, length-take whole z, fits) in
    both_hold (nat_lt 0 (length (take whole z))) (list_all is_ascii_digit (take whole z)) (ap (nat_lt 0) size ∙ some_of whole some) (all_in_front is_ascii_digit z)

signed_is : (b : ℕ) (ds : List ℕ) → is_sign b ≡ true → are_digits ds ≡ true → nat_le (value ds) (greatest b) ≡ true → is_integer (b ∷ ds) ≡ true
signed_is b ds sign digits small = rw sign (both_hold (are_digits ds) (nat_le (value ds) (greatest b)) digits small)

unsigned_is : (b : ℕ) (ds : List ℕ) → is_sign b ≡ false → are_digits (b ∷ ds) ≡ true → nat_le (value (b ∷ ds)) (greatest b) ≡ true → is_integer (b ∷ ds) ≡ true
unsigned_is b ds other digits small = rw other (both_hold (are_digits (b ∷ ds)) (nat_le (value (b ∷ ds)) (greatest b)) digits small)

abbrev signed : Bool → ℕ
signed s = if s then 1 else 0

take_more : (n : ℕ) (b : ℕ) (z : List ℕ) → take (1 + n) (b ∷ z) ≡ b ∷ take n z
take_more n b z = let there : 1 + n ≡ suc n = omega arith in ap (λ n. take n (b ∷ z)) there

-- a sign or none, and digits
integer_is : (b : ℕ) (z : List ℕ) (s : Bool) → is_sign b ≡ s → (digits_len (drop (signed s) (b ∷ z)) == 0) ≡ false → nat_le (value (take (digits_len (drop (signed s) (b ∷ z))) (drop (signed s) (b ∷ z)))) (greatest b) ≡ true
    → is_integer (take (signed s + digits_len (drop (signed s) (b ∷ z))) (b ∷ z)) ≡ true
integer_is b z true sign some small = ap is_integer (take_more (digits_len z) b z) ∙ signed_is b (take (digits_len z) z) sign (digits_in_front z some) small
integer_is b z false other some small =
    ⊎_elim
    (λ (digit : is_ascii_digit b ≡ true).
    let whole = digits_len (b ∷ z) in
    let more : whole ≡ 1 + digits_len z = rw digit refl in
    let same : take whole (b ∷ z) ≡ b ∷ take (digits_len z) z = ap (λ n. take n (b ∷ z)) more ∙ take_more (digits_len z) b z in
    let none : 0 + whole ≡ whole = omega arith in
    ap (λ n. is_integer (take n (b ∷ z))) none ∙ ap is_integer same
    ∙ unsigned_is b (take (digits_len z) z) other (ap are_digits (sym same) ∙ digits_in_front (b ∷ z) some) (ap (λ t. nat_le (value t) (greatest b)) (sym same) ∙ small))
    (λ (no : is_ascii_digit b ≡ false). absurd (nothing (rw no at some)))
    (cases_Bool (is_ascii_digit b))
  where
    nothing : (0 == 0) ≡ false → ⊥
    nothing e = cc

real_is : (n : ℕ) (z : List ℕ) → IsFound (real n z) z
real_is n z = either (is_ok (parse (take n z))) (Token k.Real n) (Fault fault.Number) (λ ok. fine ok) (λ e. fine refl)

number_is : (z : List ℕ) → IsFound (number z) z
unfolding number
number_is [] = fine refl
number_is (b ∷ z) =
    let sign = sign_len (b ∷ z) in
    let whole = digits_len (drop sign (b ∷ z)) in
    let end = sign + whole in
    let point = end + 1 + digits_len (drop (end + 1) (b ∷ z)) in
    let long = point + exponent_len (drop point (b ∷ z)) in
    let small = nat_le (value (take whole (drop sign (b ∷ z)))) (greatest b) in
    let integer : Start = if small then Token k.Integer end else Fault fault.Number in
    let some : Start = if slice_index (b ∷ z) end == 46 then real long (b ∷ z) else integer in
    either (whole == 0) (Fault fault.Token) some (λ e. fine refl)
    (λ digits. either (slice_index (b ∷ z) end == 46) (real long (b ∷ z)) integer (λ e. real_is long (b ∷ z))
    (λ e. either small (Token k.Integer end) (Fault fault.Number) (λ fits. fine (integer_is b z (is_sign b) refl digits fits)) (λ e. fine refl)))

name_is : (z : List ℕ) → IsFound (name z) z
unfolding name
name_is z =
    let n = digits_len (drop 1 z) in
    let small = nat_le (value (take n (drop 1 z))) max_name in
    let some : Start = if small then Token k.Name (1 + n) else Fault fault.Number in
    either (n == 0) (Fault fault.Token) some (λ e. fine refl) (λ e. either small (Token k.Name (1 + n)) (Fault fault.Number) (λ e. fine refl) (λ e. fine refl))

-- ---- what stands between two marks

take_take : (n m : ℕ) (z : List ℕ) → n ≤ m → take n (take m z) ≡ take n z
take_take zero m z less = refl
take_take (suc n) zero z less = absurd (omega arith)
take_take (suc n) (suc m) [] less = refl
take_take (suc n) (suc m) (b ∷ z) less = ap (λ l. b ∷ l) (take_take n m z (omega arith))

inner-take : (n : ℕ) (z : List ℕ) → n + 2 ≤ length z → inner (take (n + 2) z) ≡ take n (drop 1 z)
inner-take n [] fits = absurd (omega arith)
inner-take n (b ∷ z) fits =
    let there : n + 2 ≡ suc (n + 1) = omega arith in
    let size : length (take (n + 2) (b ∷ z)) - 2 ≡ n = omega (arith, length-take (n + 2) (b ∷ z), fits) in
    ap (λ m. take m (drop 1 (take (n + 2) (b ∷ z)))) size ∙ ap (λ m. take n (drop 1 (take m (b ∷ z)))) there ∙ take_take n (n + 1) z (omega arith)

item_is : (z : List ℕ) → IsFound (item z) z
unfolding item
item_is [] = fine refl
item_is (b ∷ z) =
    let n = prefix_len is_word_byte z in
    either (is_letter (slice_index z 0) && slice_index (b ∷ z) (1 + n) == 46) (Token k.Item (n + 2)) (Fault fault.Token) (λ both. fine (inside both)) (λ e. fine refl)
  where
    inside : (is_letter (slice_index z 0) && slice_index (b ∷ z) (1 + prefix_len is_word_byte z) == 46) ≡ true → is_word (inner (take (prefix_len is_word_byte z + 2) (b ∷ z))) ≡ true
    inside both =
        let n = prefix_len is_word_byte z in
        let last = within_by (b ∷ z) (1 + n) (second_holds (is_letter (slice_index z 0)) (slice_index (b ∷ z) (1 + n) == 46) both) in
        ap is_word (inner-take n (b ∷ z) (omega (arith, last))) ∙ word_in_front z (first_holds (is_letter (slice_index z 0)) (slice_index (b ∷ z) (1 + n) == 46) both)

not_whole : (n m : ℕ) → n ≤ m → (n == m) ≡ false → n < m
not_whole n m fits e = grind (arith, nat_tests)

binary_is : (z : List ℕ) → IsFound (binary z) z
unfolding binary
binary_is [] = fine refl
binary_is (b ∷ z) =
    let n = prefix_len (λ b. not (b == 34)) z in
    let closed : Start = if is_binary (take n z) then Token k.Binary (n + 2) else Fault fault.Token in
    either (n == length z) (Fault fault.Open) closed (λ e. fine refl) (λ some. either (is_binary (take n z)) (Token k.Binary (n + 2)) (Fault fault.Token) (λ bits. fine (inside some bits)) (λ e. fine refl))
  where
    inside : (prefix_len (λ b. not (b == 34)) z == length z) ≡ false → is_binary (take (prefix_len (λ b. not (b == 34)) z) z) ≡ true → is_bits (inner (take (prefix_len (λ b. not (b == 34)) z + 2) (b ∷ z))) ≡ true
    inside some bits =
        let n = prefix_len (λ b. not (b == 34)) z in
        let less = not_whole n (length z) (prefix_len-le-length (λ b. not (b == 34)) z) some in
        ap is_bits (inner-take n (b ∷ z) (omega (arith, less))) ∙ both_hold (list_all (λ b. not (b == 34)) (take n z)) (is_binary (take n z)) (all_in_front (λ b. not (b == 34)) z) bits

-- ---- strings

-- where the apostrophe stands that ends a string
record Ends (is_second : Bool) (at : ℕ) (z : List ℕ) (end : ℕ) : Type 0 where
  len : ℕ
  end_is : end ≡ at + len + 1
  within : len < length z
  paired : is_paired is_second (take len z) ≡ true

some_is : (at end : ℕ) → Some (at + 1) ≡ Some end → end ≡ at + 0 + 1
some_is at end e = let same : at + 1 ≡ end = cc in omega (arith, same)

no_not : (t : Bool) → not t ≡ false → t ≡ true
no_not true e = refl
no_not false e = cc

ends_by : (is_second : Bool) (at : ℕ) (z : List ℕ) (end : ℕ) → (is_second ≡ true → (slice_index z 0 == 39) ≡ true) → string_end is_second at z ≡ Some end → Ends is_second at z end
ends_by is_second at [] end second e = cc
ends_by true at (b ∷ z) end second e =
    let found = ends_by false (at + 1) z end (λ no. cc) e in
    record {
      len = suc found.len;
      end_is = omega (arith, found.end_is);
      within = omega (arith, found.within);
      paired = both_hold (b == 39) (is_paired false (take found.len z)) (second refl) found.paired;
    }
ends_by false at (b ∷ z) end second e = by_byte (b == 39) refl (not (slice_index z 0 == 39)) refl (λ s next e. ends_by s (at + 1) z end next e) e
  where
    by_byte : (quote : Bool) → (b == 39) ≡ quote → (last : Bool) → not (slice_index z 0 == 39) ≡ last → ((s : Bool) → (s ≡ true → (slice_index z 0 == 39) ≡ true) → string_end s (at + 1) z ≡ Some end → Ends s (at + 1) z end)
        → (if quote && last then Some (at + 1) else string_end quote (at + 1) z) ≡ Some end → Ends false at (b ∷ z) end
    by_byte true is true next goes e = record { len = 0; end_is = some_is at end e; within = omega arith; paired = refl }
    by_byte true is false next goes e =
        let found = goes true (λ s. no_not (slice_index z 0 == 39) next) e in
        record { len = suc found.len; end_is = omega (arith, found.end_is); within = omega (arith, found.within); paired = rw is found.paired }
    by_byte false is last next goes e =
        let found = goes false (λ no. cc) e in
        record { len = suc found.len; end_is = omega (arith, found.end_is); within = omega (arith, found.within); paired = rw is found.paired }

quoted_is : (n : ℕ) (o : Option StringFault) (z : List ℕ) → (is_none o ≡ true → is_string (inner (take n z)) ≡ true) → IsFound (quoted n o) z
quoted_is n None z holds = fine (holds refl)
quoted_is n (Some fault) z holds = fine refl

closed_is : (b : ℕ) (z : List ℕ) (o : Option ℕ) → string_end false 1 z ≡ o → IsFound (closed (b ∷ z) o) (b ∷ z)
closed_is b z None e = fine refl
closed_is b z (Some end) e =
    let found = ends_by false 1 z end (λ no. cc) e in
    let len = found.len in
    let size : end ≡ len + 2 = omega (arith, found.end_is) in
    let less : end - 2 ≡ len = omega (arith, found.end_is) in
    let inside : inner (take end (b ∷ z)) ≡ take len z = ap (λ n. inner (take n (b ∷ z))) size ∙ inner-take len (b ∷ z) (omega (arith, found.within)) in
    let same : take (end - 2) z ≡ take len z = ap (λ n. take n z) less in
    quoted_is end (strings.fault (take (end - 2) z)) (b ∷ z)
    (λ none. ap is_string inside ∙ both_hold (is_paired false (take len z)) (is_none (strings.fault (take len z))) found.paired (ap (λ t. is_none (strings.fault t)) (sym same) ∙ none))

string_is : (b : ℕ) (z : List ℕ) → IsFound (string (b ∷ z)) (b ∷ z)
unfolding string
string_is b z = closed_is b z (string_end false 1 z) refl

-- ---- whatever stands in front

commented_is : (o : Option ℕ) (z : List ℕ) → IsFound (commented o) z
commented_is None z = fine refl
commented_is (Some n) z = fine refl

slash_is : (z : List ℕ) → IsFound (slash z) z
unfolding slash
slash_is z =
    let comment = commented (comment_len (drop 2 z)) in
    either (slice_index z 1 == 42) comment (Fault fault.Token) (λ e. commented_is (comment_len (drop 2 z)) z) (λ e. fine refl)

directive_is : (z : List ℕ) → IsFound (directive z) z
unfolding directive
directive_is z = fine (grind arith)

single_is : (b : ℕ) (z : List ℕ) → IsFound (single b) z
single_is b z = fine (grind arith)

punctuation_is : (b : ℕ) (z : List ℕ) → IsFound (punctuation (b ∷ z)) (b ∷ z)
unfolding punctuation
punctuation_is b z =
    let t = b ∷ z in
    let p5 : Start = if b == 92 then directive t else single b in
    let p4 : Start = if b == 47 then slash t else p5 in
    let p3 : Start = if b == 34 then binary t else p4 in
    let p2 : Start = if b == 46 then item t else p3 in
    let p1 : Start = if b == 35 then name t else p2 in
    either (b == 39) (string t) p1 (λ e. string_is b z) (λ e.
    either (b == 35) (name t) p2 (λ e. name_is t) (λ e.
    either (b == 46) (item t) p3 (λ e. item_is t) (λ e.
    either (b == 34) (binary t) p4 (λ e. binary_is t) (λ e.
    either (b == 47) (slash t) p5 (λ e. slash_is t) (λ e.
    either (b == 92) (directive t) (single b) (λ e. directive_is t) (λ e. single_is b t))))))

front_is : (b : ℕ) (z : List ℕ) → IsFound (front (b ∷ z)) (b ∷ z)
unfolding front
front_is b z =
    let t = b ∷ z in
    let f2 : Start = if is_sign b || is_ascii_digit b then number t else punctuation t in
    let f1 : Start = if is_letter b then word t else f2 in
    either (nat_le b 32) (Blank 1) f1 (λ e. fine refl) (λ e.
    either (is_letter b) (word t) f2 (λ letter. word_is b z letter) (λ e.
    either (is_sign b || is_ascii_digit b) (number t) (punctuation t) (λ e. number_is t) (λ e. punctuation_is b z)))

-- ---- the tokens of a text

abbrev pub IsLexeme : Lexeme → Type 0
IsLexeme t = is_token t.kind t.text ≡ true

abbrev pub AreTokens : Lexemes → Type 0
AreTokens s = AllByRecursion IsLexeme s.tokens

front_then : (f : Start) (after : ℕ → Lexemes) (at : ℕ) (z : List ℕ) → IsFound f z → ((n : ℕ) → AreTokens (after n)) → AreTokens (with_front f after at z)
front_then (Blank n) after at z found others = others n
front_then (Token kind n) after at z found others = (found.holds, others n)
front_then (Fault kind) after at z found others = tt

are_tokens_from : (at left : ℕ) (z : List ℕ) → AreTokens (lexemes_from at left z)
are_tokens_from at left [] = tt
are_tokens_from at (suc left) (b ∷ z) = are_tokens_from (at + 1) left z
are_tokens_from at zero (b ∷ z) = front_then (front (b ∷ z)) (λ n. lexemes_from (at + 1) (n - 1) z) at (b ∷ z) (front_is b z) (λ n. are_tokens_from (at + 1) (n - 1) z)

pub are_tokens : (at : ℕ) (z : List ℕ) → AreTokens (lexemes at z)
unfolding lexemes
are_tokens at z = are_tokens_from at 0 z
