-- Each token as it is spelled stands in front of a text that it begins, where a mark comes next.
use Rattle.std.proofs.Common.{◌≡◌, ℕ, suc, ◌+◌, ◌-◌, ◌<◌, ◌≤◌, zero, Bool, true, false, not, ◌&&◌, ◌||◌, ◌==◌, nat_le, nat_lt, if◌then◌else◌, List, [], ◌∷◌, ◌++◌, length, take, drop, Option, Some, None, codes, ⊎_elim, refl, sym, ◌∙◌, ap, arith, length-append, append_assoc}
use Rattle.std.proofs.lemmas.Bool.{cases_Bool, eqb-true}
use Rattle.std.proofs.lemmas.Bool.Decides.{nat_tests}
use Rattle.std.proofs.lemmas.List.{drop-append-le, get_or-drop, get_or_past, length-drop}
use Rattle.std.proofs.lemmas.List.Sums.{prefix_len-le-length}
use Rattle.std.proofs.Math.Seq.{drop-nil, take-append_seam}
use Rattle.std.specs.Char.{is_ascii_digit, to_ascii_lowercase}
use Rattle.std.specs.List.{list_all, list_any, prefix_len}
use Rattle.std.specs.Option.{is_none, is_some}
use Rattle.std.specs.Prelude.{is_ok, slice_index, option_map}
use Rattle.std.specs.Str.{str_eq_ignore_ascii_case}
use Rattle.p21_escapes.specs.declared.fault.StringFault.{StringFault}
use Rattle.p21_escapes.specs.Decoding as strings
use Rattle.p21_escapes.specs.Encoding.{is_paired}
use Rattle.p21_lexemes.specs.declared.token.TokenKind.{TokenKind}
use Rattle.p21_lexemes.specs.declared.token.TokenKind.TheVariants as k
use Rattle.p21_lexemes.specs.declared.front.Start.TheVariants.{Token}
use Rattle.rp_numbers.specs.Spelling.{sign_len, digits_len, exponent_len}
use Rattle.rp_numbers.specs.Whole.{value}
use Rattle.text_forms.specs.Words.{is_word_byte}
use Rattle.p21_lexemes.specs.Lexical.{front, word, number, name, item, string, quoted, binary, is_binary, punctuation, string_end, is_letter, is_mark_byte, is_sign, greatest, max_name}
use Rattle.rp_numbers.specs.Spelling as numbers
use Rattle.p21_spelling.specs.Tokens.{are_digits, is_integer, is_real, is_bits, is_word, is_string, is_cut}
use Rattle.p21_spelling.proofs.Runs.{first_holds, second_holds, both_hold, cut_fails, run_ends, test_at, run_of_all, prefix_all, all_more, none_of}

-- the text is a token of this kind, whatever comes behind it
abbrev pub Stands : TokenKind → List ℕ → Type 0
Stands kind t = (rest : List ℕ) → is_cut rest ≡ true → front (t ++ rest) ≡ Token kind (length t)

-- ---- `$` and `*`

pub stands-dollar : Stands k.Dollar (36 ∷ [])
unfolding front punctuation
stands-dollar = λ rest cut. refl

pub stands-star : Stands k.Star (42 ∷ [])
unfolding front punctuation
stands-star = λ rest cut. refl

-- ---- words

letter_is_no_blank : (b : ℕ) → is_letter b ≡ true → nat_le b 32 ≡ false
letter_is_no_blank b e = grind (arith, nat_tests)

pub letter_is_word_byte : (b : ℕ) → is_letter b ≡ true → is_word_byte b ≡ true
letter_is_word_byte b e = grind (arith, nat_tests)

word_byte_is_no_hyphen : (b : ℕ) → is_word_byte b ≡ true → (b == 45) ≡ false
word_byte_is_no_hyphen b e = grind (arith, nat_tests)

or_first : (a b : Bool) → a ≡ true → (a || b) ≡ true
or_first a b e = rw e refl

or_second : (a b : Bool) → b ≡ true → (a || b) ≡ true
or_second true b e = refl
or_second false b e = e

front_word : (b : ℕ) (z : List ℕ) → is_letter b ≡ true → front (b ∷ z) ≡ word (b ∷ z)
unfolding front
front_word b z letter = rw (letter_is_no_blank b letter, letter) refl

lower_apart : (b : ℕ) → (b == 45) ≡ false → (to_ascii_lowercase b == 45) ≡ false
lower_apart b other = grind (arith, nat_tests)

and_false : (a : Bool) → (a && false) ≡ false
and_false true = refl
and_false false = refl

-- a text with no `-` isn't one with it, in any case
not_mark : (t mark : List ℕ) → list_any (λ b. b == 45) t ≡ false → list_any (λ b. b == 45) mark ≡ true → str_eq_ignore_ascii_case t mark ≡ false
not_mark [] [] none some = cc
not_mark [] (c ∷ mark) none some = refl
not_mark (b ∷ t) [] none some = cc
not_mark (b ∷ t) (c ∷ mark) none some =
    let other : (b == 45) ≡ false = neither (b == 45) (list_any (λ b. b == 45) t) none in
    let others : list_any (λ b. b == 45) t ≡ false = rw other at none in
    ⊎_elim
    (λ (hyphen : (c == 45) ≡ true). rw (eqb-true c 45 hyphen, lower_apart b other) refl)
    (λ (plain : (c == 45) ≡ false).
    let more : list_any (λ b. b == 45) mark ≡ true = rw plain at some in
    rw (not_mark t mark others more) (and_false _))
    (cases_Bool (c == 45))
  where
    neither : (a b : Bool) → (a || b) ≡ false → a ≡ false
    neither true b e = cc
    neither false b e = refl

word_by : (z t : List ℕ) (n : ℕ) → prefix_len is_mark_byte z ≡ n → take n z ≡ t → list_any (λ b. b == 45) t ≡ false → word z ≡ Token k.Word n
unfolding word
word_by z t n long is none = rw (long, is, not_mark t (codes "ISO-10303-21") none refl, not_mark t (codes "END-ISO-10303-21") none refl, none) refl

pub stands-word : (t : List ℕ) → is_word t ≡ true → Stands k.Word t
stands-word [] e = cc
stands-word (b ∷ t) e = λ rest cut.
    let letter = first_holds (is_letter b) (list_all is_word_byte t) e in
    let all = both_hold (is_word_byte b) (list_all is_word_byte t) (letter_is_word_byte b letter) (second_holds (is_letter b) (list_all is_word_byte t) e) in
    let long = prefix_all is_mark_byte (b ∷ t) rest (all_more is_word_byte is_mark_byte (λ b h. or_first (is_word_byte b) (b == 45) h) (b ∷ t) all)
    (cut_fails is_mark_byte refl refl refl refl refl rest cut) in
    let none = none_of is_word_byte (λ b. b == 45) word_byte_is_no_hyphen (b ∷ t) all in
    front_word b (t ++ rest) letter ∙ word_by ((b ∷ t) ++ rest) (b ∷ t) (length (b ∷ t)) long (take-append_seam (b ∷ t) rest) none

-- ---- the marks of a file

start_by : (z : List ℕ) (n : ℕ) → prefix_len is_mark_byte z ≡ n → take n z ≡ codes "ISO-10303-21" → word z ≡ Token k.FileStart n
unfolding word
start_by z n long is = rw (long, is) refl

pub stands-start : Stands k.FileStart (codes "ISO-10303-21")
stands-start = λ rest cut.
    let t = codes "ISO-10303-21" in
    let long = prefix_all is_mark_byte t rest refl (cut_fails is_mark_byte refl refl refl refl refl rest cut) in
    front_word 73 (drop 1 t ++ rest) refl ∙ start_by (t ++ rest) (length t) long (take-append_seam t rest)

end_by : (z : List ℕ) (n : ℕ) → prefix_len is_mark_byte z ≡ n → take n z ≡ codes "END-ISO-10303-21" → word z ≡ Token k.FileEnd n
unfolding word
end_by z n long is = rw (long, is) refl

pub stands-end : Stands k.FileEnd (codes "END-ISO-10303-21")
stands-end = λ rest cut.
    let t = codes "END-ISO-10303-21" in
    let long = prefix_all is_mark_byte t rest refl (cut_fails is_mark_byte refl refl refl refl refl rest cut) in
    front_word 69 (drop 1 t ++ rest) refl ∙ end_by (t ++ rest) (length t) long (take-append_seam t rest)

-- ---- names

some_length : (n : ℕ) → nat_lt 0 n ≡ true → (n == 0) ≡ false
some_length n e = grind (arith, nat_tests)

digits_run : (ds rest : List ℕ) → list_all is_ascii_digit ds ≡ true → is_cut rest ≡ true → prefix_len is_ascii_digit (ds ++ rest) ≡ length ds
digits_run ds rest all cut = prefix_all is_ascii_digit ds rest all (cut_fails is_ascii_digit refl refl refl refl refl rest cut)

name_by : (z : List ℕ) (n : ℕ) → digits_len (drop 1 z) ≡ n → (n == 0) ≡ false → nat_le (value (take n (drop 1 z))) max_name ≡ true → name z ≡ Token k.Name (1 + n)
unfolding name
name_by z n long some small = rw (long, some, small) refl

front_name : (z : List ℕ) → front (35 ∷ z) ≡ name (35 ∷ z)
unfolding front punctuation
front_name z = refl

-- `#` and the digits of a name
pub stands-name : (ds : List ℕ) → are_digits ds ≡ true → nat_le (value ds) max_name ≡ true → Stands k.Name (35 ∷ ds)
stands-name ds e small = λ rest cut.
    let some = some_length (length ds) (first_holds (nat_lt 0 (length ds)) (list_all is_ascii_digit ds) e) in
    let all = second_holds (nat_lt 0 (length ds)) (list_all is_ascii_digit ds) e in
    let size : 1 + length ds ≡ length (35 ∷ ds) = omega arith in
    front_name (ds ++ rest)
    ∙ name_by ((35 ∷ ds) ++ rest) (length ds) (digits_run ds rest all cut) some (ap (λ l. nat_le (value l) max_name) (take-append_seam ds rest) ∙ small)
    ∙ ap (Token k.Name) size

-- ---- numbers

-- a number begins with a sign or a digit
sign_is_no_blank : (b : ℕ) → is_sign b ≡ true → nat_le b 32 ≡ false
sign_is_no_blank b e = grind (arith, nat_tests)

sign_is_no_letter : (b : ℕ) → is_sign b ≡ true → is_letter b ≡ false
sign_is_no_letter b e = grind (arith, nat_tests)

digit_is_no_blank : (b : ℕ) → is_ascii_digit b ≡ true → nat_le b 32 ≡ false
digit_is_no_blank b e = grind (arith, nat_tests)

digit_is_no_letter : (b : ℕ) → is_ascii_digit b ≡ true → is_letter b ≡ false
digit_is_no_letter b e = grind (arith, nat_tests)

front_number : (b : ℕ) (z : List ℕ) → nat_le b 32 ≡ false → is_letter b ≡ false → (is_sign b || is_ascii_digit b) ≡ true → front (b ∷ z) ≡ number (b ∷ z)
unfolding front
front_number b z no_blank no_letter begins = rw (no_blank, no_letter, begins) refl

-- where a digit comes behind the sign
number_in_front : (b : ℕ) (t rest : List ℕ) → is_ascii_digit (slice_index (b ∷ t) (sign_len (b ∷ t))) ≡ true → front ((b ∷ t) ++ rest) ≡ number ((b ∷ t) ++ rest)
number_in_front b t rest digit =
    ⊎_elim
    (λ (sign : is_sign b ≡ true). front_number b (t ++ rest) (sign_is_no_blank b sign) (sign_is_no_letter b sign) (or_first (is_sign b) (is_ascii_digit b) sign))
    (λ (other : is_sign b ≡ false).
    let first : is_ascii_digit b ≡ true = rw other at digit in
    front_number b (t ++ rest) (digit_is_no_blank b first) (digit_is_no_letter b first) (or_second (is_sign b) (is_ascii_digit b) first))
    (cases_Bool (is_sign b))

-- ---- integers

sign_at_most : (z : List ℕ) → sign_len z ≤ 1
sign_at_most z = grind arith

first_digit : (ds : List ℕ) → nat_lt 0 (prefix_len is_ascii_digit ds) ≡ true → is_ascii_digit (slice_index ds 0) ≡ true
first_digit [] some = cc
first_digit (d ∷ ds) some =
    ⊎_elim
    (λ (digit : is_ascii_digit d ≡ true). digit)
    (λ (other : is_ascii_digit d ≡ false). absurd (nothing (rw other at some)))
    (cases_Bool (is_ascii_digit d))
  where
    nothing : nat_lt 0 0 ≡ true → ⊥
    nothing e = cc

-- the byte behind the sign
behind_sign : (t : List ℕ) (n : ℕ) → is_ascii_digit (slice_index (drop n t) 0) ≡ true → is_ascii_digit (slice_index t n) ≡ true
behind_sign t n digit =
    let there : n + 0 ≡ n = omega arith in
    ap (λ i. is_ascii_digit (slice_index t i)) (sym there) ∙ ap is_ascii_digit (sym (get_or-drop n t 0 0)) ∙ digit

no_point : (t rest : List ℕ) (n : ℕ) → n ≡ length t → is_cut rest ≡ true → (slice_index (t ++ rest) n == 46) ≡ false
no_point t rest n is cut =
    let fits : n ≤ length t = omega arith in
    test_at (λ b. b == 46) t rest n (cut_fails (λ b. b == 46) refl refl refl refl refl rest cut) refl fits ∙ ap (λ b. b == 46) (get_or_past t n 0 (omega arith))

number_by : (z : List ℕ) (sign whole : ℕ) → sign_len z ≡ sign → digits_len (drop sign z) ≡ whole → (whole == 0) ≡ false → (slice_index z (sign + whole) == 46) ≡ false
    → nat_le (value (take whole (drop sign z))) (greatest (slice_index z 0)) ≡ true → number z ≡ Token k.Integer (sign + whole)
unfolding number
number_by z sign whole signed long some apart small = rw (signed, long, some, apart, small) refl

pub stands-integer : (t : List ℕ) → is_integer t ≡ true → Stands k.Integer t
stands-integer [] e = cc
stands-integer (b ∷ u) e = λ rest cut.
    let t = b ∷ u in
    let sign = sign_len t in
    let ds = drop sign t in
    let within : sign ≤ length t = omega (arith, sign_at_most t) in
    let digits = first_holds (are_digits ds) (nat_le (value ds) (greatest b)) e in
    let some = first_holds (nat_lt 0 (length ds)) (list_all is_ascii_digit ds) digits in
    let all = second_holds (nat_lt 0 (length ds)) (list_all is_ascii_digit ds) digits in
    let first = first_digit ds (ap (nat_lt 0) (run_of_all is_ascii_digit ds all) ∙ some) in
    let behind : drop sign (t ++ rest) ≡ ds ++ rest = drop-append-le sign t rest within in
    let size : sign + length ds ≡ length t = omega (arith, length-drop sign t) in
    let value_is : value (take (length ds) (drop sign (t ++ rest))) ≡ value ds = ap (λ l. value (take (length ds) l)) behind ∙ ap value (take-append_seam ds rest) in
    number_in_front b u rest (behind_sign t sign first)
    ∙ number_by (t ++ rest) sign (length ds) refl (ap digits_len behind ∙ digits_run ds rest all cut) (some_length (length ds) some) (no_point t rest (sign + length ds) size cut)
    (ap (λ n. nat_le n (greatest b)) value_is ∙ second_holds (are_digits ds) (nat_le (value ds) (greatest b)) e)
    ∙ ap (Token k.Integer) size

-- ---- reals

-- what a text that spells a decimal has behind its sign
record Parts (t : List ℕ) : Type 0 where
  whole : nat_lt 0 (digits_len (drop (sign_len t) t)) ≡ true
  point : (slice_index (drop (sign_len t) t) (digits_len (drop (sign_len t) t)) == 46) ≡ true
  power : let behind = drop (digits_len (drop (sign_len t) t) + 1) (drop (sign_len t) t) in is_some (numbers.power (drop (digits_len behind) behind)) ≡ true

parts_by : {X : Type 0} (c : Bool) (f : X → numbers.Real) (o : Option X) → is_ok (numbers.decimal_of (if c then option_map f o else None)) ≡ true → (c ≡ true) × (is_some o ≡ true)
parts_by false f o e = cc
parts_by true f None e = cc
parts_by true f (Some x) e = (refl, refl)

parts : (t : List ℕ) → is_real t ≡ true → Parts t
unfolding numbers.parse numbers.real
parts t e =
    let unsigned = drop (sign_len t) t in
    let both = parts_by _ _ _ e in
    record { whole = first_holds _ _ both.0; point = second_holds _ _ both.0; power = both.1 }

drop_twice : (m n : ℕ) (t : List ℕ) → drop m (drop n t) ≡ drop (n + m) t
drop_twice m zero t = let there : m ≡ 0 + m = omega arith in ap (λ i. drop i t) there
drop_twice m (suc n) [] = drop-nil m ∙ sym (drop-nil (suc n + m))
drop_twice m (suc n) (b ∷ t) = let there : suc (n + m) ≡ suc n + m = omega arith in drop_twice m n t ∙ ap (λ i. drop i (b ∷ t)) there

pub within_by : (t : List ℕ) (n : ℕ) → (slice_index t n == 46) ≡ true → n < length t
within_by [] n e = cc
within_by (b ∷ t) zero e = omega arith
within_by (b ∷ t) (suc n) e = let less = within_by t n e in omega arith

by_test : (c : Bool) (z : List ℕ) → is_some (if c then Some z else None) ≡ true → c ≡ true
by_test true z e = refl
by_test false z e = cc

no_exponent : (rest : List ℕ) → is_cut rest ≡ true → exponent_len rest ≡ 0
no_exponent rest cut = rw (cut_fails (λ b. b == 69 || b == 101) refl refl refl refl refl rest cut) refl

exponent_by : (z : List ℕ) (sign digits : ℕ) → (slice_index z 0 == 69 || slice_index z 0 == 101) ≡ true → sign_len (drop 1 z) ≡ sign → digits_len (drop (1 + sign) z) ≡ digits → nat_lt 0 digits ≡ true → exponent_len z ≡ 1 + sign + digits
exponent_by z sign digits e signed long some = rw (e, signed, long, some) refl

exponent_long : (w rest : List ℕ) → is_some (numbers.power w) ≡ true → is_cut rest ≡ true → exponent_len (w ++ rest) ≡ length w
exponent_long [] rest e cut = no_exponent rest cut
exponent_long (b ∷ z) rest e cut =
    let sign = sign_len z in
    let ds = drop sign z in
    let begins = b == 69 || b == 101 in
    let some_of = nat_lt 0 (length ds) in
    let all_of = list_all is_ascii_digit ds in
    let holds = by_test (begins && some_of && all_of) z e in
    let both = first_holds (begins && some_of) all_of holds in
    let some = second_holds begins some_of both in
    let all = second_holds (begins && some_of) all_of holds in
    let is_one = test_at is_sign z rest 0 (cut_fails is_sign refl refl refl refl refl rest cut) refl (omega arith) in
    let signed : sign_len (z ++ rest) ≡ sign = ap (λ b. if b then 1 else 0) is_one in
    let within : sign ≤ length z = some_behind sign z some in
    let behind : drop (1 + sign) ((b ∷ z) ++ rest) ≡ ds ++ rest = after_one sign (z ++ rest) b ∙ drop-append-le sign z rest within in
    let size : 1 + sign + length ds ≡ length (b ∷ z) = omega (arith, length-drop sign z) in
    exponent_by ((b ∷ z) ++ rest) sign (length ds) (first_holds begins some_of both) signed (ap digits_len behind ∙ digits_run ds rest all cut) some ∙ size
  where
    after_one : (n : ℕ) (z : List ℕ) (b : ℕ) → drop (1 + n) (b ∷ z) ≡ drop n z
    after_one n z b = let there : 1 + n ≡ suc n = omega arith in ap (λ i. drop i (b ∷ z)) there

    some_behind : (n : ℕ) (z : List ℕ) → nat_lt 0 (length (drop n z)) ≡ true → n ≤ length z
    some_behind n z some = let size = length-drop n z in grind (arith, nat_tests)

real_by : (z : List ℕ) (sign whole fraction power n : ℕ) → sign_len z ≡ sign → digits_len (drop sign z) ≡ whole → (whole == 0) ≡ false → (slice_index z (sign + whole) == 46) ≡ true
    → digits_len (drop (sign + whole + 1) z) ≡ fraction → exponent_len (drop (sign + whole + 1 + fraction) z) ≡ power → sign + whole + 1 + fraction + power ≡ n → is_ok (numbers.parse (take n z)) ≡ true → number z ≡ Token k.Real n
unfolding number
real_by z sign whole fraction power n signed long some dot part exponent size ok = rw (signed, long, some, dot, part, exponent, size, ok) refl

pub stands-real : (t : List ℕ) → is_real t ≡ true → Stands k.Real t
stands-real [] e = absurd (nothing (parts [] e).whole)
  where
    nothing : nat_lt 0 0 ≡ true → ⊥
    nothing e = cc
stands-real (b ∷ u) e = λ rest cut.
    let t = b ∷ u in
    let p = parts t e in
    let sign = sign_len t in
    let unsigned = drop sign t in
    let whole = digits_len unsigned in
    let behind = drop (whole + 1) unsigned in
    let fraction = digits_len behind in
    let w = drop fraction behind in
    let digit_ends = cut_fails is_ascii_digit refl refl refl refl refl rest cut in
    let at_point : (slice_index t (sign + whole) == 46) ≡ true = ap (λ b. b == 46) (sym (get_or-drop sign t whole 0)) ∙ p.point in
    let less : sign + whole < length t = within_by t (sign + whole) at_point in
    let behind_is : behind ≡ drop (sign + whole + 1) t = drop_twice (whole + 1) sign t ∙ ap (λ i. drop i t) (omega arith) in
    let w_is : w ≡ drop (sign + whole + 1 + fraction) t = ap (drop fraction) behind_is ∙ drop_twice fraction (sign + whole + 1) t in
    let short : fraction ≤ length behind = prefix_len-le-length is_ascii_digit behind in
    let long_behind : length behind ≡ length t - (sign + whole + 1) = ap length behind_is ∙ length-drop (sign + whole + 1) t in
    let long_w : length w ≡ length behind - fraction = length-drop fraction behind in
    let size : sign + whole + 1 + fraction + length w ≡ length t = omega arith in
    let after_sign : drop sign (t ++ rest) ≡ unsigned ++ rest = drop-append-le sign t rest (omega arith) in
    let after_point : drop (sign + whole + 1) (t ++ rest) ≡ behind ++ rest = drop-append-le (sign + whole + 1) t rest (omega arith) ∙ ap (λ l. l ++ rest) (sym behind_is) in
    let after_fraction : drop (sign + whole + 1 + fraction) (t ++ rest) ≡ w ++ rest = drop-append-le (sign + whole + 1 + fraction) t rest (omega arith) ∙ ap (λ l. l ++ rest) (sym w_is) in
    let dot = test_at (λ b. b == 46) t rest (sign + whole) (cut_fails (λ b. b == 46) refl refl refl refl refl rest cut) refl (omega arith) ∙ at_point in
    number_in_front b u rest (behind_sign t sign (first_digit unsigned p.whole))
    ∙ real_by (t ++ rest) sign whole fraction (length w) (length t) refl (ap digits_len after_sign ∙ run_ends is_ascii_digit unsigned rest digit_ends) (some_length whole p.whole) dot
    (ap digits_len after_point ∙ run_ends is_ascii_digit behind rest digit_ends) (ap exponent_len after_fraction ∙ exponent_long w rest p.power cut) size
    (ap (λ l. is_ok (numbers.parse l)) (take-append_seam t rest) ∙ e)

-- ---- items

item_by : (z : List ℕ) (n : ℕ) → prefix_len is_word_byte (drop 1 z) ≡ n → is_letter (slice_index z 1) ≡ true → (slice_index z (1 + n) == 46) ≡ true → item z ≡ Token k.Item (n + 2)
unfolding item
item_by z n long letter ends = rw (long, letter, ends) refl

front_item : (z : List ℕ) → front (46 ∷ z) ≡ item (46 ∷ z)
unfolding front punctuation
front_item z = refl

head_at : (t rest : List ℕ) (b : ℕ) → slice_index (t ++ b ∷ rest) (length t) ≡ b
head_at [] rest b = refl
head_at (x ∷ t) rest b = head_at t rest b

pub stands-item : (t : List ℕ) → is_word t ≡ true → Stands k.Item (46 ∷ (t ++ 46 ∷ []))
stands-item [] e = cc
stands-item (b ∷ t) e = λ rest cut.
    let letter = first_holds (is_letter b) (list_all is_word_byte t) e in
    let all = both_hold (is_word_byte b) (list_all is_word_byte t) (letter_is_word_byte b letter) (second_holds (is_letter b) (list_all is_word_byte t) e) in
    let joined : ((b ∷ t) ++ 46 ∷ []) ++ rest ≡ (b ∷ t) ++ 46 ∷ rest = append_assoc (b ∷ t) (46 ∷ []) rest in
    let long = prefix_all is_word_byte (b ∷ t) (46 ∷ rest) all refl in
    let there : 1 + length (b ∷ t) ≡ suc (length (b ∷ t)) = omega arith in
    let ends : (slice_index (46 ∷ ((b ∷ t) ++ 46 ∷ rest)) (1 + length (b ∷ t)) == 46) ≡ true =
    ap (λ n. slice_index (46 ∷ ((b ∷ t) ++ 46 ∷ rest)) n == 46) there ∙ ap (λ n. n == 46) (head_at (b ∷ t) rest 46) in
    let size : length (b ∷ t) + 2 ≡ length (46 ∷ ((b ∷ t) ++ 46 ∷ [])) = omega (arith, length-append (b ∷ t) (46 ∷ [])) in
    front_item (((b ∷ t) ++ 46 ∷ []) ++ rest)
    ∙ ap (λ l. item (46 ∷ l)) joined
    ∙ item_by (46 ∷ ((b ∷ t) ++ 46 ∷ rest)) (length (b ∷ t)) long letter ends
    ∙ ap (Token k.Item) size

-- ---- strings

second_is : (t rest : List ℕ) → is_paired true t ≡ true → (slice_index (t ++ 39 ∷ rest) 0 == 39) ≡ true
second_is [] rest e = cc
second_is (c ∷ t) rest e = first_holds (c == 39) (is_paired false t) e

-- the apostrophe that ends a string stands behind its bytes
string_ends : (is_second : Bool) (at : ℕ) (t rest : List ℕ) → is_paired is_second t ≡ true → (slice_index rest 0 == 39) ≡ false → string_end is_second at (t ++ 39 ∷ rest) ≡ Some (at + length t + 1)
string_ends true at [] rest e apart = cc
string_ends false at [] rest e apart = rw apart (ap Some (omega arith))
string_ends true at (b ∷ t) rest e apart =
    let there : at + 1 + length t + 1 ≡ at + length (b ∷ t) + 1 = omega arith in
    string_ends false (at + 1) t rest (second_holds (b == 39) (is_paired false t) e) apart ∙ ap Some there
string_ends false at (b ∷ t) rest e apart =
    let there : at + 1 + length t + 1 ≡ at + length (b ∷ t) + 1 = omega arith in
    ⊎_elim
    (λ (quote : (b == 39) ≡ true).
    let paired : is_paired true t ≡ true = rw quote at e in
    rw (quote, second_is t rest paired) (string_ends true (at + 1) t rest paired apart ∙ ap Some there))
    (λ (other : (b == 39) ≡ false).
    let paired : is_paired false t ≡ true = rw other at e in
    rw other (string_ends false (at + 1) t rest paired apart ∙ ap Some there))
    (cases_Bool (b == 39))

quoted_by : (n : ℕ) (o : Option StringFault) → is_none o ≡ true → quoted n o ≡ Token k.Text n
quoted_by n None e = refl
quoted_by n (Some fault) e = cc

string_by : (z t : List ℕ) (n : ℕ) → string_end false 1 (drop 1 z) ≡ Some n → take (n - 2) (drop 1 z) ≡ t → is_none (strings.fault t) ≡ true → string z ≡ Token k.Text n
unfolding string
string_by z t n ends inside spells = rw ends (ap (λ l. quoted n (strings.fault l)) inside ∙ quoted_by n (strings.fault t) spells)

front_string : (z : List ℕ) → front (39 ∷ z) ≡ string (39 ∷ z)
unfolding front punctuation
front_string z = refl

pub stands-string : (t : List ℕ) → is_string t ≡ true → Stands k.Text (39 ∷ (t ++ 39 ∷ []))
stands-string t e = λ rest cut.
    let joined : (t ++ 39 ∷ []) ++ rest ≡ t ++ 39 ∷ rest = append_assoc t (39 ∷ []) rest in
    let ends = string_ends false 1 t rest (first_holds (is_paired false t) (is_none (strings.fault t)) e) (cut_fails (λ b. b == 39) refl refl refl refl refl rest cut) in
    let len : 1 + length t + 1 - 2 ≡ length t = omega arith in
    let inside : take (1 + length t + 1 - 2) (t ++ 39 ∷ rest) ≡ t = ap (λ n. take n (t ++ 39 ∷ rest)) len ∙ take-append_seam t (39 ∷ rest) in
    let size : 1 + length t + 1 ≡ length (39 ∷ (t ++ 39 ∷ [])) = omega (arith, length-append t (39 ∷ [])) in
    front_string ((t ++ 39 ∷ []) ++ rest)
    ∙ ap (λ l. string (39 ∷ l)) joined
    ∙ string_by (39 ∷ (t ++ 39 ∷ rest)) t (1 + length t + 1) ends inside (second_holds (is_paired false t) (is_none (strings.fault t)) e)
    ∙ ap (Token k.Text) size

-- ---- binaries

binary_by : (z : List ℕ) (n : ℕ) → prefix_len (λ b. not (b == 34)) (drop 1 z) ≡ n → (n == length (drop 1 z)) ≡ false → is_binary (take n (drop 1 z)) ≡ true → binary z ≡ Token k.Binary (n + 2)
unfolding binary
binary_by z n long inside is = rw (long, inside, is) refl

front_binary : (z : List ℕ) → front (34 ∷ z) ≡ binary (34 ∷ z)
unfolding front punctuation
front_binary z = refl

not_all : (n m : ℕ) → n < m → (n == m) ≡ false
not_all n m h = grind (arith, nat_tests)

pub stands-binary : (t : List ℕ) → is_bits t ≡ true → Stands k.Binary (34 ∷ (t ++ 34 ∷ []))
stands-binary t e = λ rest cut.
    let joined : (t ++ 34 ∷ []) ++ rest ≡ t ++ 34 ∷ rest = append_assoc t (34 ∷ []) rest in
    let long = prefix_all (λ b. not (b == 34)) t (34 ∷ rest) (first_holds (list_all (λ b. not (b == 34)) t) (is_binary t) e) refl in
    let longer : length t < length (t ++ 34 ∷ rest) = omega (arith, length-append t (34 ∷ rest)) in
    let size : length t + 2 ≡ length (34 ∷ (t ++ 34 ∷ [])) = omega (arith, length-append t (34 ∷ [])) in
    front_binary ((t ++ 34 ∷ []) ++ rest)
    ∙ ap (λ l. binary (34 ∷ l)) joined
    ∙ binary_by (34 ∷ (t ++ 34 ∷ rest)) (length t) long (not_all (length t) (length (t ++ 34 ∷ rest)) longer) (ap is_binary (take-append_seam t (34 ∷ rest)) ∙ second_holds (list_all (λ b. not (b == 34)) t) (is_binary t) e)
    ∙ ap (Token k.Binary) size
