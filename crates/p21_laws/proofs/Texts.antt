-- What is read of a string is a text.
use Rattle.std.proofs.Common.{◌≡◌, ℕ, zero, suc, ◌+◌, ◌-◌, ◌*◌, ◌%◌, ◌<◌, Bool, true, false, ◌&&◌, ◌||◌, ◌==◌, nat_le, nat_lt, if◌then◌else◌, List, [], ◌∷◌, length, take, drop, filter, not, Option, Some, None, Ok, Err, IsUtf8, refl, subst, arith, append-nil}
use Rattle.std.proofs.lemmas.Bool.Decides.{nat_tests}
use Rattle.std.proofs.lemmas.Str.Ascii.{IsAscii-cons, IsAscii-nil}
use Rattle.std.proofs.lemmas.Str.{IsUtf8-append, IsUtf8-from_ascii, IsUtf8-from_is_utf8, IsUtf8-nil}
use Rattle.std.specs.Char.{encode_utf8}
use Rattle.std.specs.Prelude.{slice_index}
use Rattle.std.specs.Str.{is_utf8, continuation_len}
use lib.Utf8.{scalar}
use Rattle.p21_spelling.proofs.Runs.{second_holds}
use Rattle.p21_escapes.specs.declared.fault.StringFault.TheVariants as fault
use Rattle.p21_escapes.specs.Decoding as spec
use Rattle.p21_escapes.specs.Decoding.{Decoding, Front, ◌>>=◌, appended, character, coded, decoded, directive, enclosed, ended, escape, front, groups, hexadecimal, is_high, is_line_end, is_low, long, long_groups, page, raw, short, short_groups, spelled, spelled_from, text_of, unit, upper_half}
use Rattle.p21_escapes.specs.Digits.{is_digit, digit_value, value_of_four}

abbrev IsText : {A : Type 0} → Decoding A → Type 0
IsText (Ok p) = IsUtf8 p.1
IsText (Err why) = Unit {0}

text_if : {A : Type 0} (t : Bool) (p q : Decoding A) → IsText p → IsText q → IsText (if t then p else q)
text_if true p q one other = one
text_if false p q one other = other

-- where the test tells of the first
text_when : {A : Type 0} (t : Bool) (p q : Decoding A) → (t ≡ true → IsText p) → IsText q → IsText (if t then p else q)
text_when true p q one other = one refl
text_when false p q one other = other

appended_text : {A : Type 0} (text : List ℕ) (p : Decoding A) → IsUtf8 text → IsText p → IsText (appended text p)
appended_text text (Ok p) one other = IsUtf8-append text p.1 one other
appended_text text (Err why) one other = tt

then_text : {A B : Type 0} (p : Decoding A) (next : A → Decoding B) → IsText p → ((a : A) → IsText (next a)) → IsText (p >>= next)
then_text (Ok p) next one others = appended_text p.1 (next p.0) one (others p.0)
then_text (Err why) next one others = tt

encoded_text : (c : ℕ) → scalar c ≡ true → IsUtf8 (encode_utf8 c)
encoded_text c is = (c ∷ [], (rw is refl, append-nil (encode_utf8 c)))

character_text : (code : ℕ) → IsText (character code)
character_text code = text_when (scalar code) (Ok (tt, encode_utf8 code)) (Err fault.BadCode) (encoded_text code) tt

coded_text : (taken code : ℕ) → IsText (coded taken code)
coded_text taken code = then_text (character code) (λ _. Ok (taken, [])) (character_text code) (λ _. IsUtf8-nil)

-- ---- groups of digits

unit_text : (high : Option ℕ) (u : ℕ) → IsText (unit high u)
unit_text None u = text_if (is_high u) (Ok (Some u, [])) (character u >>= λ _. Ok (None, [])) IsUtf8-nil (then_text (character u) (λ _. Ok (None, [])) (character_text u) (λ _. IsUtf8-nil))
unit_text (Some high) u =
    let code : ℕ = (high - 55296) * 1024 + (u - 56320) + 65536 in
    text_if (is_low u) (character code >>= λ _. Ok (None, [])) (Err fault.BadCode) (then_text (character code) (λ _. Ok (None, [])) (character_text code) (λ _. IsUtf8-nil)) tt

ended_text : (high : Option ℕ) → IsText (ended high)
ended_text None = IsUtf8-nil
ended_text (Some high) = tt

short_text : (high : Option ℕ) (z : List ℕ) → IsText (short high z)
short_text high (a ∷ b ∷ c ∷ d ∷ z) = then_text (unit high (value_of_four a b c d)) (λ next. short next z) (unit_text high (value_of_four a b c d)) (λ next. short_text next z)
short_text high [] = ended_text high
short_text high (a ∷ []) = ended_text high
short_text high (a ∷ b ∷ []) = ended_text high
short_text high (a ∷ b ∷ c ∷ []) = ended_text high

long_text : (z : List ℕ) → IsText (long z)
long_text (a ∷ b ∷ c ∷ d ∷ e ∷ f ∷ g ∷ h ∷ z) =
    let code : ℕ = value_of_four a b c d * 65536 + value_of_four e f g h in
    then_text (character code) (λ _. long z) (character_text code) (λ _. long_text z)
long_text [] = IsUtf8-nil
long_text (a ∷ []) = IsUtf8-nil
long_text (a ∷ b ∷ []) = IsUtf8-nil
long_text (a ∷ b ∷ c ∷ []) = IsUtf8-nil
long_text (a ∷ b ∷ c ∷ d ∷ []) = IsUtf8-nil
long_text (a ∷ b ∷ c ∷ d ∷ e ∷ []) = IsUtf8-nil
long_text (a ∷ b ∷ c ∷ d ∷ e ∷ f ∷ []) = IsUtf8-nil
long_text (a ∷ b ∷ c ∷ d ∷ e ∷ f ∷ g ∷ []) = IsUtf8-nil

enclosed_text : (n : ℕ) (spell : List ℕ → Decoding (Unit {0})) (z : List ℕ) → ((z : List ℕ) → IsText (spell z)) → IsText (enclosed n spell z)
enclosed_text n spell z all = then_text (spell (take (4 * n) z)) (λ _. Ok (4 * n + 8, [])) (all (take (4 * n) z)) (λ _. IsUtf8-nil)

short_groups_text : (o : Option ℕ) (z : List ℕ) → IsText (short_groups o z)
short_groups_text None z = tt
short_groups_text (Some n) z = text_if (n == 0) spec.bad_escape (enclosed n (short None) z) tt (enclosed_text n (short None) z (short_text None))

long_groups_text : (o : Option ℕ) (z : List ℕ) → IsText (long_groups o z)
long_groups_text None z = tt
long_groups_text (Some n) z = text_if (n == 0 || n % 2 == 1) spec.bad_escape (enclosed n long z) tt (enclosed_text n long z long_text)

-- ---- escapes

below : (b : ℕ) → nat_lt b 128 ≡ true → b < 128
below b small = grind (arith, nat_tests)

ascii_text : (b : ℕ) → nat_lt b 128 ≡ true → IsUtf8 (b ∷ [])
ascii_text b small = IsUtf8-from_ascii (b ∷ []) (IsAscii-cons b [] (below b small) IsAscii-nil)

byte_text : (z : List ℕ) → IsText (spec.byte z)
unfolding spec.byte
byte_text z =
    let code : ℕ = digit_value (slice_index z 3) * 16 + digit_value (slice_index z 4) in
    text_if (is_digit (slice_index z 3) && is_digit (slice_index z 4)) (coded 5 code) spec.bad_escape (coded_text 5 code) tt

hexadecimal_text : (z : List ℕ) → IsText (hexadecimal z)
unfolding hexadecimal
hexadecimal_text z =
    let four : Front = if slice_index z 2 == 52 && slice_index z 3 == 92 then long_groups (groups (drop 4 z)) (drop 4 z) else spec.bad_escape in
    let two : Front = if slice_index z 2 == 50 && slice_index z 3 == 92 then short_groups (groups (drop 4 z)) (drop 4 z) else four in
    text_if (slice_index z 2 == 92) (spec.byte z) two (byte_text z)
    (text_if (slice_index z 2 == 50 && slice_index z 3 == 92) (short_groups (groups (drop 4 z)) (drop 4 z)) four (short_groups_text (groups (drop 4 z)) (drop 4 z))
    (text_if (slice_index z 2 == 52 && slice_index z 3 == 92) (long_groups (groups (drop 4 z)) (drop 4 z)) spec.bad_escape (long_groups_text (groups (drop 4 z)) (drop 4 z)) tt))

upper_half_text : (z : List ℕ) → IsText (upper_half z)
unfolding upper_half
upper_half_text z =
    let c : ℕ = slice_index z 3 in
    let doubled : Front = if slice_index z 4 == 39 then coded 5 167 else spec.bad_escape in
    let inner : Front = if c == 39 then doubled else coded 4 (c + 128) in
    text_if (slice_index z 2 == 92 && nat_le 32 c && nat_le c 126) inner spec.bad_escape
    (text_if (c == 39) doubled (coded 4 (c + 128)) (text_if (slice_index z 4 == 39) (coded 5 167) spec.bad_escape (coded_text 5 167) tt) (coded_text 4 (c + 128))) tt

page_text : (z : List ℕ) → IsText (page z)
unfolding page
page_text z =
    let part : ℕ = slice_index z 2 in
    let inner : Front = if part == 65 then Ok (4, []) else Err fault.PageUnsupported in
    text_if (slice_index z 3 == 92 && nat_le 65 part && nat_le part 73) inner spec.bad_escape (text_if (part == 65) (Ok (4, [])) (Err fault.PageUnsupported) IsUtf8-nil tt) tt

directive_text : (z : List ℕ) → IsText (directive z)
unfolding directive
directive_text z = text_if (slice_index z 2 == 92) (Ok (3, [])) spec.bad_escape IsUtf8-nil tt

escape_text : (z : List ℕ) → IsText (escape z)
unfolding escape
escape_text z =
    let letter : ℕ = slice_index z 1 in
    let four : Front = if letter == 78 || letter == 70 then directive z else spec.bad_escape in
    let three : Front = if letter == 80 then page z else four in
    let two : Front = if letter == 83 then upper_half z else three in
    let one : Front = if letter == 88 then hexadecimal z else two in
    text_if (letter == 92) (Ok (2, 92 ∷ [])) one (ascii_text 92 refl)
    (text_if (letter == 88) (hexadecimal z) two (hexadecimal_text z)
    (text_if (letter == 83) (upper_half z) three (upper_half_text z)
    (text_if (letter == 80) (page z) four (page_text z)
    (text_if (letter == 78 || letter == 70) (directive z) spec.bad_escape (directive_text z) tt))))

-- ---- the whole

raw_text : (n : ℕ) (z : List ℕ) → IsText (raw n z)
unfolding raw
raw_text n z = text_when (nat_le n (length z) && is_utf8 (take n z)) (Ok (n, take n z)) (Err fault.NotUtf8) (λ both. IsUtf8-from_is_utf8 (take n z) (second_holds (nat_le n (length z)) (is_utf8 (take n z)) both)) tt

front_text : (z : List ℕ) → IsText (front z)
unfolding front
front_text z =
    let b : ℕ = slice_index z 0 in
    let last : Front = if nat_lt b 128 then Ok (1, b ∷ []) else raw (1 + continuation_len b) z in
    let others : Front = if b == 92 then escape z else last in
    let doubled : Front = if slice_index z 1 == 39 then Ok (2, 39 ∷ []) else spec.bad_escape in
    text_if (b == 39) doubled others (text_if (slice_index z 1 == 39) (Ok (2, 39 ∷ [])) spec.bad_escape (ascii_text 39 refl) tt)
    (text_if (b == 92) (escape z) last (escape_text z)
    (text_when (nat_lt b 128) (Ok (1, b ∷ [])) (raw (1 + continuation_len b) z) (ascii_text b) (raw_text (1 + continuation_len b) z)))

from_text : (left : ℕ) (z : List ℕ) → IsText (spelled_from left z)
from_text zero [] = IsUtf8-nil
from_text (suc left) [] = IsUtf8-nil
from_text (suc left) (b ∷ z) = from_text left z
from_text zero (b ∷ z) = then_text (front (b ∷ z)) (λ n. spelled_from (n - 1) z) (front_text (b ∷ z)) (λ n. from_text (n - 1) z)

told_text : (p : Decoding (Unit {0})) (text : List ℕ) → IsText p → text_of p ≡ Ok text → IsUtf8 text
told_text (Ok p) text is e = let same : p.1 ≡ text = cc in subst IsUtf8 same is
told_text (Err why) text is e = cc

pub decoded_text : (bytes text : List ℕ) → decoded bytes ≡ Ok text → IsUtf8 text
unfolding decoded spelled
decoded_text bytes text e = told_text (spelled (filter (λ b. not (is_line_end b)) bytes)) text (from_text 0 (filter (λ b. not (is_line_end b)) bytes)) e
