-- What spells a number is ASCII.
use Rattle.std.proofs.Common.{◌≡◌, ◌<◌, ℕ, zero, suc, ◌+◌, Bool, true, false, ◌&&◌, ◌||◌, ◌==◌, nat_lt, if◌then◌else◌, List, [], ◌∷◌, length, take, drop, Option, Some, None, option_map, refl, ◌∙◌, ap, arith}
use Rattle.std.proofs.lemmas.Bool.Decides.{nat_tests}
use Rattle.std.proofs.lemmas.List.{drop-drop}
use Rattle.std.proofs.lemmas.Str.Ascii.{IsAscii-cons, IsAscii-nil}
use Rattle.std.specs.Char.{is_ascii_digit}
use Rattle.std.specs.List.{list_all}
use Rattle.std.specs.Prelude.{is_ok, slice_index}
use Rattle.std.specs.Str.{IsAscii}
use Rattle.rp_numbers.specs.Spelling.{Real, decimal_of, digits_len, is_negative, parse, power, real, sign_len}
use Rattle.p21_spelling.proofs.Runs.{first_holds, second_holds}
use Rattle.p21_spelling.proofs.Ascii.{all_ascii}
use Rattle.p21_ascii.proofs.Bytes.{parts_ascii, run_ascii}

digit_low : (b : ℕ) → is_ascii_digit b ≡ true → b < 128
digit_low b is = grind (arith, nat_tests)

sign_low : (b : ℕ) → (b == 43 || b == 45) ≡ true → b < 128
sign_low b is = grind (arith, nat_tests)

exponent_low : (b : ℕ) → (b == 69 || b == 101) ≡ true → b < 128
exponent_low b is = grind (arith, nat_tests)

point_low : (b : ℕ) → (b == 46) ≡ true → b < 128
point_low b is = grind (arith, nat_tests)

-- what follows a sign, or begins where there is none
signed_ascii : (z : List ℕ) → IsAscii (drop (sign_len z) z) → IsAscii z
signed_ascii [] behind = IsAscii-nil
signed_ascii (b ∷ z) behind = by (b == 43 || b == 45) refl behind
  where
    by : (t : Bool) → (b == 43 || b == 45) ≡ t → IsAscii (drop (if t then 1 else 0) (b ∷ z)) → IsAscii (b ∷ z)
    by true is behind = IsAscii-cons b z (sign_low b is) behind
    by false is behind = behind

pub signed_digits_ascii : (z : List ℕ) → list_all is_ascii_digit (drop (sign_len z) z) ≡ true → IsAscii z
signed_digits_ascii z all = signed_ascii z (all_ascii is_ascii_digit digit_low (drop (sign_len z) z) all)

-- ---- reals

-- nothing, or `E`, a sign and digits
power_ascii : (z p : List ℕ) → power z ≡ Some p → IsAscii z
power_ascii [] p is = IsAscii-nil
power_ascii (b ∷ z) p is = by (letter && some && all) refl is
  where
    digits : List ℕ
    digits = drop (sign_len z) z

    letter : Bool
    letter = b == 69 || b == 101

    some : Bool
    some = nat_lt 0 (length digits)

    all : Bool
    all = list_all is_ascii_digit digits

    by : (t : Bool) → (letter && some && all) ≡ t → (if t then Some z else None) ≡ Some p → IsAscii (b ∷ z)
    by true holds is = IsAscii-cons b z (exponent_low b (first_holds letter some (first_holds (letter && some) all holds))) (signed_digits_ascii z (second_holds (letter && some) all holds))
    by false fails is = cc

-- digits, then an exponent
fraction_ascii : (z p : List ℕ) → power (drop (digits_len z) z) ≡ Some p → IsAscii z
fraction_ascii z p is = parts_ascii (digits_len z) z (run_ascii is_ascii_digit digit_low z) (power_ascii (drop (digits_len z) z) p is)

-- a point, then such
point_ascii : (z p : List ℕ) → (slice_index z 0 == 46) ≡ true → power (drop (digits_len (drop 1 z)) (drop 1 z)) ≡ Some p → IsAscii z
point_ascii [] p point is = IsAscii-nil
point_ascii (b ∷ z) p point is = IsAscii-cons b z (point_low b point) (fraction_ascii z p is)

at_front : (n : ℕ) (z : List ℕ) → slice_index (drop n z) 0 ≡ slice_index z n
at_front zero z = refl
at_front (suc n) [] = refl
at_front (suc n) (b ∷ z) = at_front n z

-- digits, then such
unsigned_ascii : (z p : List ℕ) → (slice_index z (digits_len z) == 46) ≡ true → power (drop (digits_len (drop (digits_len z + 1) z)) (drop (digits_len z + 1) z)) ≡ Some p → IsAscii z
unsigned_ascii z p point is =
    let n : ℕ = digits_len z in
    parts_ascii n z (run_ascii is_ascii_digit digit_low z)
    (point_ascii (drop n z) p (ap (λ b. b == 46) (at_front n z) ∙ point) (ap (λ behind. power (drop (digits_len behind) behind)) (drop-drop 1 n z) ∙ is))

found : (f : List ℕ → Real) (o : Option (List ℕ)) (r : Real) → option_map f o ≡ Some r → (p : List ℕ) × (o ≡ Some p)
found f (Some p) r is = (p, refl)
found f None r is = cc

real_found : (z : List ℕ) (r : Real) → real z ≡ Some r → IsAscii z
unfolding real
real_found z r is = by (nat_lt 0 point && slice_index unsigned point == 46) refl is
  where
    unsigned : List ℕ
    unsigned = drop (sign_len z) z

    point : ℕ
    point = digits_len unsigned

    behind : List ℕ
    behind = drop (point + 1) unsigned

    parts : List ℕ → Real
    parts p = record { is_negative = is_negative z; whole = take point unsigned; fraction = take (digits_len behind) behind; power = p }

    by : (t : Bool) → (nat_lt 0 point && slice_index unsigned point == 46) ≡ t → (if t then option_map parts (power (drop (digits_len behind) behind)) else None) ≡ Some r → IsAscii z
    by true there is =
        let last = found parts (power (drop (digits_len behind) behind)) r is in
        signed_ascii z (unsigned_ascii unsigned last.0 (second_holds (nat_lt 0 point) (slice_index unsigned point == 46) there) last.1)
    by false there is = cc

-- what spells a decimal
pub real_ascii : (z : List ℕ) → is_ok (parse z) ≡ true → IsAscii z
unfolding parse
real_ascii z is = by (real z) refl is
  where
    by : (o : Option Real) → real z ≡ o → is_ok (decimal_of o) ≡ true → IsAscii z
    by (Some r) e is = real_found z r e
    by None e is = cc
