-- What is written of the number of an integer is read as this number.
use Rattle.std.proofs.Common.{◌≡◌, ℕ, ℤ, pos, negsuc, zero, suc, ◌-◌, ◌^◌, ◌<◌, ◌≤◌, Bool, true, false, ◌&&◌, ◌==◌, nat_lt, nat_le, if◌then◌else◌, List, [], ◌∷◌, length, drop, Some, None, FitsSigned, refl, ap, subst, arith}
use mir.Syntax.{w64}
use Rattle.std.proofs.lemmas.Bool.Decides.{nat_tests}
use Rattle.std.proofs.lemmas.Int.{ints}
use Rattle.std.specs.Char.{is_ascii_digit}
use Rattle.std.specs.Fmt.{signed_decimal}
use Rattle.std.specs.List.{list_all}
use Rattle.std.specs.Prelude.{decimal, neg_ℤ}
use Rattle.p21_spelling.proofs.Names.{are_digits-decimal, value-decimal}
use Rattle.p21_spelling.proofs.Runs.{at_most, both_hold, first_holds, is_within, second_holds}
use Rattle.p21_spelling.specs.Tokens.{are_digits}
use Rattle.p21_values.specs.Tokens.{greatest, integer}
use Rattle.rp_numbers.specs.Spelling.{is_negative, sign_len, signed}
use Rattle.rp_numbers.specs.Whole.{value}

-- ---- what is read fits 64 bits

fits_by : (b : Bool) (n : ℕ) → n ≤ greatest b → FitsSigned w64 (signed b n)
fits_by false n small = omega (arith, ints)
fits_by true zero small = omega (arith, ints)
fits_by true (suc n) small = omega (arith, ints)

read_by : (b t : Bool) (n : ℕ) (z : ℤ) → (t ≡ true → n ≤ greatest b) → (if t then Some (signed b n) else None) ≡ Some z → FitsSigned w64 z
read_by b true n z small e = let same : signed b n ≡ z = cc in subst (FitsSigned w64) same (fits_by b n (small refl))
read_by b false n z small e = cc

pub integer_fits : (token : List ℕ) (z : ℤ) → integer token ≡ Some z → FitsSigned w64 z
unfolding integer
integer_fits token z e =
    let ds : List ℕ = drop (sign_len token) token in
    let b : Bool = is_negative token in
    read_by b (nat_lt 0 (length ds) && list_all is_ascii_digit ds && nat_le (value ds) (greatest b)) (value ds) z
    (λ all. is_within (value ds) (greatest b) (second_holds (nat_lt 0 (length ds) && list_all is_ascii_digit ds) (nat_le (value ds) (greatest b)) all)) e

-- ---- what is written is read

given_all : (t : Bool) (x z : ℤ) → t ≡ true → x ≡ z → (if t then Some x else None) ≡ Some z
given_all t x z all same = rw all (ap Some same)

digit_no_sign : (b : ℕ) → is_ascii_digit b ≡ true → ((b == 43) ≡ false) × ((b == 45) ≡ false)
digit_no_sign b e = (grind (arith, nat_tests), grind (arith, nat_tests))

-- digits without a sign
plain : (ds : List ℕ) (n : ℕ) → are_digits ds ≡ true → value ds ≡ n → n ≤ 2 ^ 63 - 1 → integer ds ≡ Some (pos n)
unfolding integer
plain [] n e is small = cc
plain (d ∷ ds) n e is small =
    let all = second_holds (nat_lt 0 (length (d ∷ ds))) (list_all is_ascii_digit (d ∷ ds)) e in
    let no = digit_no_sign d (first_holds (is_ascii_digit d) (list_all is_ascii_digit ds) all) in
    rw (no.0, no.1) (given_all (nat_lt 0 (length (d ∷ ds)) && list_all is_ascii_digit (d ∷ ds) && nat_le (value (d ∷ ds)) (2 ^ 63 - 1)) (pos (value (d ∷ ds))) (pos n)
    (both_hold (are_digits (d ∷ ds)) (nat_le (value (d ∷ ds)) (2 ^ 63 - 1)) e (at_most (value (d ∷ ds)) (2 ^ 63 - 1) (omega (arith, is)))) (ap pos is))

-- digits behind a `-`
negative : (ds : List ℕ) (n : ℕ) → are_digits ds ≡ true → value ds ≡ suc n → suc n ≤ 2 ^ 63 → integer (45 ∷ ds) ≡ Some (negsuc n)
unfolding integer
negative ds n e is small =
    given_all (nat_lt 0 (length ds) && list_all is_ascii_digit ds && nat_le (value ds) (2 ^ 63)) (neg_ℤ (pos (value ds))) (negsuc n)
    (both_hold (are_digits ds) (nat_le (value ds) (2 ^ 63)) e (at_most (value ds) (2 ^ 63) (omega (arith, is)))) (ap (λ n. neg_ℤ (pos n)) is)

written_again : (z : ℤ) → FitsSigned w64 z → integer (signed_decimal z) ≡ Some z
written_again (pos n) fits =
    let small : n < 2 ^ 63 = omega (arith, ints, fits) in
    plain (decimal n) n (are_digits-decimal n (omega arith)) (value-decimal n (omega arith)) (omega arith)
written_again (negsuc n) fits =
    let small : suc n ≤ 2 ^ 63 = omega (arith, ints, fits) in
    negative (decimal (suc n)) n (are_digits-decimal (suc n) (omega arith)) (value-decimal (suc n) (omega arith)) small

pub integer_again : (token : List ℕ) (z : ℤ) → integer token ≡ Some z → integer (signed_decimal z) ≡ Some z
integer_again token z e = written_again z (integer_fits token z e)
