-- What is written of texts, decimals and whole numbers are such tokens as are read.
use Rattle.std.proofs.Common.{◌≡◌, ℕ, ℤ, pos, negsuc, suc, ◌-◌, ◌^◌, ◌<◌, ◌≤◌, true, false, ◌==◌, nat_le, nat_lt, List, [], ◌∷◌, length, FitsSigned, ap, arith}
use mir.Syntax.{w64}
use Rattle.std.proofs.lemmas.Bool.Decides.{nat_tests}
use Rattle.std.proofs.lemmas.Int.{ints}
use Rattle.std.specs.Char.{is_ascii_digit}
use Rattle.std.specs.Fmt.{signed_decimal}
use Rattle.std.specs.List.{list_all}
use Rattle.std.specs.Option.{is_none}
use Rattle.std.specs.Prelude.{IsUtf8, decimal, is_ok}
use Rattle.p21_escapes.specs.Decoding.{fault, fault_of}
use Rattle.p21_escapes.specs.Encoding.{encoded, is_paired}
use Rattle.p21_escapes.proofs.Escapes.{decoded-encoded, encoded-paired}
use Rattle.rp_numbers.specs.Whole.{value}
use Rattle.p21_lexemes.specs.Lexical.{is_sign}
use Rattle.rp_numbers.specs.Decimals.{Decimal, IsNormal}
use Rattle.rp_numbers.specs.Written.{written}
use Rattle.rp_numbers.proofs.Rereading.{read_again}
use Rattle.p21_spelling.specs.Tokens.{are_digits, is_integer, is_real, is_string}
use Rattle.p21_spelling.proofs.Runs.{first_holds, second_holds, both_hold, at_most}
use Rattle.p21_spelling.proofs.Names.{value-decimal, are_digits-decimal}

pub written_text : (text : List ℕ) → IsUtf8 text → is_string (encoded text) ≡ true
unfolding fault
written_text text utf8 = both_hold (is_paired false (encoded text)) (is_none (fault (encoded text))) (encoded-paired text) (ap (λ r. is_none (fault_of r)) (decoded-encoded text utf8))

pub written_real : (x : Decimal) → IsNormal x → is_real (written x) ≡ true
written_real x normal = ap is_ok (read_again x normal)

digit_is_no_sign : (b : ℕ) → is_ascii_digit b ≡ true → is_sign b ≡ false
digit_is_no_sign b e = grind (arith, nat_tests)

digit_is_no_minus : (b : ℕ) → is_ascii_digit b ≡ true → (b == 45) ≡ false
digit_is_no_minus b e = grind (arith, nat_tests)

-- digits without a sign
plain : (ds : List ℕ) → are_digits ds ≡ true → value ds ≤ 2 ^ 63 - 1 → is_integer ds ≡ true
plain [] e small = cc
plain (d ∷ ds) e small =
    let all = second_holds (nat_lt 0 (length (d ∷ ds))) (list_all is_ascii_digit (d ∷ ds)) e in
    let digit = first_holds (is_ascii_digit d) (list_all is_ascii_digit ds) all in
    rw (digit_is_no_sign d digit, digit_is_no_minus d digit) (both_hold (are_digits (d ∷ ds)) (nat_le (value (d ∷ ds)) (2 ^ 63 - 1)) e (at_most (value (d ∷ ds)) (2 ^ 63 - 1) small))

pub written_integer : (z : ℤ) → FitsSigned w64 z → is_integer (signed_decimal z) ≡ true
written_integer (pos n) fits =
    let small : n < 2 ^ 63 = omega (arith, ints, fits) in
    let is = value-decimal n (omega arith) in
    plain (decimal n) (are_digits-decimal n (omega arith)) (omega (arith, is))
written_integer (negsuc n) fits =
    let small : suc n ≤ 2 ^ 63 = omega (arith, ints, fits) in
    let is = value-decimal (suc n) (omega arith) in
    both_hold (are_digits (decimal (suc n))) (nat_le (value (decimal (suc n))) (2 ^ 63)) (are_digits-decimal (suc n) (omega arith)) (at_most (value (decimal (suc n))) (2 ^ 63) (omega (arith, is)))
