-- What is read of a real is a decimal in its normal form.
use Rattle.std.proofs.Common.{◌≡◌, ℕ, ℤ, pos, negsuc, zero, suc, ◌+◌, ◌^◌, ◌%◌, ◌<◌, ◌≤ℤ◌, Bool, true, false, ◌&&◌, ◌==◌, nat_lt, nat_le, if◌then◌else◌, List, take, drop, Option, Some, None, option_map, Ok, Err, refl, sym, ◌∙◌, ap, subst, arith}
use Rattle.std.proofs.lemmas.Bool.Decides.{nat_tests}
use Rattle.std.proofs.lemmas.Int.{ints}
use Rattle.std.specs.Char.{is_ascii_digit}
use Rattle.std.specs.List.{list_all}
use Rattle.std.specs.Prelude.{int_le, slice_index, unsigned_abs}
use Rattle.p21_spelling.proofs.Runs.{first_holds, second_holds}
use Rattle.rp_numbers.proofs.Digits.{all_in_front}
use Rattle.rp_numbers.proofs.Zeros.{coefficient-last}
use Rattle.rp_numbers.specs.Decimals.{Decimal, IsNormal, zero_decimal}
use Rattle.rp_numbers.specs.Spelling.{Real, coefficient, decimal, decimal_of, digits_len, exponent, fits, is_negative, parse, power, real, sign_len, signed}
use Rattle.rp_numbers.specs.declared.decimal.DecimalFault.TheVariants.{TooManyDigits, TooWide}
use Rattle.p21_laws.proofs.Names.{given}

-- ---- its digits are digits

abbrev HasDigits : Real → Type 0
HasDigits r = (list_all is_ascii_digit r.whole ≡ true) × (list_all is_ascii_digit r.fraction ≡ true)

found_if : (t : Bool) (o : Option Real) (r : Real) → (if t then o else None) ≡ Some r → o ≡ Some r
found_if true o r e = e
found_if false o r e = cc

real_digits : (z : List ℕ) (r : Real) → real z ≡ Some r → HasDigits r
unfolding real
real_digits z r e =
    let unsigned : List ℕ = drop (sign_len z) z in
    let point : ℕ = digits_len unsigned in
    let behind : List ℕ = drop (point + 1) unsigned in
    let end : ℕ = digits_len behind in
    let make : List ℕ → Real = λ p. record { is_negative = is_negative z; whole = take point unsigned; fraction = take end behind; power = p } in
    let found = given make (power (drop end behind)) r (found_if (nat_lt 0 point && slice_index unsigned point == 46) (option_map make (power (drop end behind))) r e) in
    subst HasDigits found.1.1 (all_in_front is_ascii_digit unsigned, all_in_front is_ascii_digit behind)

-- ---- the decimal of a real

zero_normal : IsNormal zero_decimal
zero_normal = (omega (arith, ints), omega (arith, ints), omega (arith, ints), λ e. refl)

abs_signed : (b : Bool) (n : ℕ) → unsigned_abs (signed b n) ≡ n
abs_signed false n = refl
abs_signed true zero = refl
abs_signed true (suc n) = refl

bounds : (e : ℤ) → fits e ≡ true → (negsuc 999 ≤ℤ e) × (e ≤ℤ pos 1000)
bounds e both = let low = first_holds (int_le (negsuc 999) e) (int_le e (pos 1000)) both in let high = second_holds (int_le (negsuc 999) e) (int_le e (pos 1000)) both in (grind (arith, ints), grind (arith, ints))

no_zero : (n : ℕ) → (n == 0) ≡ false → n ≡ 0 → ⊥
no_zero n other is = grind (arith, nat_tests)

too_many : (n : ℕ) → nat_le (10 ^ 36) n ≡ false → n < 10 ^ 36
too_many n few = grind (arith, nat_tests)

module _ (r : Real) (has : HasDigits r) where
  by_tests : (many none within : Bool) → nat_le (10 ^ 36) (coefficient r) ≡ many → (coefficient r == 0) ≡ none → fits (exponent r) ≡ within → (d : Decimal)
      → (if many then Err TooManyDigits else if none then Ok zero_decimal else if within then Ok (record { coefficient = signed r.is_negative (coefficient r); exponent = exponent r }) else Err TooWide) ≡ Ok d → IsNormal d
  by_tests true none within is_many is_none is_within d e = cc
  by_tests false true within is_many is_none is_within d e = let same : zero_decimal ≡ d = cc in subst IsNormal same zero_normal
  by_tests false false false is_many is_none is_within d e = cc
  by_tests false false true is_many is_none is_within d e =
      let x : Decimal = record { coefficient = signed r.is_negative (coefficient r); exponent = exponent r } in
      let same : x ≡ d = cc in
      let abs = abs_signed r.is_negative (coefficient r) in
      let few = too_many (coefficient r) is_many in
      let near = bounds (exponent r) is_within in
      let last : unsigned_abs (signed r.is_negative (coefficient r)) % 10 ≡ 0 → x ≡ zero_decimal =
      λ ends. absurd (no_zero (coefficient r) is_none (coefficient-last r has.0 has.1 (ap (λ n. n % 10) (sym abs) ∙ ends))) in
      subst IsNormal same (subst (λ n. n < 10 ^ 36) (sym abs) few, near.0, near.1, last)

  decimal_normal : (d : Decimal) → decimal r ≡ Ok d → IsNormal d
  unfolding decimal
  decimal_normal d e = by_tests (nat_le (10 ^ 36) (coefficient r)) (coefficient r == 0) (fits (exponent r)) refl refl refl d e

parsed_normal : (o : Option Real) (d : Decimal) → ((r : Real) → o ≡ Some r → HasDigits r) → decimal_of o ≡ Ok d → IsNormal d
parsed_normal None d has e = cc
parsed_normal (Some r) d has e = decimal_normal r (has r refl) d e

pub parse_normal : (token : List ℕ) (d : Decimal) → parse token ≡ Ok d → IsNormal d
unfolding parse
parse_normal token d e = parsed_normal (real token) d (real_digits token) e
