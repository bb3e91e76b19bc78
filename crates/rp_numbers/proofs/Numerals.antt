-- The digits that a number is written with.
use Rattle.std.proofs.Common.{◌≡◌, ℕ, ◌+◌, ◌/◌, ◌%◌, ◌^◌, ◌<◌, ◌≤◌, [], ◌∷◌, ◌++◌, length, ap, sym, ◌∙◌, refl, arith, length-append, decimal, ℤ, pos, negsuc, zero, suc, ◌<ℤ◌, ◌≤ℤ◌, ◌≢◌}
use Rattle.std.specs.Prelude.{unsigned_abs}
use Rattle.std.specs.Fmt.{signed_decimal}
use Rattle.std.proofs.lemmas.Int.{ints}
use Rattle.rp_numbers.specs.Written.{power}
use Rattle.std.proofs.lemmas.Fmt.{decimal_digit, decimal_step_wide}

low : (n : ℕ) → n < 10 → n % 10 ≡ n
low n few = omega arith

pub one : (n : ℕ) → n < 10 → decimal n ≡ (48 + n % 10) ∷ []
one n few = decimal_digit n few ∙ ap (λ d. (48 + d) ∷ []) (sym (low n few))

wide : (n : ℕ) → n < 2 ^ 128 → n < 10 ^ 64
wide n small = omega arith

pub more : (n : ℕ) → 10 ≤ n → n < 2 ^ 128 → decimal n ≡ decimal (n / 10) ++ ((48 + n % 10) ∷ [])
more n large small = decimal_step_wide n large (wide n small)

pub length-one : (n : ℕ) → n < 10 → length (decimal n) ≡ 1
length-one n few = ap length (one n few)

pub length-more : (n : ℕ) → 10 ≤ n → n < 2 ^ 128 → length (decimal n) ≡ length (decimal (n / 10)) + 1
length-more n large small = ap length (more n large small) ∙ length-append (decimal (n / 10)) ((48 + n % 10) ∷ [])

-- ---- with a sign

pub signed-negative : (z : ℤ) → z <ℤ pos 0 → signed_decimal z ≡ 45 ∷ decimal (unsigned_abs z)
signed-negative (negsuc n) below = refl
signed-negative (pos n) below = absurd (omega (arith, ints))

pub signed-whole : (z : ℤ) → pos 0 ≤ℤ z → signed_decimal z ≡ decimal (unsigned_abs z)
signed-whole (pos n) whole = refl
signed-whole (negsuc n) whole = absurd (omega (arith, ints))

pub ruleset signs = (signed-negative, signed-whole)

pub power-zero : (e : ℤ) → e ≡ pos 0 → power e ≡ []
power-zero e none = ap power none

pub power-some : (e : ℤ) → e ≢ pos 0 → power e ≡ 69 ∷ signed_decimal e
power-some (pos zero) some = absurd (some refl)
power-some (pos (suc n)) some = refl
power-some (negsuc n) some = refl

pub ruleset powers = (power-zero, power-some)
