-- What is written of an exponent.
use Rattle.std.proofs.Common.{◌≡◌, ◌≢◌, ℕ, zero, suc, ℤ, pos, negsuc, List, [], ◌∷◌, refl, ap}
use Rattle.std.specs.Fmt.{signed_decimal}
use Rattle.rp_numbers.specs.Written.{power}

pub no_power : (e : ℤ) → e ≡ pos 0 → power e ≡ []
no_power e is = ap power is

pub some_power : (e : ℤ) → e ≢ pos 0 → power e ≡ 69 ∷ signed_decimal e
some_power (pos zero) some = absurd (some refl)
some_power (pos (suc n)) some = refl
some_power (negsuc n) some = refl

pub ruleset powers = (no_power, some_power)
