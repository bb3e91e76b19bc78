-- How an exchange file writes a decimal (ISO 10303-21:2002, REAL): the coefficient, a point, and the exponent unless it is 0.
use Rattle.std.specs.Prelude.{ℕ, ℤ, pos, zero, List, [], ◌∷◌, ◌++◌}
use Rattle.std.specs.Fmt.{signed_decimal}
use Rattle.rp_numbers.specs.Decimals.{Decimal}

-- `E` and the exponent, with its sign if it is negative
abbrev pub power : ℤ → List ℕ
power (pos zero) = []
power e = 69 ∷ signed_decimal e

unfoldable pub written : Decimal → List ℕ
written x = signed_decimal x.coefficient ++ 46 ∷ power x.exponent
