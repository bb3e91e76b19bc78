-- Decimals, which are the values of REAL and NUMBER (ISO 10303-11:1994, 8.1.1 and 8.1.2), and their order.
use Rattle.std.specs.Prelude.{ℕ, ℤ, pos, negsuc, neg_ℤ, ◌+ℤ◌, ◌*ℤ◌, ◌≤ℤ◌, ◌<◌, ◌%◌, ◌^◌, ◌≡◌, unsigned_abs}
use Rattle.std.specs.Ordering.{int_cmp}
use Rattle.std.specs.declared.cmp.Ordering.{Ordering}

-- the coefficient times the power of ten with this exponent
pub record Decimal : Type 0 where
  pub coefficient : ℤ
  pub exponent : ℤ

abbrev pub zero_decimal : Decimal
zero_decimal = record { coefficient = pos 0; exponent = pos 0 }

-- at most 36 digits of which the last is no zero, and an exponent from -1000 to 1000; zero has the exponent 0
abbrev pub IsNormal : Decimal → Type 0
IsNormal x = (unsigned_abs x.coefficient < 10 ^ 36) × (negsuc 999 ≤ℤ x.exponent) × (x.exponent ≤ℤ pos 1000) × (unsigned_abs x.coefficient % 10 ≡ 0 → x ≡ zero_decimal)

-- the decimal times 10 ^ 1000, which is a whole number
abbrev pub places : Decimal → ℕ
places x = unsigned_abs (x.exponent +ℤ pos 1000)

abbrev pub scaled : Decimal → ℤ
scaled x = x.coefficient *ℤ pos (10 ^ places x)

-- the whole number times 10 ^ 1000
unfoldable pub scaled_whole : ℤ → ℤ
scaled_whole n = n *ℤ pos (10 ^ 1000)

unfoldable pub compare : Decimal → Decimal → Ordering
compare x y = int_cmp (scaled x) (scaled y)

abbrev pub negated : Decimal → Decimal
negated x = record x { coefficient = neg_ℤ x.coefficient }
