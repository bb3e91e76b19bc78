-- Exponents that are near to 0.
use Rattle.std.specs.Prelude.{ℕ, ◌+◌, ◌<◌, ◌≤◌, List, take, drop, length, ◌≡◌}
use Rattle.rp_numbers.specs.Spelling.{sign_len, digits_len, exponent_len}
use Rattle.rp_numbers.specs.Whole.{value}

-- the digits of the exponent in front
abbrev pub power_digits : List ℕ → List ℕ
power_digits z = take (digits_len (drop (1 + sign_len (drop 1 z)) z)) (drop (1 + sign_len (drop 1 z)) z)

-- an exponent of this length stands in front, or none does; what it writes is at most 99
pub record IsNear (z : List ℕ) (len : ℕ) : Type 0 where
  pub same : len ≡ exponent_len z
  pub fits : len ≤ length z
  pub near : 0 < len → value (power_digits z) ≤ 99
