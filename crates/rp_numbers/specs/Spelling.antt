-- The decimal that a real literal spells (ISO 10303-11:1994, 7.5.3), with a sign or not.
use Rattle.std.specs.Prelude.{ℕ, ℤ, pos, negsuc, neg_ℤ, ◌+ℤ◌, ◌-ℤ◌, ◌+◌, ◌-◌, ◌^◌, Bool, true, false, ◌&&◌, ◌||◌, ◌==◌, nat_lt, nat_le, int_le, if◌then◌else◌, List, [], ◌∷◌, ◌++◌, length, take, drop, slice_index, Option, Some, None, Result, Ok, Err, option_map}
use Rattle.std.specs.List.{prefix_len, suffix_len, list_all}
use Rattle.std.specs.Char.{is_ascii_digit}
use Rattle.rp_numbers.specs.declared.decimal.DecimalFault.{DecimalFault}
use Rattle.rp_numbers.specs.declared.decimal.DecimalFault.TheVariants.{NotReal, TooManyDigits, TooWide}
use Rattle.rp_numbers.specs.Decimals.{Decimal, zero_decimal}
use Rattle.rp_numbers.specs.Whole.{value}

-- ---- the parts of a spelling

abbrev pub sign_len : List ℕ → ℕ
sign_len z = if slice_index z 0 == 43 || slice_index z 0 == 45 then 1 else 0

abbrev pub is_negative : List ℕ → Bool
is_negative z = slice_index z 0 == 45

abbrev pub digits_len : List ℕ → ℕ
digits_len z = prefix_len is_ascii_digit z

-- of what stands in front: `E`, a sign and digits, or nothing where no digits are there
abbrev pub exponent_len : List ℕ → ℕ
exponent_len z =
    let sign = sign_len (drop 1 z) in
    let digits = digits_len (drop (1 + sign) z) in
    if (slice_index z 0 == 69 || slice_index z 0 == 101) && nat_lt 0 digits then 1 + sign + digits else 0

abbrev pub signed : Bool → ℕ → ℤ
signed true n = neg_ℤ (pos n)
signed false n = pos n

-- digits, a point and digits; and the sign and the digits of the exponent, if there is one
pub record Real : Type 0 where
  pub is_negative : Bool
  pub whole : List ℕ
  pub fraction : List ℕ
  pub power : List ℕ

-- nothing, or `E`, a sign and digits
abbrev pub power : List ℕ → Option (List ℕ)
power [] = Some []
power (b ∷ z) =
    let digits = drop (sign_len z) z in
    if (b == 69 || b == 101) && nat_lt 0 (length digits) && list_all is_ascii_digit digits then Some z else None

unfoldable pub real : List ℕ → Option Real
real z =
    let unsigned = drop (sign_len z) z in
    let point = digits_len unsigned in
    let behind = drop (point + 1) unsigned in
    let end = digits_len behind in
    if nat_lt 0 point && slice_index unsigned point == 46
    then option_map
    (λ p. record { is_negative = is_negative z; whole = take point unsigned; fraction = take end behind; power = p })
    (power (drop end behind))
    else None

-- ---- their value

abbrev pub digits : Real → List ℕ
digits r = r.whole ++ r.fraction

abbrev pub is_zero : ℕ → Bool
is_zero digit = digit == 48

-- how many zeros end the digits
abbrev pub zeros : Real → ℕ
zeros r = suffix_len is_zero (digits r)

-- the number that the digits before those zeros write
unfoldable pub coefficient : Real → ℕ
coefficient r = value (take (length (digits r) - zeros r) (digits r))

abbrev pub power_value : List ℕ → ℤ
power_value p = signed (is_negative p) (value (drop (sign_len p) p))

unfoldable pub exponent : Real → ℤ
exponent r = power_value r.power -ℤ pos (length r.fraction) +ℤ pos (zeros r)

abbrev pub fits : ℤ → Bool
fits e = int_le (negsuc 999) e && int_le e (pos 1000)

unfoldable pub decimal : Real → Result Decimal DecimalFault
decimal r =
    if nat_le (10 ^ 36) (coefficient r) then Err TooManyDigits
    else if coefficient r == 0 then Ok zero_decimal
    else if fits (exponent r) then Ok (record { coefficient = signed r.is_negative (coefficient r); exponent = exponent r })
    else Err TooWide

abbrev pub decimal_of : Option Real → Result Decimal DecimalFault
decimal_of None = Err NotReal
decimal_of (Some r) = decimal r

unfoldable pub parse : List ℕ → Result Decimal DecimalFault
parse z = decimal_of (real z)
