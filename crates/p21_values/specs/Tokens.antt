-- The values of tokens (ISO 10303-21:2002, 7.3).
use Rattle.std.specs.Prelude.{ℕ, ℤ, ◌-◌, ◌^◌, ◌/◌, ◌%◌, Bool, true, false, ◌&&◌, ◌==◌, nat_lt, nat_le, if◌then◌else◌, List, [], ◌∷◌, length, drop, Option, Some, None, Result, Ok, Err}
use Rattle.std.specs.List.{flat_map, list_all}
use Rattle.std.specs.Char.{is_ascii_digit}
use Rattle.rp_numbers.specs.declared.Logical.{Logical}
use Rattle.rp_numbers.specs.declared.Logical.TheVariants as l
use Rattle.rp_numbers.specs.Spelling.{sign_len, is_negative, signed}
use Rattle.rp_numbers.specs.Whole.{value}
use Rattle.p21_escapes.specs.Digits.{digit_value}

abbrev pub ok : {A E : Type 0} → Result A E → Option A
ok (Ok a) = Some a
ok (Err e) = None

-- the greatest magnitude of a value of INTEGER with this sign
abbrev pub greatest : Bool → ℕ
greatest true = 2 ^ 63
greatest false = 2 ^ 63 - 1

-- the value of an integer, with a sign or not
unfoldable pub integer : List ℕ → Option ℤ
integer token =
    let digits = drop (sign_len token) token in
    if nat_lt 0 (length digits) && list_all is_ascii_digit digits && nat_le (value digits) (greatest (is_negative token))
    then Some (signed (is_negative token) (value digits))
    else None

-- ---- binaries

-- the four bits of a hexadecimal digit, the highest first
abbrev pub bits_of_digit : ℕ → List Bool
bits_of_digit digit =
    let n = digit_value digit in
    (n / 8 % 2 == 1) ∷ (n / 4 % 2 == 1) ∷ (n / 2 % 2 == 1) ∷ (n % 2 == 1) ∷ []

-- the first digit says how many of the bits that follow are unused; these are the leading ones
abbrev pub bits : List ℕ → List Bool
bits [] = []
bits (unused ∷ digits) = drop (unused - 48) (flat_map bits_of_digit digits)

-- ---- T, F and U

abbrev pub by_letter : ℕ → Option Logical
by_letter letter = if letter == 84 then Some l.True else if letter == 70 then Some l.False else if letter == 85 then Some l.Unknown else None

abbrev pub logical : List ℕ → Option Logical
logical (letter ∷ []) = by_letter letter
logical _ = None

-- without U
abbrev pub boolean : List ℕ → Option Logical
boolean (letter ∷ []) = if letter == 85 then None else by_letter letter
boolean _ = None
