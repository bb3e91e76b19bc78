-- Whole numbers as digits write them (ISO 10303-11:1994, 7.5.2).
use Rattle.std.specs.Prelude.{ℕ, ◌+◌, ◌-◌, ◌*◌, ◌^◌, nat_lt, nat_le, ◌&&◌, if◌then◌else◌, List, [], ◌∷◌, length, Option, Some, None}
use Rattle.std.specs.List.{list_all}
use Rattle.std.specs.Char.{is_ascii_digit}

-- the number that the digits write after those that write n
abbrev pub value_after : ℕ → List ℕ → ℕ
value_after n [] = n
value_after n (digit ∷ digits) = value_after (10 * n + (digit - 48)) digits

abbrev pub value : List ℕ → ℕ
value digits = value_after 0 digits

-- one or more digits, of a value that 64 bits with a sign hold
unfoldable pub whole_number : List ℕ → Option ℕ
whole_number digits =
    if nat_lt 0 (length digits) && list_all is_ascii_digit digits && nat_le (value digits) (2 ^ 63 - 1)
    then Some (value digits)
    else None
