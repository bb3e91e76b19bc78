-- Limits of steps, as words of a command line name them.
use Rattle.std.specs.Prelude.{ℕ, ◌-◌, ◌^◌, nat_lt, nat_le, ◌&&◌, if◌then◌else◌, List, [], ◌∷◌, length, Option, Some, None, option_map}
use Rattle.std.specs.List.{list_all}
use Rattle.std.specs.Char.{is_ascii_digit}
use Rattle.std.specs.Option.{option_and_then}
use Rattle.rp_numbers.specs.Whole.{value}

-- one or more digits, of a number that 64 bits hold
unfoldable pub limit_of : List ℕ → Option ℕ
limit_of word =
    if nat_lt 0 (length word) && list_all is_ascii_digit word && nat_le (value word) (2 ^ 64 - 1)
    then Some (value word)
    else None

-- those of some words, where each names one
abbrev pub limits_of : List (List ℕ) → Option (List ℕ)
limits_of [] = Some []
limits_of (word ∷ words) = option_and_then (λ limit. option_map (λ limits. limit ∷ limits) (limits_of words)) (limit_of word)
