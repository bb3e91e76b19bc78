-- Hexadecimal digits, written in upper case and read in either.
use Rattle.std.specs.Prelude.{ℕ, ◌+◌, ◌-◌, ◌*◌, ◌/◌, ◌%◌, Bool, ◌&&◌, ◌||◌, nat_le, nat_lt, if◌then◌else◌, List, [], ◌∷◌, ◌++◌}

abbrev pub digit : ℕ → ℕ
digit n = if nat_lt n 10 then 48 + n else 55 + n

abbrev pub is_digit : ℕ → Bool
is_digit b = (nat_le 48 b && nat_le b 57) || (nat_le 65 b && nat_le b 70) || (nat_le 97 b && nat_le b 102)

abbrev pub digit_value : ℕ → ℕ
digit_value b = if nat_le b 57 then b - 48 else if nat_le b 70 then b - 55 else b - 87

-- the last four digits of a number
unfoldable pub four : ℕ → List ℕ
four n = digit (n / 16 / 16 / 16 % 16) ∷ digit (n / 16 / 16 % 16) ∷ digit (n / 16 % 16) ∷ digit (n % 16) ∷ []

abbrev pub eight : ℕ → List ℕ
eight n = four (n / 65536) ++ four (n % 65536)

abbrev pub are_four : ℕ → ℕ → ℕ → ℕ → Bool
are_four a b c d = is_digit a && is_digit b && is_digit c && is_digit d

abbrev pub value_of_four : ℕ → ℕ → ℕ → ℕ → ℕ
value_of_four a b c d = ((digit_value a * 16 + digit_value b) * 16 + digit_value c) * 16 + digit_value d

-- `\X0\`
abbrev pub end : List ℕ
end = 92 ∷ 88 ∷ 48 ∷ 92 ∷ []
