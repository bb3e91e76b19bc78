-- The bytes of a string that are no line ends.
use Rattle.std.specs.Prelude.{ℕ, ◌≡◌, not, false, List, [], ◌∷◌, filter, slice_index}
use Rattle.p21_escapes.specs.Decoding.{is_line_end}

unfoldable pub kept : List ℕ → List ℕ
kept bytes = filter (λ b. not (is_line_end b)) bytes

abbrev pub BeginsKept : List ℕ → Type 0
BeginsKept [] = Unit {0}
BeginsKept (b ∷ bytes) = is_line_end b ≡ false

-- the first four, and 0 for each that isn't there
abbrev pub four : List ℕ → List ℕ
four z = slice_index z 0 ∷ slice_index z 1 ∷ slice_index z 2 ∷ slice_index z 3 ∷ []
