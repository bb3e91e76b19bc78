-- How a binary is spelled (ISO 10303-21:2002, BINARY): how many bits of its first digit are unused, and then a hexadecimal digit
-- for each group of four.
use Rattle.std.specs.Prelude.{ℕ, zero, suc, Bool, false, ◌+◌, ◌%◌, if◌then◌else◌, List, [], ◌∷◌, ◌++◌, length, slice_index, codes}

abbrev pub weighs : ℕ → Bool → ℕ
weighs weight bit = if bit then weight else 0

-- in upper case
abbrev pub digit : ℕ → ℕ
digit n = slice_index (codes "0123456789ABCDEF") n

abbrev pub digits : List Bool → List ℕ
digits (a ∷ b ∷ c ∷ d ∷ bits) = digit (weighs 8 a + weighs 4 b + weighs 2 c + weighs 1 d) ∷ digits bits
digits _ = []

-- what stands in front of so many bits that are no whole group
abbrev pub unused : ℕ → List Bool
unused zero = []
unused (suc zero) = false ∷ false ∷ false ∷ []
unused (suc (suc zero)) = false ∷ false ∷ []
unused (suc (suc (suc n))) = false ∷ []

abbrev pub unused_of : List Bool → List Bool
unused_of bits = unused (length bits % 4)

unfoldable pub binary : List Bool → List ℕ
binary bits = (48 + length (unused_of bits)) ∷ digits (unused_of bits ++ bits)
