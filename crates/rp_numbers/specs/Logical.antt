-- The operators of LOGICAL (ISO 10303-11:1994, 12.4), by its order FALSE < UNKNOWN < TRUE.
use Rattle.std.specs.Prelude.{ℕ, Bool, true, false, nat_le, if◌then◌else◌}
use Rattle.rp_numbers.specs.declared.Logical.{Logical}
use Rattle.rp_numbers.specs.declared.Logical.TheVariants.{False, Unknown, True}

abbrev pub rank : Logical → ℕ
rank False = 0
rank Unknown = 1
rank True = 2

-- AND is the least of the two
abbrev pub conjunction : Logical → Logical → Logical
conjunction x y = if nat_le (rank x) (rank y) then x else y

-- OR is the greatest of the two
abbrev pub disjunction : Logical → Logical → Logical
disjunction x y = if nat_le (rank x) (rank y) then y else x

-- NOT turns the order round
abbrev pub negation : Logical → Logical
negation False = True
negation Unknown = Unknown
negation True = False

-- XOR is one of the two, and not both
abbrev pub exclusive_disjunction : Logical → Logical → Logical
exclusive_disjunction x y = conjunction (disjunction x y) (negation (conjunction x y))

-- the value of a test
abbrev pub of_test : Bool → Logical
of_test true = True
of_test false = False

abbrev pub is_true : Logical → Bool
is_true True = true
is_true Unknown = false
is_true False = false
