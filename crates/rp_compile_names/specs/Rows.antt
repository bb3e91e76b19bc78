-- Things put into rows by a number.
use Rattle.std.specs.Prelude.{ℕ, ◌==◌, List, [], ◌∷◌, ◌++◌, map, filter, slice_set, slice_index_or}

abbrev pub row : {A : Type 0} → List (List A) → ℕ → List A
row rows number = slice_index_or rows number []

-- one more behind those of a number, if that has a row
abbrev pub put : {A : Type 0} → List (List A) → ℕ → A → List (List A)
put rows number x = slice_set rows number (row rows number ++ x ∷ [])

-- one after the other
abbrev pub put_all : {A : Type 0} → List (List A) → List (ℕ × A) → List (List A)
put_all rows [] = rows
put_all rows (p ∷ others) = put_all (put rows p.0 p.1) others

-- those of a number
abbrev pub of_number : {A : Type 0} → ℕ → List (ℕ × A) → List A
of_number number pairs = map (λ p. p.1) (filter (λ p. p.0 == number) pairs)
