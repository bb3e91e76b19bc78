-- Rows whose items stand in one list, in the order in which they came: each with how many stand up to the one before it in its row.
use Rattle.std.specs.Prelude.{◌≤◌, ℕ, zero, suc, List, [], ◌∷◌, ◌++◌, map, slice_get, IfSome}
use Rattle.std.specs.Option.{option_map_or}

module _ {A : Type 0} where
  -- the row that ends with the last of so many items, in so many steps
  unfoldable pub chain : List (A × ℕ) → ℕ → ℕ → List A
  chain links zero end = []
  chain links (suc steps) zero = []
  chain links (suc steps) (suc at) = option_map_or (λ x. chain links steps x.1 ++ x.0 ∷ []) (slice_get links at) []

  abbrev pub row_to : List (A × ℕ) → ℕ → List A
  row_to links end = chain links end end

  -- the rows with these ends
  abbrev pub rows : List (A × ℕ) → List ℕ → List (List A)
  rows links ends = map (row_to links) ends

  -- no item says of itself or of a later one that it stands before it
  abbrev pub AreLinked : List (A × ℕ) → Type 0
  AreLinked links = (k : ℕ) → IfSome (slice_get links k) (λ x. x.1 ≤ k)

-- the ends of rows of so many items
abbrev pub AreEnds : ℕ → List ℕ → Type 0
AreEnds count ends = (k : ℕ) → IfSome (slice_get ends k) (λ end. end ≤ count)
