-- Where a key stands in a list in the order of its keys, or is to stand.
use Rattle.std.specs.Prelude.{◌≡◌, ℕ, ◌<◌, ◌≤◌, true, List, length, filter, None, is_some}
use Rattle.std.specs.List.{find}
use Rattle.std.specs.declared.cmp.Ordering.{Ordering}
use Rattle.sorted_tables.specs.Table.{is_at, is_before, IsAscending}

-- how many stand before a key
abbrev pub place_of : {K X : Type 0} → (K → K → Ordering) → (X → K) → K → List X → ℕ
place_of cmp key k xs = length (filter (is_before cmp key k) xs)

pub record IsThere {K X : Type 0} (cmp : K → K → Ordering) (key : X → K) (k : K) (xs : List X) (place : ℕ) : Type 0 where
  pub order : IsAscending cmp key xs
  pub is : place ≡ place_of cmp key k xs
  pub within : place < length xs
  pub found : is_some (find (is_at cmp key k) xs) ≡ true

pub record IsAbsent {K X : Type 0} (cmp : K → K → Ordering) (key : X → K) (k : K) (xs : List X) (place : ℕ) : Type 0 where
  pub order : IsAscending cmp key xs
  pub is : place ≡ place_of cmp key k xs
  pub within : place ≤ length xs
  pub none : find (is_at cmp key k) xs ≡ None
