-- Things in buckets, by keys that those share which are the same.
use Rattle.std.specs.Prelude.{◌≡◌, ℕ, ◌==◌, ◌++◌, ◌%◌, Bool, List, [], ◌∷◌, map, filter, length, slice_set, slice_index_or}
use Rattle.std.specs.Borrow.{Bor}

abbrev pub bucket : {A : Type 0} → List (List A) → ℕ → List A
bucket buckets number = slice_index_or buckets number []

-- the bucket of a key
abbrev pub sharing : {A : Type 0} → List (List A) → ℕ → List A
sharing buckets key = bucket buckets (key % length buckets)

-- one more in the bucket of a key
abbrev pub put : {A : Type 0} → List (List A) → ℕ → A → List (List A)
put buckets key x = slice_set buckets (key % length buckets) (sharing buckets key ++ x ∷ [])

abbrev pub AreEmpty : {A : Type 0} → List (List A) → Type 0
AreEmpty buckets = (number : ℕ) → bucket buckets number ≡ []

-- ---- what stands in them

abbrev pub all_now : {A : Type 0} → List (Bor A) → List A
all_now xs = map (λ x. x.now) xs

-- whether something stands in the bucket of a number, among so many
abbrev pub is_in : {A : Type 0} → (A → ℕ) → ℕ → ℕ → A → Bool
is_in key count number x = key x % count == number

-- each of these stands in the bucket of its key, in their order
abbrev pub Holds : {A : Type 0} → (A → ℕ) → List (List (Bor A)) → List A → Type 0
Holds key buckets xs = (number : ℕ) → all_now (bucket buckets number) ≡ filter (is_in key (length buckets) number) xs
