-- Numbers in lists: whether one is among them, and lists whose elements are numbered.
use Rattle.std.specs.Prelude.{ℕ, zero, suc, Bool, ◌==◌, List, [], ◌∷◌}
use Rattle.std.specs.List.{list_any}

abbrev pub is_among : List ℕ → ℕ → Bool
is_among numbers number = list_any (λ n. n == number) numbers

-- each element with its number, where so many stand before the first
abbrev pub numbered_from : {A B : Type 0} → (ℕ → A → B) → ℕ → List A → List B
numbered_from make k [] = []
numbered_from make k (x ∷ xs) = make k x ∷ numbered_from make (suc k) xs

-- each element with its number
abbrev pub numbered : {A B : Type 0} → (ℕ → A → B) → List A → List B
numbered make = numbered_from make zero
