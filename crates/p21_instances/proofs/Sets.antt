-- Tests that agree on each element, and what the part of a list has that a loop has seen.
use Rattle.std.proofs.Common.{◌≡◌, ◌<◌, ◌+◌, ℕ, Bool, List, [], ◌∷◌, ◌++◌, map, take, get_or, length, refl, sym, ◌∙◌, ap}
use Rattle.std.proofs.lemmas.List.{map-append, take_more}
use Rattle.std.specs.List.{list_all}

module _ {X Y : Type 0} (f : X → Y) where
  pub map-take_more : (xs : List X) (i : ℕ) (x : X) → i < length xs → x ≡ get_or xs i x → map f (take (i + 1) xs) ≡ map f (take i xs) ++ f x ∷ []
  map-take_more xs i x within is = ap (map f) (take_more xs i x within) ∙ map-append f (take i xs) (get_or xs i x ∷ []) ∙ ap (λ y. map f (take i xs) ++ f y ∷ []) (sym is)

module _ {X : Type 0} (p q : X → Bool) (same : (x : X) → p x ≡ q x) where
  pub list_all-same : (xs : List X) → list_all p xs ≡ list_all q xs
  list_all-same [] = refl
  list_all-same (x ∷ xs) = rw (same x, list_all-same xs) refl
