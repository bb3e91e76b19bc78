-- What stands in tables of types, also at numbers of no type.
use Rattle.std.proofs.Common.{◌≡◌, ℕ, zero, suc, ◌+◌, List, [], ◌∷◌, length, map, slice_get, slice_index_or, refl, ◌∙◌, ap, arith}
use Rattle.std.specs.Option.{option_map_or}
use Rattle.plain_data.specs.Numbers.{numbered_from}
use Rattle.ex_named.specs.declared.declaration.NamedType.{NamedType}
use Rattle.ex_selects.specs.Items.{items, items_by}

pub numbered_index : {A B : Type 0} (f : ℕ → A → B) (none : B) (k : ℕ) (xs : List A) (n : ℕ) → slice_index_or (numbered_from f k xs) n none ≡ option_map_or (f (k + n)) (slice_get xs n) none
numbered_index f none k [] n = refl
numbered_index f none k (x ∷ xs) zero = let same : k + zero ≡ k = omega arith in rw same refl
numbered_index f none k (x ∷ xs) (suc n) =
    let same : suc k + n ≡ k + suc n = omega arith in
    numbered_index f none (suc k) xs n ∙ ap (λ m. option_map_or (f m) (slice_get xs n) none) same

pub numbered_length : {A B : Type 0} (f : ℕ → A → B) (k : ℕ) (xs : List A) → length (numbered_from f k xs) ≡ length xs
numbered_length f k [] = refl
numbered_length f k (x ∷ xs) = ap suc (numbered_length f (suc k) xs)

-- what is kept of a type's items
pub map_get : {A B : Type 0} (f : A → B) (none : B) (xs : List A) (n : ℕ) → slice_index_or (map f xs) n none ≡ option_map_or f (slice_get xs n) none
map_get f none [] n = refl
map_get f none (x ∷ xs) zero = refl
map_get f none (x ∷ xs) (suc n) = map_get f none xs n

pub items_kept : (types : List NamedType) (n : ℕ) → slice_index_or (map (λ x. items_by x.underlying) types) n [] ≡ items types n
items_kept types n = map_get (λ x. items_by x.underlying) [] types n
