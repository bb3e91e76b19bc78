-- Lists whose elements belong together, one by one.
use Rattle.std.proofs.Common.{◌≡◌, ◌==◌, ℕ, suc, true, false, List, [], ◌∷◌, ◌++◌, length, map, slice_index_or, ⊎_elim, refl, ap, subst, one-add}
use Rattle.std.proofs.lemmas.Bool.{cases_Bool, eqb-true}
use Rattle.std.specs.List.{flat_map, position_or_len}
use Rattle.plain_data.specs.Numbers.{is_among, numbered_from}
use Rattle.p21_laws.proofs.Sets.{behind, here}

abbrev pub AllBoth : {A B : Type 0} → (A → B → Type 0) → List A → List B → Type 0
AllBoth R [] [] = Unit {0}
AllBoth R [] (y ∷ ys) = ⊥
AllBoth R (x ∷ xs) [] = ⊥
AllBoth R (x ∷ xs) (y ∷ ys) = R x y × AllBoth R xs ys

module _ {A B : Type 0} (R : A → B → Type 0) where
  pub both_append : (xs zs : List A) (ys ws : List B) → AllBoth R xs ys → AllBoth R zs ws → AllBoth R (xs ++ zs) (ys ++ ws)
  both_append [] zs [] ws p q = q
  both_append [] zs (y ∷ ys) ws p q = absurd p
  both_append (x ∷ xs) zs [] ws p q = absurd p
  both_append (x ∷ xs) zs (y ∷ ys) ws p q = (p.0, both_append xs zs ys ws p.1 q)

  pub as_many : (xs : List A) (ys : List B) → AllBoth R xs ys → length xs ≡ length ys
  as_many [] [] p = refl
  as_many [] (y ∷ ys) p = absurd p
  as_many (x ∷ xs) [] p = absurd p
  as_many (x ∷ xs) (y ∷ ys) p = ap suc (as_many xs ys p.1)

  -- what numbers give, number after number
  pub both_flat : (f : ℕ → List A) (g : ℕ → List B) (ns : List ℕ) → ((n : ℕ) → is_among ns n ≡ true → AllBoth R (f n) (g n)) → AllBoth R (flat_map f ns) (flat_map g ns)
  both_flat f g [] each = tt
  both_flat f g (n ∷ ns) each = both_append (f n) (flat_map f ns) (g n) (flat_map g ns) (each n (here n ns)) (both_flat f g ns (λ m there. each m (behind n m ns there)))

-- what stands where a number stands
pub at_place : {B : Type 0} (R : ℕ → List B → Type 0) (ns : List ℕ) (ls : List (List B)) → AllBoth R ns ls → (n : ℕ) → is_among ns n ≡ true → R n (slice_index_or ls (position_or_len (λ m. m == n) ns) [])
at_place R [] ls p n there = cc
at_place R (m ∷ ns) [] p n there = absurd p
at_place R (m ∷ ns) (l ∷ ls) p n there = ⊎_elim
    (λ (same : (m == n) ≡ true). rw same (subst (λ k. R k l) (eqb-true m n same) p.0))
    (λ (other : (m == n) ≡ false). rw (other, one-add) (at_place R ns ls p.1 n (rw other at there)))
    (cases_Bool (m == n))

-- each number with what it gives
pub both_mapped : {B : Type 0} (R : ℕ → B → Type 0) (f : ℕ → B) (ns : List ℕ) → ((n : ℕ) → is_among ns n ≡ true → R n (f n)) → AllBoth R ns (map f ns)
both_mapped R f [] each = tt
both_mapped R f (n ∷ ns) each = (each n (here n ns), both_mapped R f ns (λ m there. each m (behind n m ns there)))

-- ---- numbered lists

pub numbered_next : {A B : Type 0} (f : ℕ → A → B) (k : ℕ) (xs : List A) → numbered_from f (suc k) xs ≡ numbered_from (λ j x. f (suc j) x) k xs
numbered_next f k [] = refl
numbered_next f k (x ∷ xs) = ap (λ l. f (suc k) x ∷ l) (numbered_next f (suc k) xs)

-- ---- of each that is among numbers

pub map_same : {B : Type 0} (f g : ℕ → B) (ns : List ℕ) → ((n : ℕ) → is_among ns n ≡ true → f n ≡ g n) → map f ns ≡ map g ns
map_same f g [] each = refl
map_same f g (n ∷ ns) each = rw (each n (here n ns), map_same f g ns (λ m there. each m (behind n m ns there))) refl

pub flat_same : {B : Type 0} (f g : ℕ → List B) (ns : List ℕ) → ((n : ℕ) → is_among ns n ≡ true → f n ≡ g n) → flat_map f ns ≡ flat_map g ns
flat_same f g [] each = refl
flat_same f g (n ∷ ns) each = rw (each n (here n ns), flat_same f g ns (λ m there. each m (behind n m ns there))) refl
