-- A list that is in order is the ordered one of each list that it is a permutation of.
use Rattle.std.proofs.Common.{◌≡◌, ◌<◌, ℕ, suc, zero, Bool, true, false, List, [], ◌∷◌, map, ⊎_elim, refl, sym, ◌∙◌, ap, length, get_or, arith, add-one}
use Rattle.std.proofs.Math.ListN.{set}
use Rattle.std.proofs.lemmas.Bool.{cases_Bool}
use Rattle.std.proofs.lemmas.List.Sorted.{IsPermutation-keeps}
use Rattle.std.specs.Cmp.{IsStrictWeakOrder}
use Rattle.std.specs.List.{AllByRecursion, swap}
use Rattle.std.specs.List.Sorted.{IsPermutation, IsSortedBy}
use Rattle.p21_instances.specs.Instances.{placed, in_order}

module _ {X : Type 0} (lt : X → X → Bool) (laws : IsStrictWeakOrder lt) where
  -- x and y are one where neither is below the other
  abbrev Told : X → X → Type 0
  Told x y = lt x y ≡ false → lt y x ≡ false → x ≡ y

  -- both stand in front of a list
  fronts : (x y : X) (zs : List X) → Told x y → placed lt x zs ≡ x ∷ zs → placed lt y zs ≡ y ∷ zs → placed lt x (y ∷ zs) ≡ placed lt y (x ∷ zs)
  fronts x y zs told ex ey = ⊎_elim
      (λ (yx : lt y x ≡ true). let xy : lt x y ≡ false = laws.one_way y x yx in rw (yx, xy, ex) refl)
      (λ (yx : lt y x ≡ false). ⊎_elim
      (λ (xy : lt x y ≡ true). rw (yx, xy, ey) refl)
      (λ (xy : lt x y ≡ false). let same : x ≡ y = told xy yx in rw (yx, xy, same) refl)
      (cases_Bool (lt x y)))
      (cases_Bool (lt y x))

  below_from_between : (z x y : X) → lt z y ≡ true → lt z x ≡ false → lt x y ≡ true
  below_from_between z x y zy zx = ⊎_elim
      (λ (xy : lt x y ≡ true). xy)
      (λ (xy : lt x y ≡ false). let no : lt z y ≡ false = laws.chain z x y zx xy in cc)
      (cases_Bool (lt x y))

  placed_turn : (x y : X) (zs : List X) → Told x y → placed lt x (placed lt y zs) ≡ placed lt y (placed lt x zs)
  placed_turn x y [] told = fronts x y [] told refl refl
  placed_turn x y (z ∷ zs) told = ⊎_elim
      (λ (zy : lt z y ≡ true). ⊎_elim
      (λ (zx : lt z x ≡ true). rw (zy, zx) (rw zy (ap (λ l. z ∷ l) (placed_turn x y zs told))))
      (λ (zx : lt z x ≡ false). let xy = below_from_between z x y zy zx in rw (zy, zx, xy, zy) refl)
      (cases_Bool (lt z x)))
      (λ (zy : lt z y ≡ false). ⊎_elim
      (λ (zx : lt z x ≡ true). let yx = below_from_between z y x zx zy in simp (zy, zx, yx))
      (λ (zx : lt z x ≡ false).
      let ey : placed lt y (z ∷ zs) ≡ y ∷ z ∷ zs = rw zy refl in
      let ex : placed lt x (z ∷ zs) ≡ x ∷ z ∷ zs = rw zx refl in
      ap (placed lt x) ey ∙ fronts x y (z ∷ zs) told ex ey ∙ sym (ap (placed lt y) ex))
      (cases_Bool (lt z x)))
      (cases_Bool (lt z y))

  module _ (P : X → Type 0) (tells : (x y : X) → P x → P y → Told x y) where
    -- the second list has what the first has, and is the same in order
    abbrev Follows : List X → List X → Type 0
    Follows xs ys = AllByRecursion P xs → AllByRecursion P ys × (in_order lt xs ≡ in_order lt ys)

    chained : (xs ys zs : List X) → Follows xs ys → Follows ys zs → Follows xs zs
    chained xs ys zs a b h =
        let u = a h in
        let v = b u.0 in
        (v.0, u.1 ∙ v.1)

    under : (x : X) (xs ys : List X) → Follows xs ys → Follows (x ∷ xs) (x ∷ ys)
    under x xs ys a h = let u = a h.1 in ((h.0, u.0), ap (placed lt x) u.1)

    turned : (x y : X) (xs : List X) → Follows (x ∷ y ∷ xs) (y ∷ x ∷ xs)
    turned x y xs h = ((h.1.0, (h.0, h.1.1)), placed_turn x y (in_order lt xs) (tells x y h.0 h.1.0))

    to_front : (xs : List X) (j : ℕ) (x d : X) → j < length xs → Follows (x ∷ xs) (get_or xs j d ∷ set xs j x)
    to_front [] j x d within = absurd (omega arith)
    to_front (y ∷ xs) zero x d within = turned x y xs
    to_front (y ∷ xs) (suc j) x d within =
        let v = get_or xs j d in
        let rest = set xs j x in
        chained (x ∷ y ∷ xs) (y ∷ x ∷ xs) (v ∷ y ∷ rest) (turned x y xs)
        (chained (y ∷ x ∷ xs) (y ∷ v ∷ rest) (v ∷ y ∷ rest) (under y (x ∷ xs) (v ∷ rest) (to_front xs j x d (omega arith))) (turned y v rest))

    exchanged : (xs : List X) (i j : ℕ) (d : X) → i < length xs → j < length xs → Follows xs (set (set xs i (get_or xs j d)) j (get_or xs i d))
    exchanged [] i j d p q = absurd (omega arith)
    exchanged (x ∷ xs) zero zero d p q = λ h. (h, refl)
    exchanged (x ∷ xs) zero (suc j) d p q = to_front xs j x d (omega arith)
    exchanged (x ∷ xs) (suc i) zero d p q = to_front xs i x d (omega arith)
    exchanged (x ∷ xs) (suc i) (suc j) d p q = under x xs (set (set xs i (get_or xs j d)) j (get_or xs i d)) (exchanged xs i j d (omega arith) (omega arith))

    swapped : (xs : List X) (i j : ℕ) → i < length xs → j < length xs → Follows xs (swap xs i j)
    swapped [] i j p q = λ h. (h, refl)
    swapped (x ∷ xs) i j p q = exchanged (x ∷ xs) i j x p q

    pub in_order-permutation : (xs ys : List X) → AllByRecursion P xs → IsPermutation xs ys → in_order lt xs ≡ in_order lt ys
    in_order-permutation xs ys h same =
        (IsPermutation-keeps xs (Follows xs) (λ h. (h, refl)) (λ l i j p q follows. chained xs l _ follows (swapped l i j p q)) ys same h).1

module _ {X Y : Type 0} (lt : X → X → Bool) (f : Y → X) where
  Rises : List Y → Type 0
  Rises ys = (k : ℕ) (d : Y) → suc k < length ys → lt (f (get_or ys (suc k) d)) (f (get_or ys k d)) ≡ false

  in_order-rises : (ys : List Y) → Rises ys → in_order lt (map f ys) ≡ map f ys
  unfolding Rises
  in_order-rises [] up = refl
  in_order-rises (y ∷ []) up = refl
  in_order-rises (y ∷ z ∷ ys) up =
      let first : lt (f z) (f y) ≡ false = up 0 y (omega arith) in
      rw (in_order-rises (z ∷ ys) (λ k d high. up (suc k) d (omega arith))) (rw first refl)

  -- what ascends is in order
  pub in_order-sorted : (ys : List Y) → IsSortedBy (λ a b. lt (f a) (f b)) ys → in_order lt (map f ys) ≡ map f ys
  unfolding Rises
  in_order-sorted ys up = in_order-rises ys (λ k d high. rw add-one at (up k d (omega arith) (omega arith)))
