-- Elements in order of a number, those of one number as they stand.
use Rattle.std.proofs.Common.{◌≡◌, ◌≤◌, ◌<◌, ℕ, suc, Bool, true, false, ◌==◌, nat_lt, List, [], ◌∷◌, length, get_or, ⊎_elim, refl, sym, ◌∙◌, ap, subst, arith, le_refl, le_trans}
use Rattle.std.proofs.lemmas.Bool.{cases_Bool, eq-eqb}
use Rattle.std.proofs.lemmas.Bool.Decides.{nat_tests}
use Rattle.std.proofs.lemmas.List.Elements.{filter_agree}
use Rattle.std.proofs.lemmas.List.Sorted.{IsNonDecreasingBy-from_sort}
use Rattle.std.specs.List.{AllByRecursion, filter}
use Rattle.std.specs.List.Sorted.{IsNonDecreasingBy, IsSortedByKey, IsStableByKey, ties}
use Rattle.std.specs.Ordering.{is_lt, nat_cmp}
use Rattle.p21_instances.specs.Instances.{placed, in_order}

module _ {X : Type 0} (n : X → ℕ) where
  abbrev below : X → X → Bool
  below x y = nat_lt (n x) (n y)

  abbrev has : ℕ → X → Bool
  has m x = n x == m

  -- no number is less than one before it
  abbrev pub Rises : List X → Type 0
  Rises [] = Unit {0}
  Rises (x ∷ xs) = AllByRecursion (λ y. n x ≤ n y) xs × Rises xs

  -- ---- what a sort gives

  all_at : (P : X → Type 0) (xs : List X) → ((k : ℕ) (d : X) → k < length xs → P (get_or xs k d)) → AllByRecursion P xs
  all_at P [] h = tt
  all_at P (x ∷ xs) h = (h 0 x (omega arith), all_at P xs (λ k d within. h (suc k) d (omega arith)))

  rises : (xs : List X) → IsNonDecreasingBy n xs → Rises xs
  rises [] up = tt
  rises (x ∷ xs) up =
      (all_at (λ y. n x ≤ n y) xs (λ k d within. up 0 (suc k) d (omega arith) (omega arith)), rises xs (λ i j d less within. up (suc i) (suc j) d (omega arith) (omega arith)))

  -- ---- what `in_order` gives

  all_more : (a b : ℕ) (xs : List X) → a ≤ b → AllByRecursion (λ y. b ≤ n y) xs → AllByRecursion (λ y. a ≤ n y) xs
  all_more a b [] less h = tt
  all_more a b (x ∷ xs) less h = (le_trans less h.0, all_more a b xs less h.1)

  all_placed : (a : ℕ) (x : X) (xs : List X) → a ≤ n x → AllByRecursion (λ y. a ≤ n y) xs → AllByRecursion (λ y. a ≤ n y) (placed below x xs)
  all_placed a x [] p h = (p, tt)
  all_placed a x (y ∷ ys) p h = ⊎_elim
      (λ (e : below y x ≡ true). rw e (h.0, all_placed a x ys p h.1))
      (λ (e : below y x ≡ false). rw e (p, h))
      (cases_Bool (below y x))

  rises_placed : (x : X) (xs : List X) → Rises xs → Rises (placed below x xs)
  rises_placed x [] up = (tt, tt)
  rises_placed x (y ∷ ys) up = ⊎_elim
      (λ (e : below y x ≡ true). let less : n y ≤ n x = grind (arith, nat_tests) in rw e (all_placed (n y) x ys less up.0, rises_placed x ys up.1))
      (λ (e : below y x ≡ false). let less : n x ≤ n y = grind (arith, nat_tests) in rw e ((less, all_more (n x) (n y) ys less up.0), up))
      (cases_Bool (below y x))

  pub rises_in_order : (xs : List X) → Rises (in_order below xs)
  rises_in_order [] = tt
  rises_in_order (x ∷ xs) = rises_placed x (in_order below xs) (rises_in_order xs)

  other : (m : ℕ) (x y : X) → below y x ≡ true → has m y ≡ true → has m x ≡ false
  other m x y less same = grind (arith, nat_tests)

  -- those of one number are as they were
  kept_placed : (m : ℕ) (x : X) (xs : List X) → filter (has m) (placed below x xs) ≡ filter (has m) (x ∷ xs)
  kept_placed m x [] = refl
  kept_placed m x (y ∷ ys) = ⊎_elim
      (λ (e : below y x ≡ true). ⊎_elim
      (λ (same : has m y ≡ true). let apart = other m x y e same in rw (e, same, kept_placed m x ys, apart) refl)
      (λ (apart : has m y ≡ false). rw (e, apart, kept_placed m x ys) refl)
      (cases_Bool (has m y)))
      (λ (e : below y x ≡ false). rw e refl)
      (cases_Bool (below y x))

  kept : (m : ℕ) (xs : List X) → filter (has m) (in_order below xs) ≡ filter (has m) xs
  kept m [] = refl
  kept m (x ∷ xs) = kept_placed m x (in_order below xs) ∙ rw (kept m xs) refl

  -- ---- there is one such list

  found : (P : X → Type 0) (q : X → Bool) (xs : List X) → AllByRecursion P xs → (y : X) (rest : List X) → filter q xs ≡ y ∷ rest → P y
  found P q [] all y rest e = cc
  found P q (x ∷ xs) all y rest e = ⊎_elim
      (λ (passes : q x ≡ true). let same : x ≡ y = (let first = rw passes at e in cc) in subst P same all.0)
      (λ (fails : q x ≡ false). found P q xs all.1 y rest (rw fails at e))
      (cases_Bool (q x))

  rest_same : (q : X → Bool) (x : X) (xs ys : List X) → filter q (x ∷ xs) ≡ filter q (x ∷ ys) → filter q xs ≡ filter q ys
  rest_same q x xs ys e = ⊎_elim
      (λ (passes : q x ≡ true). let more = rw passes at e in cc)
      (λ (fails : q x ≡ false). rw fails at e)
      (cases_Bool (q x))

  one : (xs ys : List X) → Rises xs → Rises ys → ((x : X) → filter (has (n x)) xs ≡ filter (has (n x)) ys) → xs ≡ ys
  one [] [] up high same = refl
  one [] (y ∷ ys) up high same = let own = eq-eqb (n y) (n y) refl in let none = rw own at (same y) in cc
  one (x ∷ xs) [] up high same = let own = eq-eqb (n x) (n x) refl in let none = rw own at (same x) in cc
  one (x ∷ xs) (y ∷ ys) up high same =
      let of_x : filter (has (n x)) (y ∷ ys) ≡ x ∷ filter (has (n x)) xs = sym (same x) ∙ rw (eq-eqb (n x) (n x) refl) refl in
      let of_y : filter (has (n y)) (x ∷ xs) ≡ y ∷ filter (has (n y)) ys = same y ∙ rw (eq-eqb (n y) (n y) refl) refl in
      let below_x : n y ≤ n x = found (λ z. n y ≤ n z) (has (n x)) (y ∷ ys) (le_refl (n y), high.0) x _ of_x in
      let below_y : n x ≤ n y = found (λ z. n x ≤ n z) (has (n y)) (x ∷ xs) (le_refl (n x), up.0) y _ of_y in
      let level : n y ≡ n x = omega arith in
      let of_both : y ∷ filter (has (n x)) ys ≡ x ∷ filter (has (n x)) xs = sym (rw (eq-eqb (n y) (n x) level) refl) ∙ of_x in
      let first : y ≡ x = cc in
      let rest : (z : X) → filter (has (n z)) xs ≡ filter (has (n z)) ys = λ z. rest_same (has (n z)) x xs ys (same z ∙ ap (λ w. filter (has (n z)) (w ∷ ys)) first) in
      ap (λ l. x ∷ l) (one xs ys up.1 high.1 rest) ∙ ap (λ w. w ∷ ys) (sym first)

  alike : (x y : X) → ties (λ a b. is_lt (nat_cmp (n a) (n b))) x y ≡ has (n x) y
  alike x y = grind (arith, nat_tests)

  -- what a stable sort by n gives
  pub sorted_by : (xs ys : List X) → IsSortedByKey n nat_cmp ys → IsStableByKey n nat_cmp xs ys → ys ≡ in_order below xs
  sorted_by xs ys up stable =
      one ys (in_order below xs) (rises ys (IsNonDecreasingBy-from_sort n ys up)) (rises_in_order xs)
      (λ x. sym (filter_agree _ (has (n x)) (alike x) ys) ∙ stable x ∙ filter_agree _ (has (n x)) (alike x) xs ∙ sym (kept (n x) xs))
