-- Elements in the order of a number that each has: those of some numbers, one number after another.
use Rattle.std.proofs.Common.{◌≡◌, ℕ, suc, ◌<◌, ◌≤◌, ◌==◌, Bool, true, false, List, [], ◌∷◌, ◌++◌, length, get_or, refl, sym, ◌∙◌, ap, arith}
use Rattle.std.specs.Prelude.{filter}
use Rattle.std.specs.List.{AllByRecursion, flat_map}
use Rattle.std.specs.List.Sorted.{IsNonDecreasingBy, IsStrictlyIncreasing, IsStrictlySortedBy}
use Rattle.std.specs.Ordering.{nat_cmp}
use Rattle.std.specs.declared.cmp.Ordering.TheVariants.{Less}
use Rattle.std.proofs.lemmas.Bool.Decides.{nat_tests}
use Rattle.std.proofs.lemmas.Map.Keys.{sorted_from_strictly_increasing, sorted_head, sorted_tail}
use Rattle.plain_data.specs.Numbers.{is_among}

none_passes : {X : Type 0} (xs : List X) → filter (λ x. false) xs ≡ []
none_passes [] = refl
none_passes (x ∷ xs) = none_passes xs

-- what is among numbers above e is itself above e
among_above : (e : ℕ) (es : List ℕ) → AllByRecursion (λ y. nat_cmp e y ≡ Less) es → (k : ℕ) → is_among es k ≡ true → e < k
among_above e [] above k h = cc
among_above e (y ∷ es) above k h = grind (arith, nat_tests, above.0, among_above e es above.1 k)

module _ {X : Type 0} (n : X → ℕ) where
  abbrev Rises : List X → Type 0
  Rises [] = Unit {0}
  Rises (x ∷ xs) = AllByRecursion (λ y. n x ≤ n y) xs × Rises xs

  -- no element is below one that stands before all
  none_below : (x : X) (xs : List X) → ((j : ℕ) (d : X) → j < length xs → n x ≤ n (get_or xs j d)) → AllByRecursion (λ y. n x ≤ n y) xs
  none_below x [] all = tt
  none_below x (y ∷ xs) all = (all 0 y (omega arith), none_below x xs (λ j d h. all (suc j) d (omega arith)))

  rises : (xs : List X) → IsNonDecreasingBy n xs → Rises xs
  rises [] order = tt
  rises (x ∷ xs) order =
      (none_below x xs (λ j d h. order 0 (suc j) d (omega arith) (omega arith)), rises xs (λ i j d le h. order (suc i) (suc j) d (omega arith) (omega arith)))

  no_more : (e : ℕ) (x : X) (xs : List X) → e < n x → AllByRecursion (λ y. n x ≤ n y) xs → filter (λ y. e == n y) xs ≡ []
  no_more e x [] above all = refl
  no_more e x (y ∷ xs) above all =
      let past : (e == n y) ≡ false = grind (arith, nat_tests, all.0) in
      rw past (no_more e x xs above all.1)

  first_then_others : (e : ℕ) (es : List ℕ) → AllByRecursion (λ y. nat_cmp e y ≡ Less) es → (xs : List X) → Rises xs → filter (λ x. e == n x) xs ++ filter (λ x. is_among es (n x)) xs ≡ filter (λ x. is_among (e ∷ es) (n x)) xs
  first_then_others e es above [] order = refl
  first_then_others e es above (x ∷ xs) order = by (first_then_others e es above xs order.1) (e == n x) (is_among es (n x)) refl refl
    where
      by : filter (λ y. e == n y) xs ++ filter (λ y. is_among es (n y)) xs ≡ filter (λ y. is_among (e ∷ es) (n y)) xs → (a b : Bool) → (e == n x) ≡ a → is_among es (n x) ≡ b → filter (λ y. e == n y) (x ∷ xs) ++ filter (λ y. is_among es (n y)) (x ∷ xs) ≡ filter (λ y. is_among (e ∷ es) (n y)) (x ∷ xs)
      by others true true p q =
          let above_it = among_above e es above (n x) q in
          absurd (grind (arith, nat_tests, p, above_it))
      by others true false p q = rw (p, q) (ap (λ ys. x ∷ ys) others)
      by others false true p q =
          let none = no_more e x xs (among_above e es above (n x) q) order.0 in
          rw (p, q, none) (ap (λ ys. x ∷ ys) (rw none at others))
      by others false false p q = rw (p, q) others

  one_by_one : (es : List ℕ) → IsStrictlySortedBy nat_cmp es → (xs : List X) → Rises xs → flat_map (λ e. filter (λ x. e == n x) xs) es ≡ filter (λ x. is_among es (n x)) xs
  one_by_one [] ascend xs order = sym (none_passes xs)
  one_by_one (e ∷ es) ascend xs order =
      ap (λ ys. filter (λ x. e == n x) xs ++ ys) (one_by_one es (sorted_tail nat_cmp e es ascend) xs order) ∙ first_then_others e es (sorted_head nat_cmp e es ascend) xs order

  -- where numbers and elements ascend, those of one number after another are those of all the numbers
  in_turn : (es : List ℕ) → IsStrictlySortedBy nat_cmp es → (xs : List X) → IsNonDecreasingBy n xs → flat_map (λ e. filter (λ x. e == n x) xs) es ≡ filter (λ x. is_among es (n x)) xs
  in_turn es ascend xs order = one_by_one es ascend xs (rises xs order)

  -- where the members of a family ascend, and the elements too
  pub of_members : (members family : List ℕ) (xs : List X) → members ≡ family → IsStrictlyIncreasing members → IsNonDecreasingBy n xs → flat_map (λ e. filter (λ x. e == n x) xs) members ≡ filter (λ x. is_among family (n x)) xs
  of_members members family xs same ascend order =
      in_turn members (sorted_from_strictly_increasing members ascend) xs order ∙ ap (λ es. filter (λ x. is_among es (n x)) xs) same
