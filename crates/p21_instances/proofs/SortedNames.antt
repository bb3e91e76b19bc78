-- Names in order: which are there, and whether one stands twice.
use Rattle.std.proofs.Common.{◌≡◌, ◌<◌, ◌+◌, ℕ, zero, suc, Bool, true, false, not, ◌&&◌, ◌||◌, ◌==◌, nat_lt, List, [], ◌∷◌, take, drop, get_or, length, Less, Result, Ok, Err, is_ok, ⊎_elim, refl, sym, ◌∙◌, ap, arith, add-one}
use Rattle.std.proofs.Math.Bool.{or-true}
use Rattle.std.proofs.lemmas.Bool.{cases_Bool, eq-eqb}
use Rattle.std.proofs.lemmas.Bool.Decides.{nat_tests}
use Rattle.std.proofs.lemmas.List.{map-append, take-append-drop}
use Rattle.std.proofs.lemmas.List.Folds.{list_any_at}
use Rattle.std.proofs.lemmas.List.Sorted.{IsNonDecreasingBy-from_sort, IsPermutation-sym, searched}
use Rattle.std.proofs.lemmas.Map.Keys.{IsDistinct-IsPermutation, sorted_from_strictly_increasing}
use Rattle.std.specs.List.{AllByRecursion, IsAllAdjacentAnswer, IsDistinct, list_any}
use Rattle.std.specs.List.Sorted.{IsBinarySearchResult, IsPermutation, IsSorted, IsStrictlySortedBy}
use Rattle.std.specs.Ordering.{is_lt, nat_cmp}
use Rattle.plain_data.specs.Numbers.{is_among}
use Rattle.plain_data.proofs.Numbers.{none_among, not_above, not_below}
use Rattle.p21_tree.specs.declared.instance.Instance.{Instance}
use Rattle.p21_instances.specs.Instances.{has_twice, names}
use Rattle.p21_instances.proofs.Sets.{map-take_more}
use Rattle.p21_instances.proofs.Twice.{has_twice-append, has_twice-push}

-- two numbers are one
abbrev pub is_one : ℕ → ℕ → Bool
is_one m n = m == n

-- ---- search

pub found_is : (xs : List ℕ) (x : ℕ) (r : Result ℕ ℕ) → IsSorted nat_cmp xs → IsBinarySearchResult (λ y. nat_cmp y x) xs r → is_ok r ≡ is_among xs x
found_is xs x (Ok i) up h =
    let at = searched xs x (Ok i) h (λ i j. IsNonDecreasingBy-from_sort (λ n. n) xs up i j 0) in
    sym (list_any_at (λ n. n == x) xs i 0 at.0 (eq-eqb _ x at.1))
found_is xs x (Err i) up h =
    let at = searched xs x (Err i) h (λ i j. IsNonDecreasingBy-from_sort (λ n. n) xs up i j 0) in
    sym (none_among xs x (λ k within. ⊎_elim
    (λ (low : nat_lt k i ≡ true). not_below _ x (at.1 k (grind (arith, nat_tests))))
    (λ (high : nat_lt k i ≡ false). not_above _ x (at.2 k (grind (arith, nat_tests)) within))
    (cases_Bool (nat_lt k i))))

-- ---- what stands twice

apart : (x y : ℕ) → nat_cmp x y ≡ Less → is_one x y ≡ false
apart x y h = grind (arith, nat_tests)

none_same : (x : ℕ) (ys : List ℕ) → AllByRecursion (λ y. nat_cmp x y ≡ Less) ys → list_any (is_one x) ys ≡ false
none_same x [] h = refl
none_same x (y ∷ ys) h = rw (apart x y h.0, none_same x ys h.1) refl

once : (xs : List ℕ) → IsStrictlySortedBy nat_cmp xs → has_twice is_one xs ≡ false
unfolding IsStrictlySortedBy
once [] h = refl
once (x ∷ xs) h = rw (none_same x xs h.0, once xs h.1) refl

neighbours : (xs : List ℕ) (k : ℕ) → suc k < length xs → is_one (get_or xs k 0) (get_or xs (suc k) 0) ≡ true → has_twice is_one xs ≡ true
neighbours [] k within same = absurd (omega arith)
neighbours (x ∷ []) k within same = absurd (omega arith)
neighbours (x ∷ y ∷ ys) zero within same = rw same refl
neighbours (x ∷ y ∷ ys) (suc k) within same = rw (neighbours (y ∷ ys) k (omega arith) same) (or-true _)

rising : (xs : List ℕ) → IsAllAdjacentAnswer (λ x y b. b ≡ nat_lt x y) xs true → (k : ℕ) → k + 1 < length xs → get_or xs k 0 < get_or xs (k + 1) 0
rising xs h k within = let up = h k 0 within in grind (arith, nat_tests)

level : (x y : ℕ) → false ≡ nat_lt x y → is_lt (nat_cmp y x) ≡ false → is_one x y ≡ true
level x y p q = grind (arith, nat_tests)

pub distinct_is : (xs : List ℕ) (r : Bool) → IsSorted nat_cmp xs → IsAllAdjacentAnswer (λ x y b. b ≡ nat_lt x y) xs r → r ≡ not (has_twice is_one xs)
distinct_is xs true up h = ap not (sym (once xs (sorted_from_strictly_increasing xs (rising xs h))))
distinct_is xs false up h =
    let same = level (get_or xs h.0 0) (get_or xs (h.0 + 1) 0) (h.2 0) (up h.0 0 (omega arith) h.1) in
    ap not (sym (neighbours xs h.0 (rw add-one at h.1) (rw add-one at same)))

-- ---- the same in any order

or_none : (a b : Bool) → (a || b) ≡ false → (a ≡ false) × (b ≡ false)
or_none true b e = cc
or_none false b e = (refl, e)

others_apart : (x : ℕ) (ys : List ℕ) → list_any (is_one x) ys ≡ false → AllByRecursion (λ y. is_one x y ≡ false) ys
others_apart x [] e = tt
others_apart x (y ∷ ys) e = let none = or_none (is_one x y) (list_any (is_one x) ys) e in (none.0, others_apart x ys none.1)

differ : (xs : List ℕ) → has_twice is_one xs ≡ false → IsDistinct is_one xs
unfolding IsDistinct
differ [] e = tt
differ (x ∷ xs) e = let none = or_none (list_any (is_one x) xs) (has_twice is_one xs) e in (others_apart x xs none.0, differ xs none.1)

none_again : (x : ℕ) (ys : List ℕ) → AllByRecursion (λ y. is_one x y ≡ false) ys → list_any (is_one x) ys ≡ false
none_again x [] h = refl
none_again x (y ∷ ys) h = rw (h.0, none_again x ys h.1) refl

none_twice : (xs : List ℕ) → IsDistinct is_one xs → has_twice is_one xs ≡ false
unfolding IsDistinct
none_twice [] h = refl
none_twice (x ∷ xs) h = rw (none_again x xs h.0, none_twice xs h.1) refl

turns : (m n : ℕ) → is_one m n ≡ is_one n m
turns m n = grind (arith, nat_tests)

pub once_in_any_order : (xs ys : List ℕ) → IsPermutation xs ys → has_twice is_one ys ≡ false → has_twice is_one xs ≡ false
once_in_any_order xs ys same e = none_twice xs (IsDistinct-IsPermutation is_one turns ys xs (IsPermutation-sym xs ys same) (differ ys e))

-- ---- what stood before

pub among_turns : (xs : List ℕ) (m : ℕ) → is_among xs m ≡ list_any (is_one m) xs
among_turns [] m = refl
among_turns (x ∷ xs) m = rw (turns x m, among_turns xs m) refl

-- the names before i, and the one at i
module _ (xs : List Instance) (i : ℕ) (x : Instance) (within : i < length xs) (is : x ≡ get_or xs i x) where
  stood_twice : is_among (names (take i xs)) x.name ≡ true → has_twice is_one (names xs) ≡ true
  stood_twice e =
      let one_more : has_twice is_one (names (take (i + 1) xs)) ≡ true = rw (map-take_more (λ y. y.name) xs i x within is, has_twice-push is_one turns (names (take i xs)) x.name, ← among_turns (names (take i xs)) x.name, e) refl in
      ap (λ l. has_twice is_one (names l)) (sym (take-append-drop (i + 1) xs))
      ∙ ap (has_twice is_one) (map-append (λ y. y.name) (take (i + 1) xs) (drop (i + 1) xs))
      ∙ has_twice-append is_one (names (take (i + 1) xs)) (names (drop (i + 1) xs)) one_more

  -- where no name stands twice, none stood before
  not_before : has_twice is_one (names xs) ≡ false → is_among (names (take i xs)) x.name ≡ false
  not_before none = ⊎_elim
      (λ (e : is_among (names (take i xs)) x.name ≡ true). let twice = stood_twice e in cc)
      (λ (e : is_among (names (take i xs)) x.name ≡ false). e)
      (cases_Bool (is_among (names (take i xs)) x.name))

  none_left : (b : Bool) → true ≡ not b → b ≡ false
  none_left true e = cc
  none_left false e = refl

  -- whether the name stood before, where that is looked at only if a name stands twice
  pub stood : (sorted : List ℕ) → IsPermutation (names xs) sorted → (distinct : Bool) → distinct ≡ not (has_twice is_one sorted)
      → (not distinct && is_among (names (take i xs)) x.name) ≡ is_among (names (take i xs)) x.name
  stood sorted same true e = sym (not_before (once_in_any_order (names xs) sorted same (none_left (has_twice is_one sorted) e)))
  stood sorted same false e = refl
