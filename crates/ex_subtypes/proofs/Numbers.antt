-- Ascending numbers: which are there, and where.
use Rattle.std.proofs.Common.{◌≡◌, ◌<◌, ◌≤◌, ℕ, Bool, true, false, ◌==◌, ◌&&◌, ◌||◌, nat_lt, List, ◌∷◌, get_or, length, Result, Ok, Err, Option, is_ok, ⊎_elim, refl, sym, ◌∙◌, ap, ◌+◌, drop, add-one, drop-cons, arith}
use Rattle.std.proofs.lemmas.Bool.{cases_Bool, cases_eq, eq-eqb}
use Rattle.std.proofs.lemmas.Bool.Decides.{nat_tests}
use Rattle.std.proofs.lemmas.List.Folds.{list_any_at}
use Rattle.std.proofs.lemmas.List.Kept.{AllPairs-from_increasing}
use Rattle.std.proofs.lemmas.List.Sorted.{searched}
use Rattle.std.specs.List.Sorted.{IsBinarySearchResult, IsStrictlyIncreasing}
use Rattle.std.specs.BTreeSet.{insert_key}
use Rattle.std.specs.Ordering.{nat_cmp}
use Rattle.std.specs.Result.{result_ok}
use Rattle.plain_data.specs.Numbers.{is_among}
use Rattle.graphs.proofs.Sets.{is_among-insert}
use Rattle.plain_data.proofs.Disjunctions.{or_turn_left}
use Rattle.plain_data.proofs.Numbers.{none_among, not_above, not_below}
use Rattle.ex_subtypes.specs.Edges.{is_that, stands_at}

module _ (xs : List ℕ) (up : IsStrictlyIncreasing xs) where
  pub rises : (i j : ℕ) → i ≤ j → j < length xs → get_or xs i 0 ≤ get_or xs j 0
  rises i j le within = ⊎_elim
      (λ (same : i ≡ j). rw same (omega arith))
      (λ apart. let less : get_or xs i 0 < get_or xs j 0 = AllPairs-from_increasing xs up i j 0 (omega arith) within in omega arith)
      (cases_eq i j)

  -- no place where the search found none
  elsewhere : (x i : ℕ) → ((k : ℕ) → k < i → get_or xs k 0 < x) → ((k : ℕ) → i ≤ k → k < length xs → x < get_or xs k 0) → (k : ℕ) → k < length xs → (get_or xs k 0 == x) ≡ false
  elsewhere x i below above k within = ⊎_elim
      (λ (low : nat_lt k i ≡ true). not_below _ x (below k (grind (arith, nat_tests))))
      (λ (high : nat_lt k i ≡ false). not_above _ x (above k (grind (arith, nat_tests)) within))
      (cases_Bool (nat_lt k i))

  pub found_is : (x : ℕ) (r : Result ℕ ℕ) → IsBinarySearchResult (λ y. nat_cmp y x) xs r → is_ok r ≡ is_among xs x
  found_is x (Ok i) h =
      let at = searched xs x (Ok i) h rises in
      sym (list_any_at (λ n. n == x) xs i 0 at.0 (eq-eqb _ x at.1))
  found_is x (Err i) h =
      let at = searched xs x (Err i) h rises in
      sym (none_among xs x (elsewhere x i at.1 at.2))

  -- equal numbers stand in one place
  one_place : (x i k : ℕ) → i < length xs → get_or xs i 0 ≡ x → (i == k) ≡ (nat_lt k (length xs) && (x == get_or xs k 0))
  one_place x i k within is = ⊎_elim
      (λ (same : i ≡ k). rw (← same, is) (grind (arith, nat_tests)))
      (λ (apart : i ≡ k → ⊥). grind (arith, nat_tests, less i k, less k i))
      (cases_eq i k)
    where
      less : (i j : ℕ) → i < j → j < length xs → get_or xs i 0 < get_or xs j 0
      less i j = AllPairs-from_increasing xs up i j 0

  no_place : (x k : ℕ) → (k < length xs → (get_or xs k 0 == x) ≡ false) → false ≡ (nat_lt k (length xs) && (x == get_or xs k 0))
  no_place x k none = grind (arith, nat_tests, none)

  pub place_is : (x : ℕ) (r : Result ℕ ℕ) (o : Option ℕ) → o ≡ result_ok r → IsBinarySearchResult (λ y. nat_cmp y x) xs r → (k : ℕ) → is_that o k ≡ stands_at xs x k
  place_is x (Ok i) o is h k = let at = searched xs x (Ok i) h rises in rw is (one_place x i k at.0 at.1)
  place_is x (Err i) o is h k = let at = searched xs x (Err i) h rises in rw is (no_place x k (elsewhere x i at.1 at.2 k))

-- ---- one number more

-- the number at k is put into a set, and then those behind it
pub put_next : (old new numbers : List ℕ) (k n : ℕ) (told : Bool) → k < length numbers → new ≡ insert_key nat_cmp old (get_or numbers k 0)
    → (is_among old n || is_among (drop k numbers) n) ≡ told → (is_among new n || is_among (drop (k + 1) numbers) n) ≡ told
put_next old new numbers k n told within is_new so_far =
    let x = get_or numbers k 0 in
    let rest = is_among (drop (k + 1) numbers) n in
    let cut : drop k numbers ≡ x ∷ drop (k + 1) numbers = rw (add-one, drop-cons numbers k 0) refl in
    ap (λ b. b || rest) (ap (λ l. is_among l n) is_new ∙ is_among-insert old x n)
    ∙ or_turn_left (x == n) (is_among old n) rest
    ∙ ap (λ l. is_among old n || is_among l n) (sym cut)
    ∙ so_far
