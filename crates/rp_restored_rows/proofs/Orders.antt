-- Lists whose keys ascend, tested by neighbours.
use Rattle.std.proofs.Common.{◌≡◌, ◌<◌, ◌+◌, ℕ, zero, suc, add-one, Bool, true, false, List, [], ◌∷◌, length, get_or, refl, sym, arith}
use Rattle.std.specs.List.{IsAllAdjacentAnswer}
use Rattle.std.specs.Cmp.{IsTotalOrder}
use Rattle.std.specs.declared.cmp.Ordering.{Ordering}
use Rattle.std.specs.declared.cmp.Ordering.TheVariants.{Less, Equal, Greater}
use Rattle.std.specs.Ordering.{is_lt, is_gt}
use Rattle.std.proofs.lemmas.Bool.{and_parts}
use Rattle.std.proofs.Math.Bool.{and-false}
use Rattle.sorted_tables.specs.Table.{is_after, IsAscending}
use Rattle.sorted_tables.proofs.Ascending.{follows_all}
use Rattle.rp_restored_rows.specs.Tests.{all_adjacent, ascends}

module _ {X : Type 0} (e : X → X → Bool) where
  all_related : (xs : List X) → ((k : ℕ) (d : X) → suc k < length xs → true ≡ e (get_or xs k d) (get_or xs (suc k) d)) → all_adjacent e xs ≡ true
  all_related [] all = refl
  all_related (x ∷ []) all = refl
  all_related (x ∷ y ∷ ys) all = rw (sym (all zero x (omega arith)), all_related (y ∷ ys) (λ k d within. all (suc k) d (omega arith))) refl

  one_unrelated : (xs : List X) (k : ℕ) → suc k < length xs → ((d : X) → false ≡ e (get_or xs k d) (get_or xs (suc k) d)) → all_adjacent e xs ≡ false
  one_unrelated [] k within differs = absurd (omega arith)
  one_unrelated (x ∷ []) k within differs = absurd (omega arith)
  one_unrelated (x ∷ y ∷ ys) zero within differs = rw (sym (differs x)) refl
  one_unrelated (x ∷ y ∷ ys) (suc k) within differs = rw (one_unrelated (y ∷ ys) k (omega arith) differs) (and-false _)

  pub adjacent_is : (xs : List X) (r : Bool) → IsAllAdjacentAnswer (λ x y b. b ≡ e x y) xs r → r ≡ all_adjacent e xs
  adjacent_is xs true answer = sym (all_related xs (λ k d within. (let here : k + 1 < length xs = omega arith in rw add-one at (answer k d here))))
  adjacent_is xs false answer = sym (one_unrelated xs answer.0 (rw add-one at answer.1) (λ d. rw add-one at (answer.2 d)))

not_before : (t : Ordering) → is_gt t ≡ true → is_lt t ≡ false
not_before Less e = cc
not_before Equal e = cc
not_before Greater e = refl

module _ {K X : Type 0} (cmp : K → K → Ordering) (key : X → K) (total : IsTotalOrder cmp) where
  pub ascending : (xs : List X) → ascends cmp key xs ≡ true → IsAscending cmp key xs
  ascending [] e = tt
  ascending (x ∷ []) e = (tt, tt)
  ascending (x ∷ y ∷ ys) e =
      let both = and_parts (is_after cmp key (key x) y) (ascends cmp key (y ∷ ys)) e in
      let rest = ascending (y ∷ ys) both.1 in
      ((both.0, follows_all cmp key total (key x) (key y) ys (not_before (cmp (key y) (key x)) both.0) rest.0), rest)

  pub tested : (xs : List X) → IsAscending cmp key xs → ascends cmp key xs ≡ true
  tested [] order = refl
  tested (x ∷ []) order = refl
  tested (x ∷ y ∷ ys) order = rw (order.0.0, tested (y ∷ ys) order.1) refl
