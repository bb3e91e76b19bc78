-- Keywords in order.
use Rattle.std.proofs.Common.{◌≡◌, Bool, true, false, ℕ, List, [], ◌∷◌, map, Ordering, Less, Equal, Greater, refl, sym, ◌∙◌}
use Rattle.std.proofs.lemmas.Cmp.{nat_list_cmp_total}
use Rattle.std.proofs.lemmas.List.Sorted.{IsPermutation-map, ranks_by}
use Rattle.std.proofs.lemmas.Map.Text.{is_eq-slice_cmp}
use Rattle.std.proofs.lemmas.Slice.Eq.{bytes_eq-Decides}
use Rattle.std.specs.Cmp.Lexicographic.{slice_cmp}
use Rattle.std.specs.List.{AllByRecursion}
use Rattle.std.specs.List.Sorted.{IsPermutation, IsSorted}
use Rattle.std.specs.Ordering.{is_eq, is_lt, nat_cmp, ordering_reverse}
use Rattle.p21_instances.specs.Instances.{in_order}
use Rattle.p21_instances.proofs.Order.{in_order-permutation, in_order-sorted}

abbrev pub below : List ℕ → List ℕ → Bool
below k l = is_lt (slice_cmp nat_cmp k l)

all_any : {X : Type 0} (xs : List X) → AllByRecursion (λ x. Unit {0}) xs
all_any [] = tt
all_any (x ∷ xs) = (tt, all_any xs)

level : (o r : Ordering) → o ≡ ordering_reverse r → is_lt o ≡ false → is_lt r ≡ false → is_eq o ≡ true
level Less r e p q = cc
level Equal r e p q = refl
level Greater Less e p q = cc
level Greater Equal e p q = cc
level Greater Greater e p q = cc

one_keyword : (k l : List ℕ) → Unit {0} → Unit {0} → below k l ≡ false → below l k ≡ false → k ≡ l
one_keyword k l _ _ p q =
    (bytes_eq-Decides k l).0 (sym (is_eq-slice_cmp k l) ∙ level (slice_cmp nat_cmp k l) (slice_cmp nat_cmp l k) (nat_list_cmp_total.antisymm k l) p q)

module _ {X : Type 0} (bytes : X → List ℕ) where
  pub keywords-sorted : (xs ys : List X) → IsPermutation xs ys → IsSorted (λ x y. slice_cmp nat_cmp (bytes x) (bytes y)) ys → map bytes ys ≡ in_order below (map bytes xs)
  keywords-sorted xs ys same up =
      sym (in_order-permutation below (ranks_by nat_list_cmp_total (λ k. k)) (λ k. Unit {0}) one_keyword (map bytes xs) (map bytes ys) (all_any (map bytes xs)) (IsPermutation-map bytes xs ys same) ∙ in_order-sorted below bytes ys up)
