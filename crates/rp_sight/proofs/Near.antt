-- A row that stands where it was likely to stand.
use Rattle.std.proofs.Common.{◌≡◌, ℕ, zero, suc, ◌<◌, true, List, [], ◌∷◌, length, get_or, refl, sym, ◌∙◌, ap, subst, arith}
use Rattle.std.specs.Prelude.{filter}
use Rattle.std.specs.List.{AllByRecursion}
use Rattle.std.specs.declared.cmp.Ordering.{Ordering}
use Rattle.std.specs.declared.cmp.Ordering.TheVariants.{Less, Equal, Greater}
use Rattle.std.specs.Ordering.{is_lt, is_eq, is_gt, ordering_reverse}
use Rattle.std.specs.Cmp.{IsTotalOrder}
use Rattle.std.proofs.lemmas.Cmp.{tied_itself}
use Rattle.sorted_tables.specs.Table.{is_at, is_before, IsAscending}
use Rattle.sorted_tables.specs.Places.{IsThere}
use Rattle.sorted_tables.proofs.Ascending.{is_gt-true, follows_all, none_before}
use Rattle.sorted_tables.proofs.Finding.{there_at}
use Rattle.rp_rows.specs.declared.rows.Key.{Key}
use Rattle.rp_rows.specs.Rows.{key_cmp, same_key, Row, row_key, is_row}
use Rattle.rp_rows.proofs.Keys.{key_total}
use Rattle.rp_listers.proofs.Among.{same_is}

all_at : {X : Type 0} (P : X → Type 0) (xs : List X) (i : ℕ) (x : X) → AllByRecursion P xs → i < length xs → get_or xs i x ≡ x → P x
all_at P [] i x all within here = absurd (omega arith)
all_at P (y ∷ ys) zero x all within here = subst P here all.0
all_at P (y ∷ ys) (suc i) x all within here = all_at P ys i x all.1 (omega arith) here

module _ {K X : Type 0} (cmp : K → K → Ordering) (key : X → K) (total : IsTotalOrder cmp) where
  tied : (t : Ordering) → is_eq t ≡ true → t ≡ Equal
  tied Less h = cc
  tied Equal h = refl
  tied Greater h = cc

  -- what is at k is behind what it follows
  is_earlier : (k : K) (x y : X) → is_at cmp key k x ≡ true → is_gt (cmp (key x) (key y)) ≡ true → cmp (key y) k ≡ Less
  is_earlier k x y at after =
      let same : cmp (key x) (key y) ≡ cmp k (key y) = total.congr (key x) k (key y) (tied (cmp (key x) k) at) in
      total.antisymm (key y) k ∙ ap ordering_reverse (sym same ∙ is_gt-true (cmp (key x) (key y)) after)

  -- so many stand before a row
  place_is : (k : K) (xs : List X) (i : ℕ) (x : X) → IsAscending cmp key xs → i < length xs → get_or xs i x ≡ x → is_at cmp key k x ≡ true → length (filter (is_before cmp key k) xs) ≡ i
  place_is k [] i x order within here at = absurd (omega arith)
  place_is k (y ∷ ys) zero x order within here at =
      let tie : cmp (key y) k ≡ Equal = tied (cmp (key y) k) (ap (is_at cmp key k) here ∙ at) in
      let later = follows_all cmp key total k (key y) ys (ap is_lt tie) order.0 in
      rw (ap is_lt tie, none_before cmp key total k ys later) refl
  place_is k (y ∷ ys) (suc i) x order within here at =
      let before : cmp (key y) k ≡ Less = is_earlier k x y at (all_at (λ z. is_gt (cmp (key z) (key y)) ≡ true) ys i x order.0 (omega arith) here) in
      rw (ap is_lt before) (ap suc (place_is k ys i x order.1 (omega arith) here at))

pub near_there : {A : Type 0} (k : Key) (xs : List (Row A)) (i : ℕ) (x : Row A) → IsAscending key_cmp row_key xs → i < length xs → get_or xs i x ≡ x → same_key (row_key x) k ≡ true → IsThere key_cmp row_key k xs i
near_there k xs i x order within here same =
    let at : is_row k x ≡ true = ap (λ j. is_eq (key_cmp (row_key x) j)) (same_is (row_key x) k same) ∙ ap is_eq (tied_itself key_total (row_key x)) in
    there_at key_cmp row_key key_total k xs i x order (sym (place_is key_cmp row_key key_total k xs i x order within here at)) within here at
