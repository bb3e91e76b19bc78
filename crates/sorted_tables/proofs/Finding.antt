-- What a binary search finds in a list in the order of its keys, and what is done at its place.
use Rattle.std.proofs.Common.{◌≡◌, ℕ, ◌<◌, ◌≤◌, Bool, true, false, List, [], ◌∷◌, length, set, get_or, Some, None, is_some, refl, sym, ◌∙◌, ap, arith}
use Rattle.std.specs.Prelude.{not, slice_get}
use Rattle.std.specs.List.{find, insert, remove, AllByRecursion}
use Rattle.std.specs.declared.cmp.Ordering.{Ordering}
use Rattle.std.specs.declared.cmp.Ordering.TheVariants.{Less, Equal, Greater}
use Rattle.std.specs.Ordering.{is_lt, is_eq, is_gt}
use Rattle.std.specs.Cmp.{IsTotalOrder}
use Rattle.std.proofs.lemmas.List.Filters.{length-filter_both}
use Rattle.std.proofs.lemmas.Option.{slice_get-get_or, slice_get_past}
use Rattle.sorted_tables.specs.Table.{is_at, is_before, with_row, IsAscending}
use Rattle.sorted_tables.proofs.Searching.{at_place, chosen, replaced, absent_stays}
use Rattle.sorted_tables.proofs.Ascending.{follows_all, none_before, none_there, all_after, inserted, removed, with_row_ascends, with_none_ascends}
use Rattle.sorted_tables.specs.Places.{place_of, IsThere, IsAbsent}

-- this list is that one, and in order
pub record Becomes {K X : Type 0} (cmp : K → K → Ordering) (key : X → K) (xs ys : List X) : Type 0 where
  pub are : xs ≡ ys
  pub ascends : IsAscending cmp key xs

module _ {K X : Type 0} (cmp : K → K → Ordering) (key : X → K) (total : IsTotalOrder cmp) where
  -- ---- what a search finds

  stands : (k : K) (xs : List X) (i : ℕ) (x : X) → IsAscending cmp key xs → i ≡ place_of cmp key k xs → i < length xs → get_or xs i x ≡ x → find (is_at cmp key k) xs ≡ chosen (is_at cmp key k) (Some x)
  stands k xs i x order is within here =
      at_place cmp key total k xs order
      ∙ ap (λ n. chosen (is_at cmp key k) (slice_get xs n)) (sym is)
      ∙ ap (chosen (is_at cmp key k)) (slice_get-get_or xs i x within ∙ ap Some here)

  pub there_at : (k : K) (xs : List X) (i : ℕ) (x : X) → IsAscending cmp key xs → i ≡ place_of cmp key k xs → i < length xs → get_or xs i x ≡ x → is_at cmp key k x ≡ true → IsThere cmp key k xs i
  there_at k xs i x order is within here at =
      record { order = order; is = is; within = within; found = rw (stands k xs i x order is within here, at) refl }

  pub absent_at : (k : K) (xs : List X) (i : ℕ) (x : X) → IsAscending cmp key xs → i ≡ place_of cmp key k xs → i < length xs → get_or xs i x ≡ x → is_at cmp key k x ≡ false → IsAbsent cmp key k xs i
  absent_at k xs i x order is within here at =
      record { order = order; is = is; within = omega arith; none = rw (stands k xs i x order is within here, at) refl }

  pub absent_past : (k : K) (xs : List X) (i : ℕ) → IsAscending cmp key xs → i ≡ place_of cmp key k xs → length xs ≤ i → IsAbsent cmp key k xs i
  absent_past k xs i order is past =
      let before : X → Bool = is_before cmp key k in
      record {
        order = order;
        is = is;
        within = omega (arith, length-filter_both before (λ x. not (before x)) (λ x. refl) xs);
        none =
            at_place cmp key total k xs order
            ∙ ap (λ n. chosen (is_at cmp key k) (slice_get xs n)) (sym is)
            ∙ ap (chosen (is_at cmp key k)) (slice_get_past xs i past);
      }

  -- what is found under a key is what stands at its place
  pub found_is : (k : K) (xs : List X) (i : ℕ) (x : X) → IsThere cmp key k xs i → get_or xs i x ≡ x → find (is_at cmp key k) xs ≡ Some x
  found_is k xs i x there here = by (is_at cmp key k x) refl
    where
      at : find (is_at cmp key k) xs ≡ chosen (is_at cmp key k) (Some x)
      at = stands k xs i x there.order there.is there.within here

      by : (t : Bool) → is_at cmp key k x ≡ t → find (is_at cmp key k) xs ≡ Some x
      by true e = at ∙ rw e refl
      by false e =
          let none : find (is_at cmp key k) xs ≡ None = at ∙ rw e refl in
          let wrong : true ≡ false = sym there.found ∙ ap is_some none in
          cc

  -- ---- what is done there

  becomes : (xs ys : List X) → xs ≡ ys → IsAscending cmp key ys → Becomes cmp key xs ys
  becomes xs ys are order = record { are = are; ascends = rw are order }

  set_there : (x : X) (xs : List X) (i : ℕ) → IsThere cmp key (key x) xs i → set xs i x ≡ with_row cmp key (key x) (Some x) xs
  set_there x xs i there = ap (λ n. set xs n x) there.is ∙ replaced cmp key total (key x) x xs there.order there.found

  insert_absent : (x : X) (xs : List X) (i : ℕ) → IsAbsent cmp key (key x) xs i → insert xs i x ≡ with_row cmp key (key x) (Some x) xs
  insert_absent x xs i absent = ap (λ n. insert xs n x) absent.is ∙ inserted cmp key total (key x) x xs absent.order (ap is_some absent.none)

  remove_there : (k : K) (xs : List X) (i : ℕ) → IsThere cmp key k xs i → remove xs i ≡ with_row cmp key k None xs
  remove_there k xs i there = ap (remove xs) there.is ∙ removed cmp key total k xs there.order there.found

  pub put_there : (x : X) (xs ys : List X) (i : ℕ) → xs ≡ ys → IsThere cmp key (key x) ys i → Becomes cmp key (set xs i x) (with_row cmp key (key x) (Some x) ys)
  put_there x xs ys i same there =
      becomes (set xs i x) (with_row cmp key (key x) (Some x) ys) (ap (λ zs. set zs i x) same ∙ set_there x ys i there) (with_row_ascends cmp key total x ys there.order)

  pub put_absent : (x : X) (xs ys : List X) (i : ℕ) → xs ≡ ys → IsAbsent cmp key (key x) ys i → Becomes cmp key (insert xs i x) (with_row cmp key (key x) (Some x) ys)
  put_absent x xs ys i same absent =
      becomes (insert xs i x) (with_row cmp key (key x) (Some x) ys) (ap (λ zs. insert zs i x) same ∙ insert_absent x ys i absent) (with_row_ascends cmp key total x ys absent.order)

  pub taken_there : (k : K) (xs ys : List X) (i : ℕ) → xs ≡ ys → IsThere cmp key k ys i → Becomes cmp key (remove xs i) (with_row cmp key k None ys)
  taken_there k xs ys i same there =
      becomes (remove xs i) (with_row cmp key k None ys) (ap (λ zs. remove zs i) same ∙ remove_there k ys i there) (with_none_ascends cmp key total k ys there.order)

  pub taken_absent : (k : K) (xs : List X) (i : ℕ) → IsAbsent cmp key k xs i → xs ≡ with_row cmp key k None xs
  taken_absent k xs i absent = sym (absent_stays cmp key total k xs absent.order absent.none)

  -- what stands at a key, put there again
  pub stays : (k : K) (xs : List X) → IsAscending cmp key xs → with_row cmp key k (find (is_at cmp key k) xs) xs ≡ xs
  stays k [] order = refl
  stays k (x ∷ xs) order = by (stays k xs order.1) (cmp (key x) k) refl
    where
      later : is_lt (cmp (key x) k) ≡ false → AllByRecursion (λ y. is_gt (cmp (key y) k) ≡ true) xs
      later past = follows_all cmp key total k (key x) xs past order.0

      by : with_row cmp key k (find (is_at cmp key k) xs) xs ≡ xs → (t : Ordering) → cmp (key x) k ≡ t → with_row cmp key k (find (is_at cmp key k) (x ∷ xs)) (x ∷ xs) ≡ x ∷ xs
      by rest Less e = rw (ap is_lt e, ap is_gt e, ap is_eq e) (ap (λ ys. x ∷ ys) rest)
      by rest Equal e = rw (ap is_lt e, ap is_gt e, ap is_eq e, none_before cmp key total k xs (later (ap is_lt e)), all_after cmp key total k xs (later (ap is_lt e))) refl
      by rest Greater e =
          rw (ap is_lt e, ap is_gt e, ap is_eq e, none_before cmp key total k xs (later (ap is_lt e)), all_after cmp key total k xs (later (ap is_lt e)), none_there cmp key total k xs (later (ap is_lt e))) refl
