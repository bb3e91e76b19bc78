-- Where rows stand in a list in the order of their keys, told by the first of a key.
use Rattle.std.proofs.Common.{◌≡◌, ℕ, zero, suc, ◌+◌, ◌<◌, true, false, not, cond, Bool, List, [], ◌∷◌, length, get_or, Option, Some, None, is_some, refl, sym, ◌∙◌, ap, arith}
use Rattle.std.specs.Prelude.{filter, if◌then◌else◌}
use Rattle.std.specs.List.{find, position_or_len}
use Rattle.std.specs.Cmp.{IsTotalOrder}
use Rattle.std.specs.declared.cmp.Ordering.{Ordering}
use Rattle.std.specs.declared.cmp.Ordering.TheVariants.{Less, Equal, Greater}
use Rattle.std.specs.Ordering.{is_lt, is_eq, is_gt, ordering_reverse}
use Rattle.std.proofs.lemmas.Bool.{false≢true}
use Rattle.std.proofs.lemmas.List.Elements.{All-from_recursion}
use Rattle.std.proofs.lemmas.List.Sums.{position_or_len_is}
use Rattle.sorted_tables.specs.Table.{is_at, is_before, is_after, IsAscending}
use Rattle.sorted_tables.specs.Places.{IsThere, IsAbsent}
use Rattle.sorted_tables.proofs.Ascending.{follows_all, none_before, none_there, is_gt-true}

is_eq-true : (t : Ordering) → is_eq t ≡ true → t ≡ Equal
is_eq-true Less h = cc
is_eq-true Equal h = refl
is_eq-true Greater h = cc

-- where none passes
none_passes : {X : Type 0} (p : X → Bool) (xs : List X) → find p xs ≡ None → position_or_len p xs ≡ length xs
none_passes p [] none = refl
none_passes p (x ∷ xs) none = by (p x) (none_passes p xs) none
  where
    by : (t : Bool) → (find p xs ≡ None → position_or_len p xs ≡ length xs) → (if t then Some x else find p xs) ≡ None → cond (not t) (1 + position_or_len p xs) 0 ≡ suc (length xs)
    by true rest e = cc
    by false rest e = omega (arith, rest e)

module _ {K X : Type 0} (cmp : K → K → Ordering) (key : X → K) (total : IsTotalOrder cmp) (k : K) where
  -- what stands before one of the key isn't of it
  earlier : (x y : X) → is_after cmp key (key x) y ≡ true → is_at cmp key k y ≡ true → is_at cmp key k x ≡ false
  earlier x y after same =
      let equal : cmp (key y) k ≡ Equal = is_eq-true (cmp (key y) k) same in
      let greater : cmp (key y) (key x) ≡ Greater = is_gt-true (cmp (key y) (key x)) after in
      ap is_eq (total.antisymm (key x) k ∙ ap ordering_reverse (sym (total.congr (key y) k (key x) equal) ∙ greater))

  before : (xs : List X) → IsAscending cmp key xs → (at i : ℕ) (d : X) → at < length xs → is_at cmp key k (get_or xs at d) ≡ true → i < at → is_at cmp key k (get_or xs i d) ≡ false
  before [] order at i d within same less = absurd (omega arith)
  before (x ∷ xs) order zero i d within same less = absurd (omega arith)
  before (x ∷ xs) order (suc at) zero d within same less =
      earlier x (get_or xs at d) (All-from_recursion (λ y. is_after cmp key (key x) y ≡ true) xs order.0 at d (omega arith)) same
  before (x ∷ xs) order (suc at) (suc i) d within same less = before xs order.1 at i d (omega arith) same (omega arith)

  -- what is of the key stands where the first of it does
  pub found : (xs : List X) → IsAscending cmp key xs → (at : ℕ) (d : X) → at < length xs → is_at cmp key k (get_or xs at d) ≡ true → position_or_len (is_at cmp key k) xs ≡ at
  found xs order at d within same =
      position_or_len_is (is_at cmp key k) xs at d (omega arith) (λ i less. before xs order at i d within same less) (λ _. same)

  -- the first of the key stands behind those before it
  first_is : (xs : List X) → IsAscending cmp key xs → is_some (find (is_at cmp key k) xs) ≡ true → position_or_len (is_at cmp key k) xs ≡ length (filter (is_before cmp key k) xs)
  first_is [] order there = cc
  first_is (x ∷ xs) order there = by (first_is xs order.1) (cmp (key x) k) refl
    where
      by : (is_some (find (is_at cmp key k) xs) ≡ true → position_or_len (is_at cmp key k) xs ≡ length (filter (is_before cmp key k) xs)) → (t : Ordering) → cmp (key x) k ≡ t
          → position_or_len (is_at cmp key k) (x ∷ xs) ≡ length (filter (is_before cmp key k) (x ∷ xs))
      by rest Less e = rw (ap is_lt e, ap is_eq e) (omega (arith, rest (rw (ap is_eq e) at there)))
      by rest Equal e = rw (ap is_lt e, ap is_eq e, none_before cmp key total k xs (follows_all cmp key total k (key x) xs (ap is_lt e) order.0)) refl
      by rest Greater e =
          absurd (false≢true (rw (ap is_eq e, none_there cmp key total k xs (follows_all cmp key total k (key x) xs (ap is_lt e) order.0)) at there))

  pub there_first : (xs : List X) (place : ℕ) → IsThere cmp key k xs place → position_or_len (is_at cmp key k) xs ≡ place
  there_first xs place there = first_is xs there.order there.found ∙ sym there.is

  pub absent_last : (xs : List X) (place : ℕ) → IsAbsent cmp key k xs place → position_or_len (is_at cmp key k) xs ≡ length xs
  absent_last xs place absent = none_passes (is_at cmp key k) xs absent.none
