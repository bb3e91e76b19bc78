-- Rows of a table that are put one by one behind all others.
use Rattle.std.proofs.Common.{◌≡◌, Bool, true, false, List, [], ◌∷◌, ◌++◌, Some, None, refl, sym, ◌∙◌, ap, subst, append_assoc, append-nil}
use Rattle.std.specs.Prelude.{filter}
use Rattle.std.specs.List.{find, AllByRecursion}
use Rattle.std.specs.declared.cmp.Ordering.{Ordering}
use Rattle.std.specs.declared.cmp.Ordering.TheVariants.{Less, Equal, Greater}
use Rattle.std.specs.Ordering.{is_lt, is_eq, is_gt, ordering_reverse}
use Rattle.std.specs.Cmp.{IsTotalOrder}
use Rattle.sorted_tables.specs.Table.{is_at, is_before, is_after, with_row, IsAscending}
use Rattle.sorted_tables.proofs.Ascending.{is_gt-true}

pub is_lt-true : (t : Ordering) → is_lt t ≡ true → t ≡ Less
is_lt-true Less h = refl
is_lt-true Equal h = cc
is_lt-true Greater h = cc

-- ---- lists of which all pass a test, or none

pub all_stay : {X : Type 0} (p : X → Bool) (xs : List X) → AllByRecursion (λ x. p x ≡ true) xs → filter p xs ≡ xs
all_stay p [] all = refl
all_stay p (x ∷ xs) all = rw all.0 (ap (λ ys. x ∷ ys) (all_stay p xs all.1))

pub none_stay : {X : Type 0} (p : X → Bool) (xs : List X) → AllByRecursion (λ x. p x ≡ false) xs → filter p xs ≡ []
none_stay p [] all = refl
none_stay p (x ∷ xs) all = rw all.0 (none_stay p xs all.1)

pub none_found : {X : Type 0} (p : X → Bool) (xs : List X) → AllByRecursion (λ x. p x ≡ false) xs → find p xs ≡ None
none_found p [] all = refl
none_found p (x ∷ xs) all = rw all.0 (none_found p xs all.1)

pub each : {X : Type 0} (P Q : X → Type 0) (weaker : (x : X) → P x → Q x) (xs : List X) → AllByRecursion P xs → AllByRecursion Q xs
each P Q weaker [] all = tt
each P Q weaker (x ∷ xs) all = (weaker x all.0, each P Q weaker xs all.1)

-- what holds of all holds of one among them
pub among : {X : Type 0} (P : X → Type 0) (xs : List X) (y : X) (ys : List X) → AllByRecursion P (xs ++ (y ∷ ys)) → P y
among P [] y ys all = all.0
among P (x ∷ xs) y ys all = among P xs y ys all.1

-- ---- tables

module _ {K X : Type 0} (cmp : K → K → Ordering) (key : X → K) where
  -- the row stands under its key from now on
  abbrev pub put : X → List X → List X
  put x = with_row cmp key (key x) (Some x)

  abbrev pub all_put : List X → List X → List X
  all_put [] xs = xs
  all_put (y ∷ ys) xs = all_put ys (put y xs)

  abbrev pub AreBefore : K → List X → Type 0
  AreBefore k = AllByRecursion (λ x. is_before cmp key k x ≡ true)

  pub not_there : (k : K) (xs : List X) → AreBefore k xs → find (is_at cmp key k) xs ≡ None
  not_there k xs all =
      none_found (is_at cmp key k) xs (each (λ x. is_before cmp key k x ≡ true) (λ x. is_at cmp key k x ≡ false) (λ x less. ap is_eq (is_lt-true (cmp (key x) k) less)) xs all)

  not_after : (k : K) (xs : List X) → AreBefore k xs → filter (is_after cmp key k) xs ≡ []
  not_after k xs all =
      none_stay (is_after cmp key k) xs (each (λ x. is_before cmp key k x ≡ true) (λ x. is_after cmp key k x ≡ false) (λ x less. ap is_gt (is_lt-true (cmp (key x) k) less)) xs all)

  pub put_behind : (y : X) (xs : List X) → AreBefore (key y) xs → put y xs ≡ xs ++ (y ∷ [])
  put_behind y xs all =
      let stay = all_stay (is_before cmp key (key y)) xs all in
      let gone = not_after (key y) xs all in
      (λ i. stay i ++ (y ∷ []) ++ gone i) ∙ append-nil (xs ++ (y ∷ []))

  module _ (total : IsTotalOrder cmp) where
    -- those that stand before a row in a table in order
    pub are_before : (xs : List X) (y : X) (ys : List X) → IsAscending cmp key (xs ++ (y ∷ ys)) → AreBefore (key y) xs
    are_before [] y ys order = tt
    are_before (x ∷ xs) y ys order =
        let after : cmp (key y) (key x) ≡ Greater = is_gt-true (cmp (key y) (key x)) (among (λ z. is_after cmp key (key x) z ≡ true) xs y ys order.0) in
        (ap is_lt (total.antisymm (key x) (key y) ∙ ap ordering_reverse after), are_before xs y ys order.1)

    pub put_next : (xs : List X) (y : X) (ys : List X) → IsAscending cmp key (xs ++ (y ∷ ys)) → put y xs ++ ys ≡ xs ++ (y ∷ ys)
    put_next xs y ys order = ap (λ zs. zs ++ ys) (put_behind y xs (are_before xs y ys order)) ∙ append_assoc xs (y ∷ []) ys

    pub all_put_behind : (xs ys : List X) → IsAscending cmp key (xs ++ ys) → all_put ys xs ≡ xs ++ ys
    all_put_behind xs [] order = sym (append-nil xs)
    all_put_behind xs (y ∷ ys) order =
        let next = put_next xs y ys order in
        all_put_behind (put y xs) ys (subst (IsAscending cmp key) (sym next) order) ∙ next
