-- What is found in a table that gets another row at a key.
use Rattle.std.proofs.Common.{◌≡◌, Bool, true, false, List, [], ◌∷◌, ◌++◌, Option, Some, None, refl, sym, ◌∙◌, ap}
use Rattle.std.specs.Prelude.{filter, if◌then◌else◌, option_to_list}
use Rattle.std.specs.List.{find}
use Rattle.std.specs.declared.cmp.Ordering.{Ordering}
use Rattle.std.specs.declared.cmp.Ordering.TheVariants.{Less, Equal, Greater}
use Rattle.std.specs.Ordering.{is_lt, is_eq, is_gt}
use Rattle.std.specs.Cmp.{IsTotalOrder}
use Rattle.std.proofs.lemmas.Bool.{false≢true}
use Rattle.std.proofs.lemmas.Cmp.{tied_itself}
use Rattle.sorted_tables.specs.Table.{is_at, is_before, is_after, with_row}

-- what is found, else something else
abbrev pub else_found : {X : Type 0} → Option X → Option X → Option X
else_found (Some x) o = Some x
else_found None o = o

find-append : {X : Type 0} (p : X → Bool) (xs ys : List X) → find p (xs ++ ys) ≡ else_found (find p xs) (find p ys)
find-append p [] ys = refl
find-append p (x ∷ xs) ys = by (find-append p xs ys) (p x)
  where
    by : find p (xs ++ ys) ≡ else_found (find p xs) (find p ys) → (t : Bool) → (if t then Some x else find p (xs ++ ys)) ≡ else_found (if t then Some x else find p xs) (find p ys)
    by rest true = refl
    by rest false = rest

else_none : {X : Type 0} (o : Option X) → else_found o None ≡ o
else_none None = refl
else_none (Some x) = refl

-- a search in those that pass q, for what passes q as well, or what never does
pub find-kept : {X : Type 0} (p q : X → Bool) → ((x : X) → p x ≡ true → q x ≡ true) → (xs : List X) → find p (filter q xs) ≡ find p xs
find-kept p q pass [] = refl
find-kept {X = X} p q pass (x ∷ xs) = by (find-kept p q pass xs) (p x) refl (q x) refl
  where
    by : find p (filter q xs) ≡ find p xs → (t : Bool) → p x ≡ t → (u : Bool) → q x ≡ u → find p (if u then x ∷ filter q xs else filter q xs) ≡ (if t then Some x else find p xs)
    by rest true e true f = rw e refl
    by rest true e false f = absurd (false≢true (sym f ∙ pass x e))
    by rest false e true f = rw e rest
    by rest false e false f = rest

pub find-lost : {X : Type 0} (p q : X → Bool) → ((x : X) → q x ≡ true → p x ≡ false) → (xs : List X) → find p (filter q xs) ≡ None
find-lost p q fail [] = refl
find-lost {X = X} p q fail (x ∷ xs) = by (find-lost p q fail xs) (q x) refl
  where
    by : find p (filter q xs) ≡ None → (u : Bool) → q x ≡ u → find p (if u then x ∷ filter q xs else filter q xs) ≡ None
    by rest true f = rw (fail x f) rest
    by rest false f = rest

module _ {K X : Type 0} (cmp : K → K → Ordering) (key : X → K) (total : IsTotalOrder cmp) where
  -- what is at j is to k as j is
  at_same : (j k : K) (x : X) → is_at cmp key j x ≡ true → cmp (key x) k ≡ cmp j k
  at_same j k x e = by (cmp (key x) j) refl e
    where
      by : (t : Ordering) → cmp (key x) j ≡ t → is_eq t ≡ true → cmp (key x) k ≡ cmp j k
      by Less is h = cc
      by Equal is h = total.congr (key x) j k is
      by Greater is h = cc

  -- what isn't to k as j is isn't at j
  not_at : (j k : K) (x : X) (t : Ordering) → cmp (key x) k ≡ t → is_eq (cmp (key x) j) ≡ true → cmp j k ≡ t
  not_at j k x t e at = sym (at_same j k x at) ∙ e

  fails_at : (j k : K) (x : X) → (is_eq (cmp (key x) j) ≡ true → false ≡ true) → is_at cmp key j x ≡ false
  fails_at j k x never = by (is_at cmp key j x) refl
    where
      by : (t : Bool) → is_at cmp key j x ≡ t → t ≡ false
      by true e = absurd (false≢true (never e))
      by false e = refl

  row_lost : (j k : K) (row : Option X) → ((x : X) → row ≡ Some x → key x ≡ k) → is_eq (cmp j k) ≡ false → find (is_at cmp key j) (option_to_list row) ≡ None
  row_lost j k None keyed other = refl
  row_lost j k (Some x) keyed other =
      rw (fails_at j k x (λ at. sym other ∙ ap is_eq (sym (at_same j k x at)) ∙ ap (λ i. is_eq (cmp i k)) (keyed x refl) ∙ ap is_eq (tied_itself total k))) refl

  -- another key's row is found as before
  pub find_other : (j k : K) (row : Option X) (xs : List X) → ((x : X) → row ≡ Some x → key x ≡ k) → is_eq (cmp j k) ≡ false → find (is_at cmp key j) (with_row cmp key k row xs) ≡ find (is_at cmp key j) xs
  find_other j k row xs keyed other =
      find-append (is_at cmp key j) (before ++ option_to_list row) after
      ∙ ap (λ o. else_found o (find (is_at cmp key j) after)) (find-append (is_at cmp key j) before (option_to_list row) ∙ ap (else_found (find (is_at cmp key j) before)) (row_lost j k row keyed other) ∙ else_none (find (is_at cmp key j) before))
      ∙ by (cmp j k) refl
    where
      before : List X
      before = filter (is_before cmp key k) xs

      after : List X
      after = filter (is_after cmp key k) xs

      by : (t : Ordering) → cmp j k ≡ t → else_found (find (is_at cmp key j) before) (find (is_at cmp key j) after) ≡ find (is_at cmp key j) xs
      by Less e =
          let first = find-kept (is_at cmp key j) (is_before cmp key k) (λ x at. ap is_lt (at_same j k x at ∙ e)) xs in
          let second = find-lost (is_at cmp key j) (is_after cmp key k) (λ x h. fails_at j k x (λ at. sym (ap is_gt (at_same j k x at ∙ e)) ∙ h)) xs in
          (λ i. else_found (first i) (second i)) ∙ else_none (find (is_at cmp key j) xs)
      by Equal e = absurd (false≢true (sym other ∙ ap is_eq e))
      by Greater e =
          let first = find-lost (is_at cmp key j) (is_before cmp key k) (λ x h. fails_at j k x (λ at. sym (ap is_lt (at_same j k x at ∙ e)) ∙ h)) xs in
          let second = find-kept (is_at cmp key j) (is_after cmp key k) (λ x at. ap is_gt (at_same j k x at ∙ e)) xs in
          λ i. else_found (first i) (second i)

  row_found : (k : K) (row : Option X) → ((x : X) → row ≡ Some x → key x ≡ k) → find (is_at cmp key k) (option_to_list row) ≡ row
  row_found k None keyed = refl
  row_found k (Some x) keyed = rw (ap (λ i. is_eq (cmp i k)) (keyed x refl) ∙ ap is_eq (tied_itself total k)) refl

  -- the row that it gets is found
  pub find_same : (k : K) (row : Option X) (xs : List X) → ((x : X) → row ≡ Some x → key x ≡ k) → find (is_at cmp key k) (with_row cmp key k row xs) ≡ row
  find_same k row xs keyed =
      let before = filter (is_before cmp key k) xs in
      let after = filter (is_after cmp key k) xs in
      let first = find-lost (is_at cmp key k) (is_before cmp key k) (λ x h. lower x (cmp (key x) k) refl h) xs in
      let last = find-lost (is_at cmp key k) (is_after cmp key k) (λ x h. higher x (cmp (key x) k) refl h) xs in
      find-append (is_at cmp key k) (before ++ option_to_list row) after
      ∙ (λ i. else_found (find-append (is_at cmp key k) before (option_to_list row) i) (last i))
      ∙ else_none (else_found (find (is_at cmp key k) before) (find (is_at cmp key k) (option_to_list row)))
      ∙ (λ i. else_found (first i) (row_found k row keyed i))
    where
      lower : (x : X) (t : Ordering) → cmp (key x) k ≡ t → is_lt t ≡ true → is_eq (cmp (key x) k) ≡ false
      lower x Less e h = ap is_eq e
      lower x Equal e h = cc
      lower x Greater e h = cc

      higher : (x : X) (t : Ordering) → cmp (key x) k ≡ t → is_gt t ≡ true → is_eq (cmp (key x) k) ≡ false
      higher x Less e h = cc
      higher x Equal e h = cc
      higher x Greater e h = ap is_eq e
