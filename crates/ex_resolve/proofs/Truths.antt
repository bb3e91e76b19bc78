-- Tests that all elements of a list pass.
use Rattle.std.proofs.Common.{◌≡◌, ℕ, suc, ◌<◌, Bool, true, false, cond, ◌&&◌, nat_lt, List, [], ◌∷◌, ◌++◌, map, Option, Some, Ok, refl, sym, ap, ◌∙◌}
use Rattle.std.proofs.lemmas.Bool.{lt-ltb}
use Rattle.std.specs.List.{filter, find, flat_map, list_all}
use Rattle.std.specs.Str.{bytes_eq}
use Rattle.name_tables.specs.Names.{named}
use Rattle.ex_named.specs.Outcomes.{Outcome}
use Rattle.ex_named.specs.Scopes.{first}
use Rattle.ex_resolve.proofs.Accepted.{GaveNumbered}
use Rattle.ex_resolve.proofs.Wholes.{Gave}

pub true_and : (a b : Bool) → a ≡ true → b ≡ true → (a && b) ≡ true
true_and true b ha hb = hb
true_and false b ha hb = absurd cc

pub and_true : (a b : Bool) → (a && b) ≡ true → (a ≡ true) × (b ≡ true)
and_true true b h = (refl, h)
and_true false b h = absurd cc

pub below : (k n : ℕ) → k < n → nat_lt k n ≡ true
below k n h = lt-ltb k n h

module _ {A : Type 0} (test : A → Bool) where
  pub all_append : (xs ys : List A) → list_all test xs ≡ true → list_all test ys ≡ true → list_all test (xs ++ ys) ≡ true
  all_append [] ys here there = there
  all_append (x ∷ xs) ys here there =
      let parts = and_true (test x) (list_all test xs) here in
      true_and (test x) (list_all test (xs ++ ys)) parts.0 (all_append xs ys parts.1 there)

  kept_if : (b : Bool) (x : A) (xs : List A) → test x ≡ true → list_all test xs ≡ true → list_all test (cond b (x ∷ xs) xs) ≡ true
  kept_if true x xs here there = true_and (test x) (list_all test xs) here there
  kept_if false x xs here there = there

  pub all_kept : (keep : A → Bool) (xs : List A) → list_all test xs ≡ true → list_all test (filter keep xs) ≡ true
  all_kept keep [] h = refl
  all_kept keep (x ∷ xs) h =
      let parts = and_true (test x) (list_all test xs) h in
      kept_if (keep x) x (filter keep xs) parts.0 (all_kept keep xs parts.1)

  pub first_in : (xs : List A) (a : A) → list_all test xs ≡ true → first xs ≡ Some a → test a ≡ true
  first_in [] a h is = absurd cc
  first_in (x ∷ xs) a h is = let e : x ≡ a = cc in ap test (sym e) ∙ (and_true (test x) (list_all test xs) h).0

  found_if : (b : Bool) (x a : A) (rest : Option A) → test x ≡ true → (rest ≡ Some a → test a ≡ true) → cond b (Some x) rest ≡ Some a → test a ≡ true
  found_if true x a rest here there h = let e : x ≡ a = cc in ap test (sym e) ∙ here
  found_if false x a rest here there h = there h

  pub found_in : (wanted : A → Bool) (xs : List A) (a : A) → list_all test xs ≡ true → find wanted xs ≡ Some a → test a ≡ true
  found_in wanted [] a h is = absurd cc
  found_in wanted (x ∷ xs) a h is =
      let parts = and_true (test x) (list_all test xs) h in
      found_if (wanted x) x a (find wanted xs) parts.0 (found_in wanted xs a parts.1) is

  -- what stands beside a name
  beside_if : (b : Bool) (row : List ℕ × A) (rows : List (List ℕ × A)) → test row.1 ≡ true → list_all test (map (λ r. r.1) rows) ≡ true
      → list_all test (map (λ r. r.1) (cond b (row ∷ rows) rows)) ≡ true
  beside_if true row rows here there = true_and (test row.1) _ here there
  beside_if false row rows here there = there

  pub all_named : (n : List ℕ) (rows : List (List ℕ × A)) → list_all (λ row. test row.1) rows ≡ true → list_all test (named n rows) ≡ true
  all_named n [] h = refl
  all_named n (row ∷ rows) h =
      let parts = and_true (test row.1) (list_all (λ r. test r.1) rows) h in
      beside_if (bytes_eq row.0 n) row (filter (λ r. bytes_eq r.0 n) rows) parts.0 (all_named n rows parts.1)

-- ---- what each of a list gave

pub all_gave : {A B : Type 0} (bind : A → Outcome B) (test : B → Bool) → ((x : A) (y : B) → bind x ≡ Ok y → test y ≡ true)
    → (xs : List A) (ys : List B) → Gave bind xs ys → list_all test ys ≡ true
all_gave bind test holds [] [] h = refl
all_gave bind test holds [] (y ∷ ys) h = absurd h
all_gave bind test holds (x ∷ xs) [] h = absurd h
all_gave bind test holds (x ∷ xs) (y ∷ ys) h = true_and (test y) (list_all test ys) (holds x y h.0) (all_gave bind test holds xs ys h.1)

pub all_gave_numbered : {A B : Type 0} (bind : ℕ → A → Outcome B) (test : B → Bool) → ((k : ℕ) (x : A) (y : B) → bind k x ≡ Ok y → test y ≡ true)
    → (k : ℕ) (xs : List A) (ys : List B) → GaveNumbered bind k xs ys → list_all test ys ≡ true
all_gave_numbered bind test holds k [] [] h = refl
all_gave_numbered bind test holds k [] (y ∷ ys) h = absurd h
all_gave_numbered bind test holds k (x ∷ xs) [] h = absurd h
all_gave_numbered bind test holds k (x ∷ xs) (y ∷ ys) h = true_and (test y) (list_all test ys) (holds k x y h.0) (all_gave_numbered bind test holds (suc k) xs ys h.1)

-- the same of parts of a tree: `part` is one, `meaning` what it stands for, and `read` what is read of what it gave
pub all_parts : {X A B C D : Type 0} (part : X → A) (meaning : A → B) (bind : B → Outcome C) (read : C → D) (test : D → Bool)
    → ((x : X) (y : C) → bind (meaning (part x)) ≡ Ok y → test (read y) ≡ true)
    → (xs : List X) (ys : List C) → Gave bind (map meaning (map part xs)) ys → list_all test (map read ys) ≡ true
all_parts part meaning bind read test holds [] [] h = refl
all_parts part meaning bind read test holds [] (y ∷ ys) h = absurd h
all_parts part meaning bind read test holds (x ∷ xs) [] h = absurd h
all_parts part meaning bind read test holds (x ∷ xs) (y ∷ ys) h =
    true_and (test (read y)) (list_all test (map read ys)) (holds x y h.0) (all_parts part meaning bind read test holds xs ys h.1)

-- what is read of each that was found is read of what it was found for
pub gave_flat_map : {A B C : Type 0} (bind : A → Outcome B) (f : B → List C) (g : A → List C) → ((x : A) (y : B) → bind x ≡ Ok y → f y ≡ g x)
    → (xs : List A) (ys : List B) → Gave bind xs ys → flat_map f ys ≡ flat_map g xs
gave_flat_map bind f g same [] [] h = refl
gave_flat_map bind f g same [] (y ∷ ys) h = absurd h
gave_flat_map bind f g same (x ∷ xs) [] h = absurd h
gave_flat_map bind f g same (x ∷ xs) (y ∷ ys) h = ap (λ l. l ++ flat_map f ys) (same x y h.0) ∙ ap (λ l. g x ++ l) (gave_flat_map bind f g same xs ys h.1)
