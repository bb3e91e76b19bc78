-- Rows in the order of their names: what comes before a name, and the first row of it.
use Rattle.std.proofs.Common.{Bor, slice_get, ◌≡◌, ℕ, zero, suc, ◌+◌, ◌<◌, ◌≤◌, Bool, true, false, not, ◌&&◌, List, [], ◌∷◌, filter, length, Option, Some, None, get_or, nat_lt, refl, sym, subst, ◌∙◌, ap, arith, if◌then◌else◌}
use denote.Param.Members.{Mut}
use Rattle.std.specs.Fn.{Called, ComparesAs}
use Rattle.std.proofs.lemmas.Fn.{always_returns_same}
use Rattle.std.specs.Cmp.{IsTotalOrder}
use Rattle.std.specs.Cmp.Lexicographic.{on_texts}
use Rattle.std.specs.List.{find}
use Rattle.std.proofs.lemmas.List.Sums.{length-filter}
use Rattle.std.specs.List.Sorted.{IsStableBy, IsNonDecreasingBy, IsPartitionPoint, IsPartitionedBy, IsPermutation, IsSortedByClosure, IsStableByClosure, ties}
use Rattle.std.specs.Option.{option_map, option_and_then}
use Rattle.std.proofs.lemmas.Option.{slice_get-get_or, get_or_from_slice_get, slice_get_within, none-some}
use Rattle.std.specs.Ordering.{is_lt, is_eq, ordering_index, ordering_reverse}
use Rattle.std.specs.Str.{bytes_eq}
use Rattle.std.specs.declared.cmp.Ordering.{Ordering}
use Rattle.std.specs.declared.cmp.Ordering.TheVariants.{Less, Equal, Greater}
use Rattle.std.proofs.lemmas.List.Sorted.{searchable_from_sorted, IsPartitionedBy-ltb, ranks_by, sum_by-IsPermutation}
use Rattle.std.proofs.lemmas.Map.Text.{is_eq-slice_cmp}
use Rattle.plain_data.specs.Numbers.{numbered_from}
use Rattle.plain_data.proofs.Orderings.{is_less, not_equal_after, not_equal_before}
use Rattle.name_tables.specs.Names.{place_of}
use Rattle.name_tables.specs.Order.{by_bytes, Rows, IsAscending, is_before, rows_before, rank, number_of}

pub name_order : IsTotalOrder by_bytes
name_order = on_texts (λ n. n)

-- ---- rows that stand apart in no order

tie_of : (o : Ordering) → (not (is_lt (ordering_reverse o)) && not (is_lt o)) ≡ is_eq o
tie_of Less = refl
tie_of Equal = refl
tie_of Greater = refl

is_tie : (a b : List ℕ) → (not (is_lt (by_bytes a b)) && not (is_lt (by_bytes b a))) ≡ bytes_eq b a
is_tie a b = ap (λ o. not (is_lt o) && not (is_lt (by_bytes b a))) (name_order.antisymm a b) ∙ tie_of (by_bytes b a) ∙ is_eq-slice_cmp b a

find_first : {X : Type 0} (p : X → Bool) (xs : List X) → find p xs ≡ find (λ _. true) (filter p xs)
find_first p [] = refl
find_first p (x ∷ xs) = elim (p x) as (λ b. (if b then Some x else find p xs) ≡ find (λ _. true) (if b then x ∷ filter p xs else filter p xs)) [ true ↦ refl | false ↦ find_first p xs ]

abbrev pub comes_before : List ℕ × ℕ → List ℕ × ℕ → Bool
comes_before a b = is_lt (by_bytes a.0 b.0)

found_again : (name : List ℕ) (xs ys : Rows) → IsStableBy comes_before xs ys → number_of name ys ≡ number_of name xs
found_again name xs ys stable =
    let is_name = λ (r : List ℕ × ℕ). bytes_eq r.0 name in
    let test : ties comes_before (name, 0) ≡ is_name = λ i r. is_tie name r.0 i in
    ap (option_map (λ r. r.1)) (find_first is_name ys ∙ ap (λ t. find (λ _. true) (filter t ys)) (sym test) ∙ ap (find (λ _. true)) (stable (name, 0)) ∙ ap (λ t. find (λ _. true) (filter t xs)) test ∙ sym (find_first is_name xs))

first_from : (name : List ℕ) (names : List (List ℕ)) (start : ℕ) → number_of name (numbered_from (λ number n. (n, number)) start names) ≡ option_map (λ place. place + start) (place_of name names)
first_from name [] start = refl
first_from name (n ∷ names) start = grind (arith, first_from name names (suc start))

pub first_of_sorted : (name : List ℕ) (names : List (List ℕ)) (ys : Rows) → IsStableBy comes_before (numbered_from (λ number n. (n, number)) 0 names) ys → number_of name ys ≡ place_of name names
first_of_sorted name names ys stable = found_again name _ ys stable ∙ first_from name names 0 ∙ grind arith

-- ---- how many pass a test, in any order

counted_again : {X : Type 0} (p : X → Bool) (xs ys : List X) → IsPermutation xs ys → length (filter p ys) ≡ length (filter p xs)
counted_again p xs ys same = length-filter p ys ∙ sum_by-IsPermutation (λ x. if p x then 1 else 0) xs ys same ∙ sym (length-filter p xs)

before_numbered : (name : List ℕ) (names : List (List ℕ)) (start : ℕ) → rows_before (numbered_from (λ number n. (n, number)) start names) name ≡ rank names name
before_numbered name [] start = refl
before_numbered name (n ∷ names) start = elim (is_lt (by_bytes n name)) as (λ b. length (if b then (n, start) ∷ filter (is_before name) (numbered_from (λ number m. (m, number)) (suc start) names) else filter (is_before name) (numbered_from (λ number m. (m, number)) (suc start) names)) ≡ length (if b then n ∷ filter (λ m. is_lt (by_bytes m name)) names else filter (λ m. is_lt (by_bytes m name)) names)) [
  | true ↦ ap suc (before_numbered name names (suc start))
  | false ↦ before_numbered name names (suc start)
]

pub ranked_in : (name : List ℕ) (names : List (List ℕ)) (ys : Rows) → IsPermutation (numbered_from (λ number n. (n, number)) 0 names) ys → rows_before ys name ≡ rank names name
ranked_in name names ys same = counted_again (is_before name) (numbered_from (λ number n. (n, number)) 0 names) ys same ∙ before_numbered name names 0

-- ---- what a sort by a closure gives, which compares names

abbrev pub Compared : {F : Type 0} → Mut F (Bor (List ℕ × ℕ) × (Bor (List ℕ × ℕ) × Unit {0})) Ordering → F → Type 0
Compared {F} g f = (a : Bor (List ℕ × ℕ) × (Bor (List ℕ × ℕ) × Unit {0})) (r : Ordering) (f' : F) → Called g f a r f' → (r ≡ by_bytes a.0.now.0 a.1.0.now.0) × (f' ≡ f)

compared_as : {F : Type 0} {g : Mut F (Bor (List ℕ × ℕ) × (Bor (List ℕ × ℕ) × Unit {0})) Ordering} {f : F} → Compared g f → ComparesAs g comes_before f
compared_as {g = g} {f = f} compared = always_returns_same g (λ a r. is_lt r ≡ comes_before a.0.now a.1.0.now) f (λ a r f' k. (ap is_lt (compared a r f' k).0, (compared a r f' k).1))

pub sorted_by : {F : Type 0} {g : Mut F (Bor (List ℕ × ℕ) × (Bor (List ℕ × ℕ) × Unit {0})) Ordering} {f : F} (ys : Rows) → IsSortedByClosure g f ys → Compared g f → IsAscending ys
sorted_by ys sorted compared = sorted comes_before (ranks_by name_order (λ r. r.0)) (compared_as compared)

pub stable_by : {F : Type 0} {g : Mut F (Bor (List ℕ × ℕ) × (Bor (List ℕ × ℕ) × Unit {0})) Ordering} {f : F} (xs ys : Rows) → IsStableByClosure g f xs ys → Compared g f → IsStableBy comes_before xs ys
stable_by xs ys stable compared = stable comes_before (ranks_by name_order (λ r. r.0)) (compared_as compared)

-- ---- what comes before a name

counted : {X : Type 0} (p : X → Bool) (xs : List X) (i : ℕ) → i ≤ length xs → ((k : ℕ) (d : X) → k < i → p (get_or xs k d) ≡ true)
    → ((k : ℕ) (d : X) → i ≤ k → k < length xs → p (get_or xs k d) ≡ false) → length (filter p xs) ≡ i
counted p [] zero within before after = refl
counted p [] (suc i) within before after = absurd (omega (arith, within))
counted p (x ∷ xs) zero within before after =
    rw (after 0 x (omega arith) (omega arith)) (counted p xs 0 (omega arith) (λ k d low. absurd (omega (arith, low))) (λ k d low high. after (suc k) d (omega arith) (omega (arith, high))))
counted p (x ∷ xs) (suc i) within before after =
    rw (before 0 x (omega arith)) (ap suc (counted p xs i (omega (arith, within)) (λ k d low. before (suc k) d (omega (arith, low))) (λ k d low high. after (suc k) d (omega (arith, low)) (omega (arith, high)))))

none_found : {X : Type 0} (t : X → Bool) (xs : List X) → ((k : ℕ) (d : X) → k < length xs → t (get_or xs k d) ≡ false) → find t xs ≡ None
none_found t [] fails = refl
none_found t (x ∷ xs) fails = rw (fails 0 x (omega arith)) (none_found t xs (λ k d within. fails (suc k) d (omega (arith, within))))

one_found : {X : Type 0} (t : X → Bool) (xs : List X) (i : ℕ) (x : X) → i < length xs → ((k : ℕ) (d : X) → k < i → t (get_or xs k d) ≡ false) → t (get_or xs i x) ≡ true → find t xs ≡ Some (get_or xs i x)
one_found t [] i x within fails holds = absurd (omega (arith, within))
one_found t (y ∷ xs) zero x within fails holds = rw holds refl
one_found t (y ∷ xs) (suc i) x within fails holds = rw (fails 0 y (omega arith)) (one_found t xs i x (omega (arith, within)) (λ k d low. fails (suc k) d (omega (arith, low))) holds)

apart_before : (a b : List ℕ) → is_lt (by_bytes a b) ≡ true → bytes_eq a b ≡ false
apart_before a b before = sym (is_eq-slice_cmp a b) ∙ not_equal_before (by_bytes a b) before

-- the number in a row, if it has this name
abbrev pub number_if : List ℕ → List ℕ × ℕ → Option ℕ
number_if name r = if bytes_eq r.0 name then Some r.1 else None

module _ (name : List ℕ) (rows : Rows) (ascending : IsAscending rows) where
  rises : IsNonDecreasingBy (λ (r : List ℕ × ℕ). ordering_index (by_bytes r.0 name)) rows
  rises = searchable_from_sorted name_order (λ (r : List ℕ × ℕ). r.0) rows name ascending

  pub parted : IsPartitionedBy (is_before name) rows
  parted = subst (λ t. IsPartitionedBy t rows) (λ i r. sym (is_less (by_bytes r.0 name)) i) (IsPartitionedBy-ltb (λ (r : List ℕ × ℕ). ordering_index (by_bytes r.0 name)) rows 1 rises)

  pub rank_is : (i : ℕ) → i ≤ length rows → IsPartitionPoint (λ y. is_before name y ≡ true) (λ y. is_before name y ≡ false) rows i → rows_before rows name ≡ i
  rank_is i within parts = counted (is_before name) rows i within (λ k d low. parts.0 k d (omega arith) low) (λ k d low high. parts.1 k d low high)

  module _ (i : ℕ) (within : i ≤ length rows) (parts : IsPartitionPoint (λ y. is_before name y ≡ true) (λ y. is_before name y ≡ false) rows i) where
    fails_before : (k : ℕ) (d : List ℕ × ℕ) → k < i → bytes_eq (get_or rows k d).0 name ≡ false
    fails_before k d low = apart_before (get_or rows k d).0 name (parts.0 k d (omega arith) low)

    pub found_at : (x : List ℕ × ℕ) → i < length rows → bytes_eq (get_or rows i x).0 name ≡ true → number_of name rows ≡ Some (get_or rows i x).1
    found_at x inside same = ap (option_map (λ r. r.1)) (one_found (λ r. bytes_eq r.0 name) rows i x inside fails_before same)

    pub none_at : ((x : List ℕ × ℕ) → i < length rows → bytes_eq (get_or rows i x).0 name ≡ false) → number_of name rows ≡ None
    none_at apart = ap (option_map (λ r. r.1)) (none_found (λ r. bytes_eq r.0 name) rows fails)
      where
        fails : (k : ℕ) (d : List ℕ × ℕ) → k < length rows → bytes_eq (get_or rows k d).0 name ≡ false
        fails k d inside = elim (nat_lt k i) as (λ t. nat_lt k i ≡ t → bytes_eq (get_or rows k d).0 name ≡ false) [
          | true ↦ λ low. fails_before k d (grind (arith, low))
          | false ↦ λ high. sym (is_eq-slice_cmp (get_or rows k d).0 name) ∙ not_equal_after (by_bytes (get_or rows i d).0 name) (by_bytes (get_or rows k d).0 name)
              (parts.1 i d (omega arith) (grind (arith, high))) (is_eq-slice_cmp (get_or rows i d).0 name ∙ apart d (grind (arith, high))) (rises i k d (grind (arith, high)) inside)
        ] refl

    -- what is beside the row there, if it has this name
    pub told : number_of name rows ≡ option_and_then (number_if name) (slice_get rows i)
    told = elim (slice_get rows i) as (λ o. slice_get rows i ≡ o → number_of name rows ≡ option_and_then (number_if name) o) [
      | None ↦ λ e. none_at (λ x inside. absurd (none-some (get_or rows i x) (sym e ∙ slice_get-get_or rows i x inside)))
      | Some r ↦ λ e. elim (bytes_eq r.0 name) as (λ t. bytes_eq r.0 name ≡ t → number_of name rows ≡ (if t then Some r.1 else None)) [
        | true ↦ λ same. found_at r (slice_get_within rows i r e) (rw (get_or_from_slice_get rows i r r e) same) ∙ ap (λ x. Some x.1) (get_or_from_slice_get rows i r r e)
        | false ↦ λ apart. none_at (λ x inside. rw (get_or_from_slice_get rows i r x e) apart)
      ] refl
    ] refl

    pub told_some : (row : List ℕ × ℕ) → i < length rows → row ≡ get_or rows i row → number_of name rows ≡ number_if name row
    told_some row inside is = told ∙ ap (option_and_then (number_if name)) (slice_get-get_or rows i row inside) ∙ ap (number_if name) (sym is)

    pub told_none : length rows ≤ i → number_of name rows ≡ None
    told_none beyond = none_at (λ x inside. absurd (omega (arith, beyond, inside)))
