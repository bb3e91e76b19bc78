-- How many rows pass a test after a row is put in or taken out.
use Rattle.std.proofs.Common.{◌≡◌, ◌≤◌, ◌+◌, ℕ, suc, Bool, true, false, List, [], ◌∷◌, ◌++◌, length, length-append, Some, None, refl, ◌∙◌, ap, arith}
use Rattle.std.specs.Prelude.{filter, if◌then◌else◌}
use Rattle.std.specs.List.{find}
use Rattle.std.specs.declared.cmp.Ordering.{Ordering}
use Rattle.std.specs.declared.cmp.Ordering.TheVariants.{Less, Equal, Greater}
use Rattle.std.specs.Ordering.{is_lt, is_eq, is_gt}
use Rattle.std.proofs.lemmas.List.Elements.{filter-append}
use Rattle.sorted_tables.specs.Table.{is_at, is_before, is_after, with_row}

-- all rows are counted by a test that each passes
abbrev pub every : {X : Type 0} → X → Bool
every x = true

pub count_every : {X : Type 0} (xs : List X) → length (filter every xs) ≡ length xs
count_every [] = refl
count_every (x ∷ xs) = ap suc (count_every xs)

module _ {K X : Type 0} (cmp : K → K → Ordering) (key : X → K) (p : X → Bool) where
  abbrev count : List X → ℕ
  count xs = length (filter p xs)

  three_parts : (k : K) (xs : List X) → count (filter (is_before cmp key k) xs) + (count (filter (is_at cmp key k) xs) + count (filter (is_after cmp key k) xs)) ≡ count xs
  three_parts k [] = refl
  three_parts k (x ∷ xs) = by (three_parts k xs) (cmp (key x) k) refl
    where
      by : count (filter (is_before cmp key k) xs) + (count (filter (is_at cmp key k) xs) + count (filter (is_after cmp key k) xs)) ≡ count xs → (t : Ordering) → cmp (key x) k ≡ t
          → count (filter (is_before cmp key k) (x ∷ xs)) + (count (filter (is_at cmp key k) (x ∷ xs)) + count (filter (is_after cmp key k) (x ∷ xs))) ≡ count (x ∷ xs)
      by rest Less e = grind (arith, ap is_lt e, ap is_eq e, ap is_gt e)
      by rest Equal e = grind (arith, ap is_lt e, ap is_eq e, ap is_gt e)
      by rest Greater e = grind (arith, ap is_lt e, ap is_eq e, ap is_gt e)

  found_counts : (k : K) (x : X) (xs : List X) → find (is_at cmp key k) xs ≡ Some x → p x ≡ true → 1 ≤ count (filter (is_at cmp key k) xs)
  found_counts k x [] found passes = cc
  found_counts k x (y ∷ ys) found passes = by (found_counts k x ys) (is_at cmp key k y) refl found
    where
      by : (find (is_at cmp key k) ys ≡ Some x → p x ≡ true → 1 ≤ count (filter (is_at cmp key k) ys)) → (t : Bool) → is_at cmp key k y ≡ t → (if t then Some y else find (is_at cmp key k) ys) ≡ Some x → 1 ≤ count (filter (is_at cmp key k) (y ∷ ys))
      by rest true e f = let same : y ≡ x = cc in let here : p y ≡ true = ap p same ∙ passes in rw (e, here) (omega arith)
      by rest false e f = let there = rest f passes in rw e there

  count_of_three : (xs ys zs : List X) → count (xs ++ ys ++ zs) ≡ count xs + (count ys + count zs)
  count_of_three xs ys zs = simp (filter-append, length-append) (grind arith)

  pub count-with_row : (k : K) (row : X) (xs : List X) → count (with_row cmp key k (Some row) xs) ≤ count (row ∷ []) + count xs
  count-with_row k row xs =
      let all = count_of_three (filter (is_before cmp key k) xs) (row ∷ []) (filter (is_after cmp key k) xs) in
      let parts = three_parts k xs in
      omega (arith, all, parts)

  pub count-without : (k : K) (xs : List X) → count (with_row cmp key k None xs) ≤ count xs
  count-without k xs =
      let all = count_of_three (filter (is_before cmp key k) xs) [] (filter (is_after cmp key k) xs) in
      let parts = three_parts k xs in
      omega (arith, all, parts)

  -- in the place of one that passes as it does
  pub count-replaced : (k : K) (row x : X) (xs : List X) → find (is_at cmp key k) xs ≡ Some x → p x ≡ p row → count (with_row cmp key k (Some row) xs) ≤ count xs
  count-replaced k row x xs found same = by (p row) refl
    where
      by : (t : Bool) → p row ≡ t → count (with_row cmp key k (Some row) xs) ≤ count xs
      by true e =
          let one : count (row ∷ []) ≡ 1 = rw e refl in
          let there = found_counts k x xs found (same ∙ e) in
          let all = count_of_three (filter (is_before cmp key k) xs) (row ∷ []) (filter (is_after cmp key k) xs) in
          let parts = three_parts k xs in
          omega (arith, all, parts, there, one)
      by false e =
          let none : count (row ∷ []) ≡ 0 = rw e refl in
          let more = count-with_row k row xs in
          omega (arith, none, more)
