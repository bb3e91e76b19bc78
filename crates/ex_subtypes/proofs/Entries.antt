-- The place of each entity in a list that names it once.
use Rattle.std.proofs.Common.{◌≡◌, ℕ, zero, suc, ◌+◌, ◌<◌, true, false, ◌==◌, ◌&&◌, nat_lt, if◌then◌else◌, List, [], ◌∷◌, length, get_or, Option, Some, ⊎_elim, refl, sym, ◌∙◌, ap, arith}
use Rattle.std.proofs.lemmas.Bool.{cases_Bool, cases_order, eq-eqb, eqb-false, eqb-true, le-ltb, lt-ltb, ne_eqb}
use Rattle.std.proofs.lemmas.Bool.Decides.{nat_tests}
use Rattle.std.proofs.lemmas.List.Folds.{list_any_at}
use Rattle.std.specs.Ordering.{is_eq, nat_cmp}
use Rattle.plain_data.specs.Numbers.{is_among}
use Rattle.ex_subtypes.specs.Combinations.{is_distinct}
use Rattle.ex_subtypes.specs.Edges.{is_that}
use Rattle.ex_subtypes.proofs.Joins.{new_head}

pub has_at : (xs : List ℕ) (k : ℕ) → k < length xs → is_among xs (get_or xs k 0) ≡ true
has_at xs k within = list_any_at (λ n. n == get_or xs k 0) xs k 0 within (eq-eqb (get_or xs k 0) (get_or xs k 0) refl)

apart : (xs : List ℕ) → is_distinct xs ≡ true → (i j : ℕ) → i < j → j < length xs → get_or xs i 0 ≡ get_or xs j 0 → ⊥
apart [] once i j less within same = absurd (omega arith)
apart (x ∷ xs) once i zero less within same = absurd (omega arith)
apart (x ∷ xs) once zero (suc j) less within same =
    let new = new_head x xs once in
    let there : is_among xs x ≡ true = ap (is_among xs) same ∙ has_at xs j (omega arith) in
    let absent : is_among xs x ≡ false = new.0 in
    cc
apart (x ∷ xs) once (suc i) (suc j) less within same = apart xs (new_head x xs once).1 i j (omega arith) (omega arith) same

compared : (k x : ℕ) → is_eq (nat_cmp k x) ≡ (k == x)
compared k x = grind (arith, nat_tests)

module _ (named : List ℕ) (once : is_distinct named ≡ true) (place : ℕ) (within : place < length named) where
  -- the entity in this place stands in no other of the first places
  this_place : (k : ℕ) → (place == k) ≡ (nat_lt k (place + 1) && (get_or named place 0 == get_or named k 0))
  this_place k = ⊎_elim
      (λ (same : place ≡ k). rw (← same, eq-eqb place place refl, lt-ltb place (place + 1) (omega arith), eq-eqb (get_or named place 0) (get_or named place 0) refl) refl)
      (λ either. ⊎_elim
      (λ (less : place < k). rw (ne_eqb place k (λ e. absurd (omega arith)), le-ltb k (place + 1) (omega arith)) refl)
      (λ (more : k < place). rw (ne_eqb place k (λ e. absurd (omega arith)), lt-ltb k (place + 1) (omega arith), ne_eqb (get_or named place 0) (get_or named k 0) (λ e. apart named once k place more within (sym e))) refl)
      either)
      (cases_order place k)

  other_place : (n k : ℕ) → (get_or named place 0 == n) ≡ false → (nat_lt k place && (n == get_or named k 0)) ≡ (nat_lt k (place + 1) && (n == get_or named k 0))
  other_place n k other = ⊎_elim
      (λ (same : place ≡ k).
      let not_this : (n == get_or named place 0) ≡ false = ne_eqb n (get_or named place 0) (λ e. eqb-false (get_or named place 0) n other (sym e)) in
      rw (← same, le-ltb place place (omega arith), lt-ltb place (place + 1) (omega arith), not_this) refl)
      (λ either. ⊎_elim
      (λ (less : place < k). rw (le-ltb k place (omega arith), le-ltb k (place + 1) (omega arith)) refl)
      (λ (more : k < place). rw (lt-ltb k place more, lt-ltb k (place + 1) (omega arith)) refl)
      either)
      (cases_order place k)

  -- the entity in this place is put into a table of those before it
  pub entry_next : (n k : ℕ) (old new : Option ℕ) → new ≡ (if is_eq (nat_cmp (get_or named place 0) n) then Some place else old) → is_that old k ≡ (nat_lt k place && (n == get_or named k 0))
      → is_that new k ≡ (nat_lt k (place + 1) && (n == get_or named k 0))
  entry_next n k old new is so_far = ⊎_elim
      (λ (yes : (get_or named place 0 == n) ≡ true).
      let told : new ≡ Some place = is ∙ rw (compared (get_or named place 0) n, yes) refl in
      ap (λ o. is_that o k) told
      ∙ this_place k
      ∙ ap (λ m. nat_lt k (place + 1) && (m == get_or named k 0)) (eqb-true (get_or named place 0) n yes))
      (λ (no : (get_or named place 0 == n) ≡ false).
      let other : new ≡ old = is ∙ rw (compared (get_or named place 0) n, no) refl in
      ap (λ o. is_that o k) other
      ∙ so_far
      ∙ other_place n k no)
      (cases_Bool (get_or named place 0 == n))
