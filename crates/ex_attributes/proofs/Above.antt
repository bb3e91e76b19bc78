-- The entities above some, as a set.
use Rattle.std.proofs.Common.{◌≡◌, ℕ, ◌+◌, ◌<◌, Bool, true, false, not, ◌==◌, ◌&&◌, ◌||◌, List, length, drop, get_or, refl, sym, ◌∙◌, ap, arith}
use Rattle.std.proofs.lemmas.Bool.Decides.{nat_tests}
use Rattle.plain_data.specs.Numbers.{is_among}
use Rattle.plain_data.proofs.Numbers.{is_among-drop}

with_one : (a n found rest : Bool) → (a ≡ true → n ≡ true) → ((a || found) || (n && rest)) ≡ (found || (n && (a || rest)))
with_one false n found rest h = refl
with_one true n true rest h = refl
with_one true n false rest h = rw (h refl) refl

without_one : (a n found rest : Bool) → (a ≡ true → n ≡ false) → (found || (n && rest)) ≡ (found || (n && (a || rest)))
without_one false n found rest h = refl
without_one true n found rest h = rw (h refl) refl

another : (entity x k : ℕ) → (x == entity) ≡ false → (x == k) ≡ true → not (entity == k) ≡ true
another entity x k apart is = grind (arith, nat_tests)

the_same : (entity x k : ℕ) → (x == entity) ≡ true → (x == k) ≡ true → not (entity == k) ≡ false
the_same entity x k one is = grind (arith, nat_tests)

module _ (entity i : ℕ) (numbers found : List ℕ) (k : ℕ) (within : i < length numbers) where
  -- one that is put in
  pub inserted_next : (more : List ℕ) → (get_or numbers i 0 == entity) ≡ false → is_among more k ≡ ((get_or numbers i 0 == k) || is_among found k)
      → (is_among more k || (not (entity == k) && is_among (drop (i + 1) numbers) k)) ≡ (is_among found k || (not (entity == k) && is_among (drop i numbers) k))
  inserted_next more apart is =
      let x = get_or numbers i 0 in
      ap (λ b. b || (not (entity == k) && is_among (drop (i + 1) numbers) k)) is
      ∙ with_one (x == k) (not (entity == k)) (is_among found k) (is_among (drop (i + 1) numbers) k) (another entity x k apart)
      ∙ ap (λ b. is_among found k || (not (entity == k) && b)) (sym (is_among-drop i k numbers within))

  -- the entity itself is left out
  pub left_out_next : (get_or numbers i 0 == entity) ≡ true
      → (is_among found k || (not (entity == k) && is_among (drop (i + 1) numbers) k)) ≡ (is_among found k || (not (entity == k) && is_among (drop i numbers) k))
  left_out_next one =
      let x = get_or numbers i 0 in
      without_one (x == k) (not (entity == k)) (is_among found k) (is_among (drop (i + 1) numbers) k) (the_same entity x k one)
      ∙ ap (λ b. is_among found k || (not (entity == k) && b)) (sym (is_among-drop i k numbers within))
