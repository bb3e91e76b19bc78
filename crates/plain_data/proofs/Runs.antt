-- Elements in the order of a number that each has: those of one number, found by halving twice.
use Rattle.std.proofs.Common.{◌≡◌, ℕ, zero, suc, ◌≤◌, ◌==◌, Bool, true, false, List, [], ◌∷◌, length, take, drop, leb, ltb, refl, sym, ◌∙◌, ap, arith}
use Rattle.std.specs.Prelude.{filter, not}
use Rattle.std.specs.List.Sorted.{IsPartitionPoint}
use Rattle.std.proofs.lemmas.Bool.Decides.{nat_tests}

fails : {X : Type 0} (p : X → Bool) (xs : List X) → IsPartitionPoint (λ y. p y ≡ true) (λ y. p y ≡ false) xs 0 → filter p xs ≡ []
fails p [] point = refl
fails p (x ∷ xs) point =
    let first : p x ≡ false = point.1 0 x (omega arith) (omega arith) in
    rw first (fails p xs (λ k d _ h. absurd (omega arith), λ k d _ h. point.1 (suc k) d (omega arith) (omega arith)))

-- what stands before the place between those that pass and those that fail
point_takes : {X : Type 0} (p : X → Bool) (xs : List X) (i : ℕ) → i ≤ length xs → IsPartitionPoint (λ y. p y ≡ true) (λ y. p y ≡ false) xs i → take i xs ≡ filter p xs
point_takes p [] zero within point = refl
point_takes p [] (suc i) within point = absurd (omega arith)
point_takes p (x ∷ xs) zero within point = sym (fails p (x ∷ xs) point)
point_takes p (x ∷ xs) (suc i) within point =
    let passes : p x ≡ true = point.0 0 x (omega arith) (omega arith) in
    rw passes (ap (λ ys. x ∷ ys) (point_takes p xs i (omega arith) (λ k d _ h. point.0 (suc k) d (omega arith) (omega arith), λ k d h g. point.1 (suc k) d (omega arith) (omega arith))))

-- what stands from there on
point_drops : {X : Type 0} (p : X → Bool) (xs : List X) (i : ℕ) → i ≤ length xs → IsPartitionPoint (λ y. p y ≡ true) (λ y. p y ≡ false) xs i → drop i xs ≡ filter (λ y. not (p y)) xs
point_drops p [] zero within point = refl
point_drops p [] (suc i) within point = absurd (omega arith)
point_drops p (x ∷ xs) zero within point =
    let first : p x ≡ false = point.1 0 x (omega arith) (omega arith) in
    rw first (ap (λ ys. x ∷ ys) (point_drops p xs 0 (omega arith) (λ k d _ h. absurd (omega arith), λ k d _ h. point.1 (suc k) d (omega arith) (omega arith))))
point_drops p (x ∷ xs) (suc i) within point =
    let passes : p x ≡ true = point.0 0 x (omega arith) (omega arith) in
    rw passes (point_drops p xs i (omega arith) (λ k d _ h. point.0 (suc k) d (omega arith) (omega arith), λ k d h g. point.1 (suc k) d (omega arith) (omega arith)))

module _ {X : Type 0} (n : X → ℕ) where
  -- those of one number, found by halving twice
  same_number : (e : ℕ) (xs : List X) → filter (λ x. leb (n x) e) (filter (λ x. not (ltb (n x) e)) xs) ≡ filter (λ x. e == n x) xs
  same_number e [] = refl
  same_number e (x ∷ xs) = grind (arith, nat_tests, same_number e xs)

  pub run : (e : ℕ) (xs : List X) (start end : ℕ) → start ≤ length xs → IsPartitionPoint (λ x. ltb (n x) e ≡ true) (λ x. ltb (n x) e ≡ false) xs start → end ≤ length (drop start xs) → IsPartitionPoint (λ x. leb (n x) e ≡ true) (λ x. leb (n x) e ≡ false) (drop start xs) end → take end (drop start xs) ≡ filter (λ x. e == n x) xs
  run e xs start end within before inside behind =
      point_takes (λ x. leb (n x) e) (drop start xs) end inside behind ∙ ap (filter (λ x. leb (n x) e)) (point_drops (λ x. ltb (n x) e) xs start within before) ∙ same_number e xs
