-- Places in ascending order: those before an end, found by halving.
use Rattle.std.proofs.Common.{◌≡◌, ℕ, zero, suc, ◌≤◌, Bool, true, false, not, List, [], ◌∷◌, length, take, drop, refl, ap, arith}
use Rattle.std.specs.Prelude.{filter}
use Rattle.std.specs.List.Sorted.{IsPartitionPoint}

module _ (p : ℕ → Bool) where
  abbrev Splits : List ℕ → ℕ → Type 0
  Splits xs i = IsPartitionPoint (λ y. p y ≡ true) (λ y. p y ≡ false) xs i

  fails : (xs : List ℕ) → Splits xs 0 → (filter p xs ≡ []) × (filter (λ y. not (p y)) xs ≡ xs)
  fails [] point = (refl, refl)
  fails (x ∷ xs) point =
      let first : p x ≡ false = point.1 0 x (omega arith) (omega arith) in
      let more = fails xs ((λ k d _ h. absurd (omega arith)), (λ k d _ h. point.1 (suc k) d (omega arith) (omega arith))) in
      (rw first more.0, rw first (ap (λ ys. x ∷ ys) more.1))

  -- what stands before the point passes, and the others don't
  pub halves : (xs : List ℕ) (i : ℕ) → i ≤ length xs → Splits xs i → (take i xs ≡ filter p xs) × (drop i xs ≡ filter (λ y. not (p y)) xs)
  halves xs zero within point = let all = fails xs point in (rw all.0 refl, rw all.1 refl)
  halves [] (suc i) within point = absurd (omega arith)
  halves (x ∷ xs) (suc i) within point =
      let passes : p x ≡ true = point.0 0 x (omega arith) (omega arith) in
      let more = halves xs i (omega arith) ((λ k d _ h. point.0 (suc k) d (omega arith) (omega arith)), (λ k d h g. point.1 (suc k) d (omega arith) (omega arith))) in
      (rw passes (ap (λ ys. x ∷ ys) more.0), rw passes more.1)
