-- Names of instances that are kept.
use Rattle.std.proofs.Common.{ℕ, zero, suc, List, [], ◌∷◌, ◌++◌, IfSome, slice_get}

-- what holds of each that is kept holds still where one more is kept of which it holds
pub kept_more : {X : Type 0} (P : X → Type 0) (xs : List X) (x : X) → ((k : ℕ) → IfSome (slice_get xs k) P) → P x → (k : ℕ) → IfSome (slice_get (xs ++ x ∷ []) k) P
kept_more P [] x all here zero = here
kept_more P [] x all here (suc k) = tt
kept_more P (y ∷ ys) x all here zero = all zero
kept_more P (y ∷ ys) x all here (suc k) = kept_more P ys x (λ k. all (suc k)) here k
