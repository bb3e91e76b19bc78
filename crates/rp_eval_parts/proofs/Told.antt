-- Amounts of steps that are told.
use Rattle.std.proofs.Common.{◌≡◌, ℕ, Bool, true, false, Some, None, refl, cond, nat_le}
use Rattle.rp_meaning.specs.declared.counter.Counter.{Counter}
use Rattle.rp_meaning.specs.Computations.{steps}
use Rattle.rp_operators.specs.Amounts.{unless_more}

more-by : (n : ℕ) (c : Counter) (few : Bool) → nat_le n c.left ≡ few → None ≡ cond few (Some n) None → steps n c ≡ None
more-by n c false e h = rw e refl
more-by n c true e h = absurd (cc)

-- none is told of more than are left
pub told-more : (n : ℕ) (c : Counter) → None ≡ unless_more c.left n → steps n c ≡ None
told-more n c h = more-by n c (nat_le n c.left) refl h

same-by : (n k : ℕ) (few : Bool) → Some k ≡ cond few (Some n) None → k ≡ n
same-by n k false h = absurd (cc)
same-by n k true h = cc

pub told-same : (n k left : ℕ) → Some k ≡ unless_more left n → k ≡ n
told-same n k left h = same-by n k (nat_le n left) h
