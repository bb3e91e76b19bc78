-- The forms of a level are made of those one level down.
use Rattle.std.proofs.Common.{◌≡◌, ℕ, zero, suc, refl}
use Rattle.ex_expressions.specs.Expressions.{level, level_with, below}

pub level-is : (n : ℕ) → level n ≡ level_with n (below n)
unfolding level
level-is zero = refl
level-is (suc n) = refl
