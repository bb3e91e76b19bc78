-- The expressions of a level are made of those one level down.
use Rattle.std.proofs.Common.{◌≡◌, ℕ, zero, suc, refl}
use Rattle.ex_declaration_syntax.specs.Supertypes.{supertype_expression, supertype_expression_over, below}

pub supertype_expression-is : (n : ℕ) → supertype_expression n ≡ supertype_expression_over n (below n)
unfolding supertype_expression
supertype_expression-is zero = refl
supertype_expression-is (suc n) = refl
