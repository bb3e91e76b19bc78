-- The types of a level are made of those one level down.
use Rattle.std.proofs.Common.{◌≡◌, ℕ, zero, suc, Bool, refl}
use Rattle.ex_declaration_syntax.specs.DataTypes.{data_type, data_type_over, below}

pub data_type-is : (general : Bool) (n : ℕ) → data_type general n ≡ data_type_over n (below general n) general
unfolding data_type
data_type-is general zero = refl
data_type-is general (suc n) = refl
