-- What governs a REPEAT, of what is written of it.
use Rattle.std.proofs.Common.{◌≡◌, ◌∷◌, Option, Some, None, refl}
use Rattle.std.specs.Option.{option_to_list}
use Rattle.rp_code.specs.declared.tree.Expression.{Expression}
use Rattle.rp_code.specs.declared.tree.Increment.{Increment}
use Rattle.rp_code.specs.Denoted.{condition, increment}

pub condition_of : (x : Option Expression) → condition (option_to_list x) ≡ x
condition_of None = refl
condition_of (Some x) = refl

of_step : (first last : Expression) (step : Option Expression) → increment (first ∷ last ∷ option_to_list step) ≡ Some (record { first = first; last = last; step = step })
of_step first last None = refl
of_step first last (Some step) = refl

pub increment_of : (x : Increment) → increment (x.first ∷ x.last ∷ option_to_list x.step) ≡ Some x
increment_of x = of_step x.first x.last x.step
