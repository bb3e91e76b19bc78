-- Increments, as the code has them.
use Rattle.std.proofs.Common.{◌≡◌, ℤ, ◌+ℤ◌, Option, Some, None, refl, ap, ◌∙◌}
use Rattle.rp_value.specs.declared.value.Value.TheVariants as v
use Rattle.rp_meaning.specs.Bare.{integer_in}
use Rattle.rp_meaning.specs.Operators.{integer, of_integers, sum, sum_seen}
use Rattle.rp_meaning.specs.Statements.{is_past, is_past_at}
use Rattle.rp_operators.proofs.Sights.{bare-Indet, bare-Int, sees-Indet, sees-Int}
use Rattle.rp_eval_parts.specs.Counts.{integer_or, sum_or}

pub past_of : (at : Option ℤ) (last step : ℤ) → is_past_at at last step ≡ is_past (record { at = integer_or at; last = last; step = step })
past_of None last step = ap (λ x. is_past_at (integer_in x) last step) (bare-Indet v.Indet refl)
past_of (Some n) last step = ap (λ x. is_past_at (integer_in x) last step) (bare-Int (v.Int n) n refl)

pub sum_of : (at : Option ℤ) (step : ℤ) → sum_or at step ≡ sum (integer_or at) (v.Int step)
sum_of None step =
    (λ i. of_integers (λ a b. integer (a +ℤ b)) (integer_in (bare-Indet v.Indet refl i)) (integer_in (bare-Int (v.Int step) step refl i)))
    ∙ (λ i. sum_seen v.Indet (v.Int step) (sees-Indet v.Indet refl i) (sees-Int (v.Int step) step refl i))
sum_of (Some n) step =
    (λ i. of_integers (λ a b. integer (a +ℤ b)) (integer_in (bare-Int (v.Int n) n refl i)) (integer_in (bare-Int (v.Int step) step refl i)))
    ∙ (λ i. sum_seen (v.Int n) (v.Int step) (sees-Int (v.Int n) n refl i) (sees-Int (v.Int step) step refl i))
