-- What operators cost on two whole numbers.
use Rattle.std.proofs.Common.{◌≡◌, ℤ, ◌+ℤ◌, Bool, true, false, if◌then◌else◌, Some, sym, refl}
use Rattle.ex_tree.specs.declared.expression.BinaryOperator.{BinaryOperator}
use Rattle.ex_tree.specs.declared.expression.BinaryOperator.TheVariants as o
use Rattle.rp_value.specs.declared.value.Value.{Value}
use Rattle.rp_value.specs.declared.value.Value.TheVariants as v
use Rattle.rp_meaning.specs.Bare.{aggregate_in}
use Rattle.rp_meaning.specs.Operators.{cost, cost_in, cost_of_two, count, count_in}
use Rattle.rp_operators.proofs.Sights.{bare-Int, sees-Indet, sees-Int}
use Rattle.rp_eval_parts.specs.Counts.{sum_or}
use Rattle.rp_eval_parts.proofs.Runnings.{sum_of}

two-cost : (m n : ℤ) → cost_of_two (v.Int m) (v.Int n) ≡ 0
two-cost m n = λ i. cost_in (aggregate_in (sym (bare-Int (v.Int m) m refl) i)) (aggregate_in (sym (bare-Int (v.Int n) n refl) i))

either : (few : Bool) (x y : Value) (R : Type 0) → ((if few then x else y) ≡ x → R) → ((if few then x else y) ≡ y → R) → R
either true x y R f g = f refl
either false x y R f g = g refl

sum-held : (m n : ℤ) → sum_or (Some m) n ≡ v.Int (m +ℤ n) → cost o.Add (v.Int m) (v.Int n) ≡ 0
sum-held m n is = rw (two-cost m n, sym (sum_of (Some m) n), is, sym (sees-Int (v.Int (m +ℤ n)) (m +ℤ n) refl)) refl

sum-lost : (m n : ℤ) → sum_or (Some m) n ≡ v.Indet → cost o.Add (v.Int m) (v.Int n) ≡ 0
sum-lost m n is = rw (two-cost m n, sym (sum_of (Some m) n), is, sym (sees-Indet v.Indet refl)) refl

sum-cost : (m n : ℤ) → cost o.Add (v.Int m) (v.Int n) ≡ 0
sum-cost m n = either _ (v.Int (m +ℤ n)) v.Indet _ (sum-held m n) (sum-lost m n)

no-count : (n : ℤ) → count (v.Int n) ≡ 0
no-count n = λ i. count_in (aggregate_in (sym (bare-Int (v.Int n) n refl) i))

-- nothing beside their own steps
pub whole-cost : (operator : BinaryOperator) (m n : ℤ) → cost operator (v.Int m) (v.Int n) ≡ 0
whole-cost o.In m n = no-count n
whole-cost o.And m n = refl
whole-cost o.Or m n = refl
whole-cost o.Xor m n = refl
whole-cost o.Add m n = sum-cost m n
whole-cost o.Power m n = two-cost m n
whole-cost o.Multiply m n = two-cost m n
whole-cost o.Divide m n = two-cost m n
whole-cost o.Div m n = two-cost m n
whole-cost o.Mod m n = two-cost m n
whole-cost o.Subtract m n = two-cost m n
whole-cost o.Less m n = two-cost m n
whole-cost o.Greater m n = two-cost m n
whole-cost o.LessEqual m n = two-cost m n
whole-cost o.GreaterEqual m n = two-cost m n
whole-cost o.NotEqual m n = two-cost m n
whole-cost o.Equal m n = two-cost m n
whole-cost o.InstanceNotEqual m n = two-cost m n
whole-cost o.InstanceEqual m n = two-cost m n
