-- A text among values, of which those in front are texts, too.
use Rattle.std.proofs.Common.{◌≡◌, ◌<◌, ℕ, zero, suc, ◌+◌, true, false, ◌||◌, if◌then◌else◌, List, ◌∷◌, drop, get_or, length, refl, sym, ◌∙◌, ap, add-one, drop-cons}
use Rattle.std.specs.Cmp.Lexicographic.{slice_cmp}
use Rattle.std.specs.List.{list_any}
use Rattle.std.specs.Ordering.{nat_cmp, is_eq}
use Rattle.std.specs.declared.cmp.Ordering.{Ordering}
use Rattle.std.specs.declared.cmp.Ordering.TheVariants.{Less, Equal, Greater}
use Rattle.rp_numbers.specs.Logical.{is_true}
use Rattle.rp_numbers.specs.declared.Logical.TheVariants.{False, Unknown, True}
use Rattle.rp_operations.specs.Equality.{equal_seen, equal_within, same_scalars, equality}
use Rattle.rp_operations.specs.Operations.{same, is_same, membership, membership_by}
use Rattle.rp_operations.specs.Order.{of_ordering, equals}
use Rattle.rp_operations.specs.Seen.{Text, seen, depth, is_indeterminate}
use Rattle.rp_operators.proofs.Sights.{sees-Agg, sees-Str, seen-bare}
use Rattle.rp_operators.specs.Scalars.{is_in}
use Rattle.rp_meaning.specs.Bare.{bare}
use Rattle.rp_value.specs.Elements.{Elements}
use Rattle.rp_value.specs.declared.value.AggregateKind.{AggregateKind}
use Rattle.rp_value.specs.declared.value.Value.{Value}
use Rattle.rp_value.specs.declared.value.Value.TheVariants as v

tells : (c : Ordering) → is_true (equals (of_ordering c)) ≡ is_eq c
tells Less = refl
tells Equal = refl
tells Greater = refl

module _ (x : Value) (text : List ℕ) (is : seen x ≡ Text text) (values : List Value) (at : ℕ) (y : Value) (other : List ℕ) (within : at < length values) (stands : y ≡ get_or values at y) (is_text : y ≡ v.Str other) where
  alike_within : (n : ℕ) → equal_within same_scalars n x y ≡ equals (of_ordering (slice_cmp nat_cmp text other))
  alike_within zero = λ i. same_scalars (is i) (sym (sees-Str y other is_text) i)
  alike_within (suc n) = λ i. equal_seen same_scalars (equal_within same_scalars n) (is i) (sym (sees-Str y other is_text) i)

  alike : is_same x y ≡ is_eq (slice_cmp nat_cmp text other)
  unfolding same equality
  alike = ap is_true (alike_within (depth x + depth y)) ∙ tells (slice_cmp nat_cmp text other)

  rest : List Value
  rest = drop (at + 1) values

  from_here : drop at values ≡ y ∷ rest
  unfolding rest
  from_here = rw (add-one) (drop-cons values at y within) ∙ ap (λ z. z ∷ drop (at + 1) values) (sym stands)

  -- which is this one
  pub here : is_eq (slice_cmp nat_cmp text other) ≡ true → True ≡ is_in x (drop at values)
  here same_text =
      sym (ap (is_in x) from_here
      ∙ (λ i. if (alike ∙ same_text) i || list_any (is_same x) rest then True else if is_indeterminate (seen x) || list_any (λ z. is_indeterminate (seen z)) (y ∷ rest) then Unknown else False))

  -- which is another one
  pub behind : is_eq (slice_cmp nat_cmp text other) ≡ false → is_in x (drop (at + 1) values) ≡ is_in x (drop at values)
  unfolding rest
  behind differs =
      sym (ap (is_in x) from_here
      ∙ (λ i. if (alike ∙ differs) i || list_any (is_same x) rest then True
      else if is_indeterminate (seen x) || (is_indeterminate (sym (sees-Str y other is_text) i) || list_any (λ z. is_indeterminate (seen z)) rest) then Unknown else False))

-- what IN gives of a value and an aggregate beneath names
pub member : (x y z : Value) (kind : AggregateKind) (elements : Elements Value) → z ≡ bare y → z ≡ v.Agg kind elements → v.Log (is_in x elements.items) ≡ membership x y
unfolding membership
member x y z kind elements at is = ap (membership_by is_same x) (sees-Agg z kind elements is ∙ ap seen at ∙ seen-bare y)
