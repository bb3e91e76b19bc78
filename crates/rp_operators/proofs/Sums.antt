-- What `+` costs.
use Rattle.std.proofs.Common.{◌≡◌, ℕ, ℤ, ◌+◌, Bool, true, false, if◌then◌else◌, List, [], ◌∷◌, ◌++◌, length, Option, Some, None, refl, sym, ◌∙◌, ap, subst, length-append}
use Rattle.std.specs.Fmt.{char_count}
use Rattle.std.specs.Prelude.{◌+ℤ◌}
use Rattle.rp_meaning.specs.Bare.{bare, integer_of, aggregate_in, aggregate_of}
use Rattle.rp_meaning.specs.Operators.{integer, of_integers, on_integers, sum, sum_seen, length_seen, cost_in, cost_of_two}
use Rattle.rp_operations.specs.Operations.{aggregate, like, joined, union, union_seen}
use Rattle.rp_operations.specs.Seen.{Seen, Indeterminate, Number, Text, Bits, Truth, Item, Instance, Aggregate, seen}
use Rattle.rp_operators.proofs.Characters.{joined as joined_count}
use Rattle.rp_operators.proofs.Sights.{sees-Indet, sees-Int, sees-Str, sees-Bin, sees-Agg}
use Rattle.rp_operators.specs.Amounts.{joined_length}
use Rattle.rp_operators.specs.Sights.{opened, seen_by}
use Rattle.rp_operators.specs.declared.bare.Bare.{Bare}
use Rattle.rp_value.specs.Elements.{Elements}
use Rattle.rp_value.specs.declared.value.AggregateKind.{AggregateKind}
use Rattle.rp_value.specs.declared.value.AggregateKind.TheVariants as k
use Rattle.rp_value.specs.declared.value.Value.{Value, out-Value}
use Rattle.rp_value.specs.declared.value.Value.TheVariants as v

abbrev Short : Value → Type 0
Short x = length_seen (seen x) ≡ 0

short-Indet : Short v.Indet
short-Indet = ap length_seen (sym (sees-Indet v.Indet refl))

short-Int : (n : ℤ) → Short (v.Int n)
short-Int n = ap length_seen (sym (sees-Int (v.Int n) n refl))

short-Agg : (kind : AggregateKind) (low : ℤ) (items : List Value) → Short (aggregate kind low items)
short-Agg kind low items = ap length_seen (sym (sees-Agg (aggregate kind low items) kind (record { low = low; items = items }) refl))

short-if : (test : Bool) (x y : Value) → Short x → Short y → Short (if test then x else y)
short-if true x y h g = h
short-if false x y h g = g

short-numbers : (a b : Option ℤ) → Short (of_integers (λ m n. integer (m +ℤ n)) a b)
short-numbers None b = short-Indet
short-numbers (Some m) None = short-Indet
short-numbers (Some m) (Some n) = short-if _ _ _ (short-Int (m +ℤ n)) short-Indet

short-like : (kind : AggregateKind) (xs : Elements Value) (other : AggregateKind) (ys : Elements Value) (items : List Value) → Short (like kind xs other ys items)
short-like k.Initializer xs other ys items = short-Agg other ys.low items
short-like k.Array xs other ys items = short-Agg k.Array xs.low items
short-like k.List xs other ys items = short-Agg k.List xs.low items
short-like k.Bag xs other ys items = short-Agg k.Bag xs.low items
short-like k.Set xs other ys items = short-Agg k.Set xs.low items

-- a union is an aggregate, or `?`
short-left : (x y : Value) (kind : AggregateKind) (xs : Elements Value) (t : Seen) → Short (union_seen x y (Aggregate kind xs) t)
short-left x y kind xs Indeterminate = short-Indet
short-left x y kind xs (Aggregate other ys) = short-like kind xs other ys (joined kind xs.items ys.items)
short-left x y kind xs (Number n) = short-Agg kind xs.low (joined kind xs.items (y ∷ []))
short-left x y kind xs (Text t) = short-Agg kind xs.low (joined kind xs.items (y ∷ []))
short-left x y kind xs (Bits t) = short-Agg kind xs.low (joined kind xs.items (y ∷ []))
short-left x y kind xs (Truth t) = short-Agg kind xs.low (joined kind xs.items (y ∷ []))
short-left x y kind xs (Item n place) = short-Agg kind xs.low (joined kind xs.items (y ∷ []))
short-left x y kind xs (Instance place) = short-Agg kind xs.low (joined kind xs.items (y ∷ []))

short-right : (x y : Value) (s : Seen) (kind : AggregateKind) (ys : Elements Value) → Short (union_seen x y s (Aggregate kind ys))
short-right x y Indeterminate kind ys = short-Indet
short-right x y (Aggregate other xs) kind ys = short-left x y other xs (Aggregate kind ys)
short-right x y (Number n) kind ys = short-Agg kind ys.low (x ∷ ys.items)
short-right x y (Text t) kind ys = short-Agg kind ys.low (x ∷ ys.items)
short-right x y (Bits t) kind ys = short-Agg kind ys.low (x ∷ ys.items)
short-right x y (Truth t) kind ys = short-Agg kind ys.low (x ∷ ys.items)
short-right x y (Item n place) kind ys = short-Agg kind ys.low (x ∷ ys.items)
short-right x y (Instance place) kind ys = short-Agg kind ys.low (x ∷ ys.items)

union-left : (x y : Value) (kind : AggregateKind) (xs : Elements Value) → Aggregate kind xs ≡ seen x → Short (union x y)
unfolding union
union-left x y kind xs is = subst (λ s. Short (union_seen x y s (seen y))) is (short-left x y kind xs (seen y))

union-right : (x y : Value) (kind : AggregateKind) (ys : Elements Value) → Aggregate kind ys ≡ seen y → Short (union x y)
unfolding union
union-right x y kind ys is = subst (λ t. Short (union_seen x y (seen x) t)) is (short-right x y (seen x) kind ys)

module _ (x y : Value) where
  both_texts : (s t : List ℕ) → length_seen (seen (v.Str (s ++ t))) ≡ char_count s + char_count t
  both_texts s t = ap length_seen (sym (sees-Str (v.Str (s ++ t)) (s ++ t) refl)) ∙ joined_count s t

  both_bits : (s t : List Bool) → length_seen (seen (v.Bin (s ++ t))) ≡ length s + length t
  both_bits s t = ap length_seen (sym (sees-Bin (v.Bin (s ++ t)) (s ++ t) refl)) ∙ length-append s t

  numbers : Short (on_integers (λ m n. integer (m +ℤ n)) x y)
  numbers = short-numbers (integer_of x) (integer_of y)

  of_seen : (s t : Seen) → s ≡ seen x → t ≡ seen y → length_seen (seen (sum_seen x y s t)) ≡ joined_length s t
  of_seen (Text s) (Text t) is at = both_texts s t
  of_seen (Bits s) (Bits t) is at = both_bits s t
  of_seen (Aggregate kind xs) t is at = union-left x y kind xs is
  of_seen s (Aggregate kind ys) is at = union-right x y kind ys at
  of_seen s t is at = numbers

  pub sum_length : length_seen (seen (sum x y)) ≡ joined_length (seen x) (seen y)
  sum_length = of_seen (seen x) (seen y) refl refl

-- by what is beneath the names of the two
pub sum_cost : (x y : Value) (s t : Bare) → opened s ≡ out-Value (bare x) → seen_by s ≡ seen x → opened t ≡ out-Value (bare y) → seen_by t ≡ seen y
    → cost_of_two x y + length_seen (seen (sum x y)) ≡ cost_in (aggregate_in (opened s)) (aggregate_in (opened t)) + joined_length (seen_by s) (seen_by t)
sum_cost x y s t is sees at views =
    λ i. cost_in (aggregate_in (sym is i)) (aggregate_in (sym at i)) + (sum_length x y ∙ (λ j. joined_length (sym sees j) (sym views j))) i

-- ---- where one of them is no aggregate

nothing-left : (b : Option (AggregateKind × Elements Value)) → cost_in None b ≡ 0
nothing-left None = refl
nothing-left (Some b) = refl

nothing-right : (a : Option (AggregateKind × Elements Value)) → cost_in a None ≡ 0
nothing-right None = refl
nothing-right (Some a) = refl

pub left_costs : (x y : Value) → aggregate_of x ≡ None → cost_of_two x y ≡ 0
left_costs x y none = ap (λ a. cost_in a (aggregate_of y)) none ∙ nothing-left (aggregate_of y)

pub right_costs : (x y : Value) → aggregate_of y ≡ None → cost_of_two x y ≡ 0
right_costs x y none = ap (λ b. cost_in (aggregate_of x) b) none ∙ nothing-right (aggregate_of x)
