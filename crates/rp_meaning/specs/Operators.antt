-- What operators give of values (ISO 10303-11:1994, clause 12), and the steps that they cost beside their own. A kind that an
-- operator doesn't take gives `?`.
use Rattle.std.specs.Prelude.{ℕ, ℤ, pos, negsuc, ◌+◌, ◌-◌, ◌*◌, ◌^◌, ◌+ℤ◌, ◌-ℤ◌, ◌*ℤ◌, neg_ℤ, int_lt, int_le, int_div, int_rem, ◌&&◌, ◌||◌, not, Bool, true, false, ◌++◌, length, zero, suc, Option, Some, None, if◌then◌else◌}
use Rattle.std.specs.Fmt.{char_count}
use Rattle.ex_tree.specs.declared.expression.BinaryOperator.{BinaryOperator}
use Rattle.ex_tree.specs.declared.expression.BinaryOperator.TheVariants as o
use Rattle.ex_tree.specs.declared.expression.IntervalOperator.{IntervalOperator}
use Rattle.ex_tree.specs.declared.expression.IntervalOperator.TheVariants as i
use Rattle.ex_tree.specs.declared.expression.UnaryOperator.{UnaryOperator}
use Rattle.ex_tree.specs.declared.expression.UnaryOperator.TheVariants as n
use Rattle.rp_numbers.specs.Logical.{conjunction, disjunction, negation, exclusive_disjunction}
use Rattle.rp_numbers.specs.declared.Logical.{Logical}
use Rattle.rp_numbers.specs.declared.Logical.TheVariants.{False, Unknown, True}
use Rattle.rp_value.specs.Elements.{Elements}
use Rattle.rp_operations.specs.Operations.{compare, same, union, intersection, difference, membership, is_within}
use Rattle.rp_operations.specs.Seen.{Seen, Indeterminate, Text, Bits, Truth, Instance, Aggregate, seen, same_kind}
use Rattle.rp_operations.specs.declared.compared.Compared.{Compared}
use Rattle.rp_operations.specs.declared.compared.Compared.TheVariants as c
use Rattle.rp_value.specs.declared.value.AggregateKind.{AggregateKind}
use Rattle.rp_value.specs.declared.value.Value.{Value}
use Rattle.rp_value.specs.declared.value.Value.TheVariants as v
use Rattle.rp_meaning.specs.Bare.{integer_of, aggregate_of}

-- ---- whole numbers

-- of INTEGER, where 64 bits with a sign hold it; else `?`
abbrev pub integer : ℤ → Value
integer z = if int_le (negsuc (2 ^ 63 - 1)) z && int_lt z (pos (2 ^ 63)) then v.Int z else v.Indet

abbrev pub of_integers : (ℤ → ℤ → Value) → Option ℤ → Option ℤ → Value
of_integers meaning (Some x) (Some y) = meaning x y
of_integers meaning _ _ = v.Indet

abbrev pub of_integer : (ℤ → Value) → Option ℤ → Value
of_integer meaning (Some x) = meaning x
of_integer meaning None = v.Indet

abbrev pub on_integers : (ℤ → ℤ → Value) → Value → Value → Value
on_integers meaning x y = of_integers meaning (integer_of x) (integer_of y)

-- of a natural number by a positive one; else `?`
abbrev pub of_natural : (ℤ → ℤ → ℤ) → ℤ → ℤ → Value
of_natural meaning x y = if int_le (pos 0) x && int_lt (pos 0) y then integer (meaning x y) else v.Indet

abbrev pub power_of : ℤ → ℕ → ℤ
power_of x zero = pos 1
power_of x (suc n) = x *ℤ power_of x n

-- `?` for a negative exponent
abbrev pub power : ℤ → ℤ → Value
power x (pos n) = integer (power_of x n)
power x (negsuc n) = v.Indet

-- ---- LOGICAL

-- `?` counts as UNKNOWN
abbrev pub truth_in : Seen → Option Logical
truth_in (Truth x) = Some x
truth_in Indeterminate = Some Unknown
truth_in s = None

abbrev pub of_truths : (Logical → Logical → Logical) → Option Logical → Option Logical → Value
of_truths meaning (Some x) (Some y) = v.Log (meaning x y)
of_truths meaning _ _ = v.Indet

abbrev pub of_truth : (Logical → Logical) → Option Logical → Value
of_truth meaning (Some x) = v.Log (meaning x)
of_truth meaning None = v.Indet

abbrev pub on_truths : (Logical → Logical → Logical) → Value → Value → Value
on_truths meaning x y = of_truths meaning (truth_in (seen x)) (truth_in (seen y))

-- ---- relations

abbrev pub is_instance : Seen → Bool
is_instance (Instance place) = true
is_instance s = false

-- What a comparison by value comes to that nothing is said of by the kinds: UNKNOWN with `?`, and `?` with an instance or of two kinds.
abbrev pub by_kinds : Value → Seen → Seen → Value
by_kinds found Indeterminate t = v.Log Unknown
by_kinds found s Indeterminate = v.Log Unknown
by_kinds found s t = if is_instance s || is_instance t || not (same_kind s t) then v.Indet else found

abbrev pub by_value : Value → Value → Value → Value
by_value found x y = by_kinds found (seen x) (seen y)

abbrev pub is_equal : Compared → Logical
is_equal c.Equal = True
is_equal c.Unknown = Unknown
is_equal _ = False

abbrev pub is_less : Compared → Logical
is_less c.Less = True
is_less c.Unknown = Unknown
is_less _ = False

abbrev pub is_greater : Compared → Logical
is_greater c.Greater = True
is_greater c.Unknown = Unknown
is_greater _ = False

abbrev pub are_aggregates : Seen → Seen → Bool
are_aggregates (Aggregate kind xs) (Aggregate other ys) = true
are_aggregates s t = false

-- of two aggregates, and of what has an order
abbrev pub in_order : Value → Value → Value → Value → Value
in_order of_aggregates found x y = by_value (if are_aggregates (seen x) (seen y) then of_aggregates else found) x y

abbrev pub equal : Value → Value → Value
equal x y = by_value (v.Log (is_equal (compare x y))) x y

abbrev pub less : Value → Value → Value
less x y = in_order v.Indet (v.Log (is_less (compare x y))) x y

abbrev pub greater : Value → Value → Value
greater x y = in_order v.Indet (v.Log (is_greater (compare x y))) x y

-- not greater; of aggregates whether the left is within the right
abbrev pub at_most : Value → Value → Value
at_most x y = in_order (is_within x y) (v.Log (negation (is_greater (compare x y)))) x y

abbrev pub at_least : Value → Value → Value
at_least x y = in_order (is_within y x) (v.Log (negation (is_less (compare x y)))) x y

-- ---- `+`, `*` and `-`

abbrev pub sum_seen : Value → Value → Seen → Seen → Value
sum_seen x y (Text s) (Text t) = v.Str (s ++ t)
sum_seen x y (Bits s) (Bits t) = v.Bin (s ++ t)
sum_seen x y (Aggregate kind xs) t = union x y
sum_seen x y s (Aggregate kind ys) = union x y
sum_seen x y s t = on_integers (λ a b. integer (a +ℤ b)) x y

abbrev pub sum : Value → Value → Value
sum x y = sum_seen x y (seen x) (seen y)

abbrev pub product_seen : Value → Value → Seen → Seen → Value
product_seen x y (Aggregate kind xs) (Aggregate other ys) = intersection x y
product_seen x y s t = on_integers (λ a b. integer (a *ℤ b)) x y

abbrev pub product : Value → Value → Value
product x y = product_seen x y (seen x) (seen y)

abbrev pub remainder_seen : Value → Value → Seen → Value
remainder_seen x y (Aggregate kind xs) = difference x y
remainder_seen x y s = on_integers (λ a b. integer (a -ℤ b)) x y

-- what is left of the one without the other
abbrev pub remainder : Value → Value → Value
remainder x y = remainder_seen x y (seen x)

-- ---- all

-- `/` is of real numbers, with which no arithmetic is done
abbrev pub applied : BinaryOperator → Value → Value → Value
applied o.Power x y = on_integers power x y
applied o.Multiply x y = product x y
applied o.Divide x y = v.Indet
applied o.Div x y = on_integers (of_natural int_div) x y
applied o.Mod x y = on_integers (of_natural int_rem) x y
applied o.And x y = on_truths conjunction x y
applied o.Add x y = sum x y
applied o.Subtract x y = remainder x y
applied o.Or x y = on_truths disjunction x y
applied o.Xor x y = on_truths exclusive_disjunction x y
applied o.Less x y = less x y
applied o.Greater x y = greater x y
applied o.LessEqual x y = at_most x y
applied o.GreaterEqual x y = at_least x y
applied o.NotEqual x y = by_value (v.Log (negation (is_equal (compare x y)))) x y
applied o.Equal x y = equal x y
applied o.InstanceNotEqual x y = v.Log (negation (same x y))
applied o.InstanceEqual x y = v.Log (same x y)
applied o.In x y = membership x y

abbrev pub applied_to : UnaryOperator → Value → Value
applied_to n.Plus x = of_integer integer (integer_of x)
applied_to n.Minus x = of_integer (λ a. integer (neg_ℤ a)) (integer_of x)
applied_to n.Not x = of_truth negation (truth_in (seen x))

abbrev pub relation : IntervalOperator → BinaryOperator
relation i.Less = o.Less
relation i.LessEqual = o.LessEqual

-- `{ low < item < high }` is the AND of its two comparisons
abbrev pub within : IntervalOperator → IntervalOperator → Value → Value → Value → Value
within first second low item high = on_truths conjunction (applied (relation first) low item) (applied (relation second) item high)

-- ---- steps

abbrev pub count_in : Option (AggregateKind × Elements Value) → ℕ
count_in None = 0
count_in (Some a) = length a.1.items

abbrev pub count : Value → ℕ
count x = count_in (aggregate_of x)

-- of two aggregates the product and the sum of their counts
abbrev pub cost_in : Option (AggregateKind × Elements Value) → Option (AggregateKind × Elements Value) → ℕ
cost_in (Some a) (Some b) = length a.1.items * length b.1.items + length a.1.items + length b.1.items
cost_in _ _ = 0

abbrev pub cost_of_two : Value → Value → ℕ
cost_of_two x y = cost_in (aggregate_of x) (aggregate_of y)

-- of a string or a binary that `+` gives its length
abbrev pub length_seen : Seen → ℕ
length_seen (Text text) = char_count text
length_seen (Bits bits) = length bits
length_seen s = 0

abbrev pub cost : BinaryOperator → Value → Value → ℕ
cost o.In x y = count y
cost o.And x y = 0
cost o.Or x y = 0
cost o.Xor x y = 0
cost o.Add x y = cost_of_two x y + length_seen (seen (sum x y))
cost _ x y = cost_of_two x y

abbrev pub interval_cost : Value → Value → Value → ℕ
interval_cost low item high = cost_of_two low item + cost_of_two item high
