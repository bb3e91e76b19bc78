-- What operators give of two values of one kind that are no aggregates, of which nothing is `?`, and of a value and others.
use Rattle.std.specs.Prelude.{ℕ, ℤ, int_div, int_rem, ◌+ℤ◌, ◌-ℤ◌, ◌*ℤ◌, ◌||◌, if◌then◌else◌, List, ◌++◌}
use Rattle.std.specs.List.{list_any}
use Rattle.std.specs.Cmp.Lexicographic.{slice_cmp}
use Rattle.std.specs.Ordering.{nat_cmp, int_cmp, is_eq, is_ne, is_lt, is_gt, is_le, is_ge}
use Rattle.std.specs.declared.cmp.Ordering.{Ordering}
use Rattle.ex_tree.specs.declared.expression.BinaryOperator.{BinaryOperator}
use Rattle.ex_tree.specs.declared.expression.BinaryOperator.TheVariants as o
use Rattle.rp_numbers.specs.Logical.{rank, of_test, conjunction, disjunction, exclusive_disjunction}
use Rattle.rp_numbers.specs.declared.Logical.{Logical}
use Rattle.rp_numbers.specs.declared.Logical.TheVariants.{False, Unknown, True}
use Rattle.rp_meaning.specs.Operators.{integer, of_natural, power}
use Rattle.rp_operations.specs.Operations.{is_same}
use Rattle.rp_operations.specs.Seen.{seen, is_indeterminate}
use Rattle.rp_value.specs.declared.value.Value.{Value}
use Rattle.rp_value.specs.declared.value.Value.TheVariants as v

-- what a relation says of two that stand in this order; `?` for what is no relation
abbrev pub by_order : BinaryOperator → Ordering → Value
by_order o.Less c = v.Log (of_test (is_lt c))
by_order o.Greater c = v.Log (of_test (is_gt c))
by_order o.LessEqual c = v.Log (of_test (is_le c))
by_order o.GreaterEqual c = v.Log (of_test (is_ge c))
by_order o.NotEqual c = v.Log (of_test (is_ne c))
by_order o.Equal c = v.Log (of_test (is_eq c))
by_order o.InstanceNotEqual c = v.Log (of_test (is_ne c))
by_order o.InstanceEqual c = v.Log (of_test (is_eq c))
by_order operator c = v.Indet

abbrev pub of_integers : BinaryOperator → ℤ → ℤ → Value
of_integers o.Power x y = power x y
of_integers o.Multiply x y = integer (x *ℤ y)
of_integers o.Div x y = of_natural int_div x y
of_integers o.Mod x y = of_natural int_rem x y
of_integers o.Add x y = integer (x +ℤ y)
of_integers o.Subtract x y = integer (x -ℤ y)
of_integers operator x y = by_order operator (int_cmp x y)

abbrev pub of_truths : BinaryOperator → Logical → Logical → Value
of_truths o.And x y = v.Log (conjunction x y)
of_truths o.Or x y = v.Log (disjunction x y)
of_truths o.Xor x y = v.Log (exclusive_disjunction x y)
of_truths operator x y = by_order operator (nat_cmp (rank x) (rank y))

-- as UTF-8
abbrev pub of_texts : BinaryOperator → List ℕ → List ℕ → Value
of_texts o.Add s t = v.Str (s ++ t)
of_texts operator s t = by_order operator (slice_cmp nat_cmp s t)

-- whether a value is one of these
abbrev pub is_in : Value → List Value → Logical
is_in x ys = if list_any (is_same x) ys then True else if is_indeterminate (seen x) || list_any (λ y. is_indeterminate (seen y)) ys then Unknown else False
