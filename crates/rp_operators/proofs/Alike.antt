-- What operators give of two values of one kind that are no aggregates, from what is beneath the names of the two.
use Rattle.std.proofs.Common.{◌≡◌, ℕ, ℤ, zero, suc, ◌+◌, Bool, true, false, not, ◌||◌, List, refl, sym, ◌∙◌, ap, if◌then◌else◌}
use Rattle.std.proofs.lemmas.Bool.{true≢false}
use Rattle.std.specs.Prelude.{◌+ℤ◌, ◌-ℤ◌, ◌*ℤ◌, int_div, int_rem}
use Rattle.std.specs.Cmp.Lexicographic.{slice_cmp}
use Rattle.std.specs.Ordering.{nat_cmp, int_cmp, is_eq, is_lt, is_gt, is_ne, is_le, is_ge}
use Rattle.std.specs.declared.cmp.Ordering.{Ordering}
use Rattle.std.specs.declared.cmp.Ordering.TheVariants.{Less, Equal, Greater}
use Rattle.ex_tree.specs.declared.expression.BinaryOperator.{BinaryOperator}
use Rattle.ex_tree.specs.declared.expression.BinaryOperator.TheVariants as o
use Rattle.rp_numbers.specs.Decimals.{Decimal, scaled, scaled_whole}
use Rattle.rp_numbers.specs.Logical.{rank, of_test, negation, conjunction, disjunction, exclusive_disjunction}
use Rattle.rp_numbers.specs.declared.Logical.{Logical}
use Rattle.rp_meaning.specs.Bare.{integer_in}
use Rattle.rp_meaning.specs.Operators as spec
use Rattle.rp_meaning.specs.Operators.{applied, truth_in, are_aggregates, by_kinds, in_order, on_integers, on_truths, sum, product, remainder}
use Rattle.rp_operations.specs.Equality.{equal_seen, equal_within, equal_scalars, same_scalars, equality}
use Rattle.rp_operations.specs.Operations.{compare, compare_seen, same, membership, membership_by, is_same}
use Rattle.rp_operations.specs.Order.{of_ordering, equals}
use Rattle.rp_operations.specs.Seen.{Seen, Number, Text, Truth, seen, depth, holds_instance}
use Rattle.rp_operations.specs.declared.compared.Compared.{Compared}
use Rattle.rp_operations.specs.declared.compared.Compared.TheVariants.{Unknown}
use Rattle.rp_operators.proofs.Scales.{whole_numbers}
use Rattle.rp_operators.proofs.Sights.{IsBeneath}
use Rattle.rp_operators.specs.Scalars.{by_order, of_integers, of_truths, of_texts}
use Rattle.rp_value.specs.declared.value.Value.{Value}
use Rattle.rp_value.specs.declared.value.Value.TheOpen.{Value-F}
use Rattle.rp_value.specs.declared.value.Value.TheVariants as v

-- ---- relations

-- two that stand in an order
record Stand (x y : Value) (c : Ordering) : Type 0 where
  compared : compare x y ≡ of_ordering c
  alike : same x y ≡ equals (of_ordering c)
  member : membership x y ≡ v.Indet
  by_kinds_of : (found of_aggregates : Value) → spec.in_order of_aggregates found x y ≡ found
  by_kind : (found : Value) → spec.by_value found x y ≡ found

less_is : (c : Ordering) → of_test (is_lt c) ≡ spec.is_less (of_ordering c)
less_is Less = refl
less_is Equal = refl
less_is Greater = refl

greater_is : (c : Ordering) → of_test (is_gt c) ≡ spec.is_greater (of_ordering c)
greater_is Less = refl
greater_is Equal = refl
greater_is Greater = refl

at_most_is : (c : Ordering) → of_test (is_le c) ≡ negation (spec.is_greater (of_ordering c))
at_most_is Less = refl
at_most_is Equal = refl
at_most_is Greater = refl

at_least_is : (c : Ordering) → of_test (is_ge c) ≡ negation (spec.is_less (of_ordering c))
at_least_is Less = refl
at_least_is Equal = refl
at_least_is Greater = refl

equal_is : (c : Ordering) → of_test (is_eq c) ≡ spec.is_equal (of_ordering c)
equal_is Less = refl
equal_is Equal = refl
equal_is Greater = refl

unequal_is : (c : Ordering) → of_test (is_ne c) ≡ negation (spec.is_equal (of_ordering c))
unequal_is Less = refl
unequal_is Equal = refl
unequal_is Greater = refl

same_is : (c : Ordering) → of_test (is_eq c) ≡ equals (of_ordering c)
same_is Less = refl
same_is Equal = refl
same_is Greater = refl

other_is : (c : Ordering) → of_test (is_ne c) ≡ negation (equals (of_ordering c))
other_is Less = refl
other_is Equal = refl
other_is Greater = refl

pub apart : (c : Ordering) → not (is_eq c) ≡ is_ne c
apart Less = refl
apart Equal = refl
apart Greater = refl

pub ruleset unequal = (apart)

-- what is no relation, and no operator that gives `?` of all that is here
computes : BinaryOperator → Bool
computes o.Power = true
computes o.Multiply = true
computes o.Div = true
computes o.Mod = true
computes o.And = true
computes o.Add = true
computes o.Subtract = true
computes o.Or = true
computes o.Xor = true
computes operator = false

module _ (x y : Value) (c : Ordering) (stand : Stand x y c) where
  by : (of : Compared → Logical) → v.Log (of (of_ordering c)) ≡ v.Log (of (compare x y))
  by of = ap (λ z. v.Log (of z)) (sym stand.compared)

  related : (operator : BinaryOperator) → computes operator ≡ false → by_order operator c ≡ applied operator x y
  unfolding computes
  related o.Less none = ap (λ l. v.Log l) (less_is c) ∙ by spec.is_less ∙ sym (stand.by_kinds_of _ _)
  related o.Greater none = ap (λ l. v.Log l) (greater_is c) ∙ by spec.is_greater ∙ sym (stand.by_kinds_of _ _)
  related o.LessEqual none = ap (λ l. v.Log l) (at_most_is c) ∙ by (λ z. negation (spec.is_greater z)) ∙ sym (stand.by_kinds_of _ _)
  related o.GreaterEqual none = ap (λ l. v.Log l) (at_least_is c) ∙ by (λ z. negation (spec.is_less z)) ∙ sym (stand.by_kinds_of _ _)
  related o.NotEqual none = ap (λ l. v.Log l) (unequal_is c) ∙ by (λ z. negation (spec.is_equal z)) ∙ sym (stand.by_kind _)
  related o.Equal none = ap (λ l. v.Log l) (equal_is c) ∙ by spec.is_equal ∙ sym (stand.by_kind _)
  related o.InstanceNotEqual none = ap (λ l. v.Log l) (other_is c) ∙ ap (λ z. v.Log (negation z)) (sym stand.alike)
  related o.InstanceEqual none = ap (λ l. v.Log l) (same_is c) ∙ ap (λ z. v.Log z) (sym stand.alike)
  related o.In none = sym stand.member
  related o.Divide none = refl
  related operator some = absurd (true≢false some)

-- by what is seen of the two
module _ (x y : Value) (s t : Seen) (c : Ordering) (is : seen x ≡ s) (at : seen y ≡ t) (holds : holds_instance x ≡ false) (holding : holds_instance y ≡ false) where
  compare_is : ((equal : Logical) → compare_seen equal s t ≡ of_ordering c) → compare x y ≡ of_ordering c
  unfolding compare
  compare_is found =
      (λ i. if holds i || holding i then Unknown else compare_seen (equality equal_scalars x y) (is i) (at i)) ∙ found (equality equal_scalars x y)

  within_is : (n : ℕ) → ((equal : Value → Value → Logical) → equal_seen same_scalars equal s t ≡ equals (of_ordering c)) → same_scalars s t ≡ equals (of_ordering c)
      → equal_within same_scalars n x y ≡ equals (of_ordering c)
  within_is zero seen_so so = (λ i. same_scalars (is i) (at i)) ∙ so
  within_is (suc n) seen_so so = (λ i. equal_seen same_scalars (equal_within same_scalars n) (is i) (at i)) ∙ seen_so (equal_within same_scalars n)

  same_of : ((equal : Value → Value → Logical) → equal_seen same_scalars equal s t ≡ equals (of_ordering c)) → same_scalars s t ≡ equals (of_ordering c) → same x y ≡ equals (of_ordering c)
  unfolding same equality
  same_of = within_is (depth x + depth y)

  member_is : membership_by is_same x t ≡ v.Indet → membership x y ≡ v.Indet
  unfolding membership
  member_is so = ap (membership_by is_same x) at ∙ so

  stands : ((equal : Logical) → compare_seen equal s t ≡ of_ordering c) → ((equal : Value → Value → Logical) → equal_seen same_scalars equal s t ≡ equals (of_ordering c)) → same_scalars s t ≡ equals (of_ordering c)
      → membership_by is_same x t ≡ v.Indet → are_aggregates s t ≡ false → ((found : Value) → by_kinds found s t ≡ found) → Stand x y c
  stands found seen_so so none simple kinds = record {
    compared = compare_is found;
    alike = same_of seen_so so;
    member = member_is none;
    by_kinds_of = λ a b. (λ i. by_kinds (if are_aggregates (is i) (at i) then b else a) (is i) (at i)) ∙ (λ i. by_kinds (if simple i then b else a) s t) ∙ kinds a;
    by_kind = λ a. (λ i. by_kinds a (is i) (at i)) ∙ kinds a;
  }

-- ---- of two whole numbers

module _ (x y : Value) (m n : ℤ) (is : IsBeneath x (Value-F.Int m)) (at : IsBeneath y (Value-F.Int n)) where
  integers_stand : Stand x y (int_cmp (scaled_whole m) (scaled_whole n))
  integers_stand = stands x y (Number (scaled_whole m)) (Number (scaled_whole n)) _ is.sees at.sees is.holds at.holds (λ e. refl) (λ e. refl) refl refl refl (λ found. refl)

  whole : (meaning : ℤ → ℤ → Value) → meaning m n ≡ on_integers meaning x y
  whole meaning = λ i. spec.of_integers meaning (integer_in (sym is.is i)) (integer_in (sym at.is i))

  truthless : (meaning : Logical → Logical → Logical) → v.Indet ≡ on_truths meaning x y
  truthless meaning = λ i. spec.of_truths meaning (truth_in (sym is.sees i)) (truth_in (sym at.sees i))

  ordered : (operator : BinaryOperator) → computes operator ≡ false → by_order operator (int_cmp m n) ≡ applied operator x y
  ordered operator none = ap (by_order operator) (whole_numbers m n) ∙ related x y _ integers_stand operator none

  pub integers : (operator : BinaryOperator) → of_integers operator m n ≡ applied operator x y
  unfolding computes
  integers o.Power = whole spec.power
  integers o.Multiply = whole (λ a b. spec.integer (a *ℤ b)) ∙ (λ i. spec.product_seen x y (sym is.sees i) (sym at.sees i))
  integers o.Div = whole (spec.of_natural int_div)
  integers o.Mod = whole (spec.of_natural int_rem)
  integers o.Add = whole (λ a b. spec.integer (a +ℤ b)) ∙ (λ i. spec.sum_seen x y (sym is.sees i) (sym at.sees i))
  integers o.Subtract = whole (λ a b. spec.integer (a -ℤ b)) ∙ (λ i. spec.remainder_seen x y (sym is.sees i))
  integers o.And = truthless conjunction
  integers o.Or = truthless disjunction
  integers o.Xor = truthless exclusive_disjunction
  integers operator = ordered operator refl

-- ---- of two values of LOGICAL

module _ (x y : Value) (l m : Logical) (is : IsBeneath x (Value-F.Log l)) (at : IsBeneath y (Value-F.Log m)) where
  truths_stand : Stand x y (nat_cmp (rank l) (rank m))
  truths_stand = stands x y (Truth l) (Truth m) _ is.sees at.sees is.holds at.holds (λ e. refl) (λ e. refl) refl refl refl (λ found. refl)

  numberless : (meaning : ℤ → ℤ → Value) → v.Indet ≡ on_integers meaning x y
  numberless meaning = λ i. spec.of_integers meaning (integer_in (sym is.is i)) (integer_in (sym at.is i))

  truth : (meaning : Logical → Logical → Logical) → v.Log (meaning l m) ≡ on_truths meaning x y
  truth meaning = λ i. spec.of_truths meaning (truth_in (sym is.sees i)) (truth_in (sym at.sees i))

  pub truths : (operator : BinaryOperator) → of_truths operator l m ≡ applied operator x y
  unfolding computes
  truths o.Power = numberless spec.power
  truths o.Multiply = numberless (λ a b. spec.integer (a *ℤ b)) ∙ (λ i. spec.product_seen x y (sym is.sees i) (sym at.sees i))
  truths o.Div = numberless (spec.of_natural int_div)
  truths o.Mod = numberless (spec.of_natural int_rem)
  truths o.Add = numberless (λ a b. spec.integer (a +ℤ b)) ∙ (λ i. spec.sum_seen x y (sym is.sees i) (sym at.sees i))
  truths o.Subtract = numberless (λ a b. spec.integer (a -ℤ b)) ∙ (λ i. spec.remainder_seen x y (sym is.sees i))
  truths o.And = truth conjunction
  truths o.Or = truth disjunction
  truths o.Xor = truth exclusive_disjunction
  truths operator = related x y _ truths_stand operator refl

-- ---- of two texts

module _ (x y : Value) (text other : List ℕ) (is : IsBeneath x (Value-F.Str text)) (at : IsBeneath y (Value-F.Str other)) where
  texts_stand : Stand x y (slice_cmp nat_cmp text other)
  texts_stand = stands x y (Text text) (Text other) _ is.sees at.sees is.holds at.holds (λ e. refl) (λ e. refl) refl refl refl (λ found. refl)

  numberless_text : (meaning : ℤ → ℤ → Value) → v.Indet ≡ on_integers meaning x y
  numberless_text meaning = λ i. spec.of_integers meaning (integer_in (sym is.is i)) (integer_in (sym at.is i))

  truthless_text : (meaning : Logical → Logical → Logical) → v.Indet ≡ on_truths meaning x y
  truthless_text meaning = λ i. spec.of_truths meaning (truth_in (sym is.sees i)) (truth_in (sym at.sees i))

  pub texts : (operator : BinaryOperator) → of_texts operator text other ≡ applied operator x y
  unfolding computes
  texts o.Power = numberless_text spec.power
  texts o.Multiply = numberless_text (λ a b. spec.integer (a *ℤ b)) ∙ (λ i. spec.product_seen x y (sym is.sees i) (sym at.sees i))
  texts o.Div = numberless_text (spec.of_natural int_div)
  texts o.Mod = numberless_text (spec.of_natural int_rem)
  texts o.Add = λ i. spec.sum_seen x y (sym is.sees i) (sym at.sees i)
  texts o.Subtract = numberless_text (λ a b. spec.integer (a -ℤ b)) ∙ (λ i. spec.remainder_seen x y (sym is.sees i))
  texts o.And = truthless_text conjunction
  texts o.Or = truthless_text disjunction
  texts o.Xor = truthless_text exclusive_disjunction
  texts operator = related x y _ texts_stand operator refl

-- ---- of decimals

-- two numbers of which one is no whole number
module _ (x y : Value) (n m : ℤ) (is : seen x ≡ Number n) (at : seen y ≡ Number m) (holds : holds_instance x ≡ false) (holding : holds_instance y ≡ false) (none : (meaning : ℤ → ℤ → Value) → v.Indet ≡ on_integers meaning x y) where
  decimals_stand : Stand x y (int_cmp n m)
  decimals_stand = stands x y (Number n) (Number m) _ is at holds holding (λ e. refl) (λ e. refl) refl refl refl (λ found. refl)

  truthless_decimals : (meaning : Logical → Logical → Logical) → v.Indet ≡ on_truths meaning x y
  truthless_decimals meaning = λ i. spec.of_truths meaning (truth_in (sym is i)) (truth_in (sym at i))

  of_numbers : (operator : BinaryOperator) → by_order operator (int_cmp n m) ≡ applied operator x y
  unfolding computes
  of_numbers o.Power = none spec.power
  of_numbers o.Multiply = none (λ a b. spec.integer (a *ℤ b)) ∙ (λ i. spec.product_seen x y (sym is i) (sym at i))
  of_numbers o.Div = none (spec.of_natural int_div)
  of_numbers o.Mod = none (spec.of_natural int_rem)
  of_numbers o.Add = none (λ a b. spec.integer (a +ℤ b)) ∙ (λ i. spec.sum_seen x y (sym is i) (sym at i))
  of_numbers o.Subtract = none (λ a b. spec.integer (a -ℤ b)) ∙ (λ i. spec.remainder_seen x y (sym is i))
  of_numbers o.And = truthless_decimals conjunction
  of_numbers o.Or = truthless_decimals disjunction
  of_numbers o.Xor = truthless_decimals exclusive_disjunction
  of_numbers operator = related x y _ decimals_stand operator refl

module _ (x y : Value) where
  pub decimals : (a b : Decimal) → IsBeneath x (Value-F.Dec a) → IsBeneath y (Value-F.Dec b) → (operator : BinaryOperator) → by_order operator (int_cmp (scaled a) (scaled b)) ≡ applied operator x y
  decimals a b is at = of_numbers x y _ _ is.sees at.sees is.holds at.holds (λ meaning i. spec.of_integers meaning (integer_in (sym is.is i)) (integer_in (sym at.is i)))

  pub whole_and_decimal : (m : ℤ) (b : Decimal) → IsBeneath x (Value-F.Int m) → IsBeneath y (Value-F.Dec b) → (operator : BinaryOperator) → by_order operator (int_cmp (scaled_whole m) (scaled b)) ≡ applied operator x y
  whole_and_decimal m b is at = of_numbers x y _ _ is.sees at.sees is.holds at.holds (λ meaning i. spec.of_integers meaning (integer_in (sym is.is i)) (integer_in (sym at.is i)))

  pub decimal_and_whole : (a : Decimal) (n : ℤ) → IsBeneath x (Value-F.Dec a) → IsBeneath y (Value-F.Int n) → (operator : BinaryOperator) → by_order operator (int_cmp (scaled a) (scaled_whole n)) ≡ applied operator x y
  decimal_and_whole a n is at = of_numbers x y _ _ is.sees at.sees is.holds at.holds (λ meaning i. spec.of_integers meaning (integer_in (sym is.is i)) (integer_in (sym at.is i)))
