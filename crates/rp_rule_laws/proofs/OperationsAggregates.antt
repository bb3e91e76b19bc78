-- How many of a class among the elements of both sides are in the aggregates that the operators give.
use Rattle.std.proofs.Common.{◌≡◌, ℕ, ℤ, pos, ◌+◌, ◌-◌, ◌≤◌, min, max, Bool, true, false, not, ◌||◌, ◌↔◌, List, [], ◌∷◌, ◌++◌, if◌then◌else◌, refl, sym, ap, ◌∙◌, arith}
use Rattle.std.specs.List.{count_by}
use Rattle.rp_numbers.specs.Logical.{of_test}
use Rattle.rp_numbers.specs.declared.Logical.{Logical}
use Rattle.rp_numbers.specs.declared.Logical.TheVariants as l
use Rattle.rp_operations.specs.Operations.{aggregate, all_within, common, difference, difference_seen, has_places, intersection, intersection_seen, is_set, is_within, is_within_seen, joined, less, like, set_union, union, union_seen}
use Rattle.rp_operations.specs.Seen.{Seen, Indeterminate, Truth, Aggregate, seen, is_indeterminate}
use Rattle.rp_operators.proofs.Sights.{sees-Agg, sees-Log}
use Rattle.rp_rule_laws.proofs.OperationsCounts.{joined_count, set_union_count, common_count, less_count, at_most_within, within_at_most}
use Rattle.rp_rule_laws.specs.Operations.{HasAtMost, HasCount, HaveClasses, IsClassAmong, IsClassOfBoth, IsDifference, IsInclusionTest, IsIntersection, IsJoin, IsSetUnion}
use Rattle.rp_rule_laws.specs.Operations.{count_in, elements, elements_seen, has_no_places, is_aggregate, is_set_seen}
use Rattle.rp_value.specs.Elements.{Elements}
use Rattle.rp_value.specs.declared.value.AggregateKind.{AggregateKind}
use Rattle.rp_value.specs.declared.value.AggregateKind.TheVariants as k
use Rattle.rp_value.specs.declared.value.Value.{Value}
use Rattle.rp_value.specs.declared.value.Value.TheVariants as v

-- ---- aggregates that are made

module _ (p : Value → Bool) (n : ℕ) where
  made : (kind : AggregateKind) (low : ℤ) (items : List Value) → count_by p items ≡ n → HasCount p n (aggregate kind low items)
  made kind low items h =
      let z = aggregate kind low items in
      let sight : Aggregate kind (record { low = low; items = items }) ≡ seen z = sees-Agg z kind (record { low = low; items = items }) refl in
      record {
        aggregate = ap is_aggregate (sym sight);
        count = ap (λ (s : Seen). count_by p (elements_seen z s)) (sym sight) ∙ h;
      }

  made_like : (kind : AggregateKind) (xs : Elements Value) (other : AggregateKind) (ys : Elements Value) (items : List Value)
      → count_by p items ≡ n → HasCount p n (like kind xs other ys items)
  made_like k.Initializer xs other ys items h = made other ys.low items h
  made_like k.Array xs other ys items h = made k.Array xs.low items h
  made_like k.List xs other ys items h = made k.List xs.low items h
  made_like k.Bag xs other ys items h = made k.Bag xs.low items h
  made_like k.Set xs other ys items h = made k.Set xs.low items h

-- ---- union

module _ (p : Value → Bool) (kind : AggregateKind) (xs ys : List Value) where
  joins : is_set kind ≡ false → count_by p (joined kind xs ys) ≡ count_by p xs + count_by p ys
  joins is = ap (λ (b : Bool). count_by p (if b then set_union xs ys else xs ++ ys)) is ∙ joined_count p xs ys

  unites : is_set kind ≡ true → IsClassAmong (xs ++ ys) p → count_by p (joined kind xs ys) ≡ max (count_by p xs) (min 1 (count_by p ys))
  unites is class = ap (λ (b : Bool). count_by p (if b then set_union xs ys else xs ++ ys)) is ∙ set_union_count p xs ys class

module _ (p : Value → Bool) (x y : Value) where
  joined_seen : (s t : Seen) → is_indeterminate s ≡ false → is_indeterminate t ≡ false → (is_aggregate s || is_aggregate t) ≡ true → is_set_seen s ≡ false
      → HasCount p (count_by p (elements_seen x s) + count_by p (elements_seen y t)) (union_seen x y s t)
  joined_seen Indeterminate t a b one is = absurd (cc)
  joined_seen (Aggregate kind xs) Indeterminate a b one is = absurd (cc)
  joined_seen (Aggregate kind xs) (Aggregate other ys) a b one is = made_like p _ kind xs other ys (joined kind xs.items ys.items) (joins p kind xs.items ys.items is)
  joined_seen (Aggregate kind xs) t a b one is = made p _ kind xs.low (joined kind xs.items (y ∷ [])) (joins p kind xs.items (y ∷ []) is)
  joined_seen s Indeterminate a b one is = absurd (cc)
  joined_seen s (Aggregate other ys) a b one is = made p _ other ys.low (x ∷ ys.items) (joined_count p (x ∷ []) ys.items)
  joined_seen s t a b one is = absurd (cc)

  set_seen : (s t : Seen) → is_indeterminate t ≡ false → is_set_seen s ≡ true → IsClassAmong (elements_seen x s ++ elements_seen y t) p
      → HasCount p (max (count_by p (elements_seen x s)) (min 1 (count_by p (elements_seen y t)))) (union_seen x y s t)
  set_seen (Aggregate kind xs) Indeterminate b is class = absurd (cc)
  set_seen (Aggregate kind xs) (Aggregate other ys) b is class = made_like p _ kind xs other ys (joined kind xs.items ys.items) (unites p kind xs.items ys.items is class)
  set_seen (Aggregate kind xs) t b is class = made p _ kind xs.low (joined kind xs.items (y ∷ [])) (unites p kind xs.items (y ∷ []) is class)
  set_seen s t b is class = absurd (cc)

  pub joined_union : IsJoin x y → HasCount p (count_in p x + count_in p y) (union x y)
  unfolding union
  joined_union taken = joined_seen (seen x) (seen y) taken.left taken.right taken.aggregate taken.no_set

  pub set_union_of : IsSetUnion x y → IsClassOfBoth x y p → HasCount p (max (count_in p x) (min 1 (count_in p y))) (union x y)
  unfolding union
  set_union_of taken class = set_seen (seen x) (seen y) taken.right taken.left class

  pub once_united : IsSetUnion x y → IsClassOfBoth x y p → count_in p x ≤ 1 → HasCount p (min 1 (count_in p x + count_in p y)) (union x y)
  once_united taken class few =
      let many = set_union_of taken class in
      record { aggregate = many.aggregate; count = omega arith }

  -- ---- intersection

  intersection_by : (s t : Seen) → is_aggregate s ≡ true → is_aggregate t ≡ true → IsClassAmong (elements_seen x s ++ elements_seen y t) p
      → HasCount p (min (count_by p (elements_seen x s)) (count_by p (elements_seen y t))) (intersection_seen s t)
  intersection_by (Aggregate kind xs) (Aggregate other ys) a b class =
      made p _ (if is_set kind || is_set other then k.Set else k.Bag) (pos 1) (common xs.items ys.items) (common_count p xs.items ys.items class)
  intersection_by s t a b class = absurd (cc)

  pub intersection_count : IsIntersection x y → IsClassOfBoth x y p → HasCount p (min (count_in p x) (count_in p y)) (intersection x y)
  unfolding intersection
  intersection_count taken class = intersection_by (seen x) (seen y) taken.left taken.right class

  -- ---- difference

  difference_by : (s t : Seen) → is_aggregate s ≡ true → is_indeterminate t ≡ false → IsClassAmong (elements_seen x s ++ elements_seen y t) p
      → HasCount p (count_by p (elements_seen x s) - count_by p (elements_seen y t)) (difference_seen y s t)
  difference_by (Aggregate kind xs) Indeterminate a b class = absurd (cc)
  difference_by (Aggregate kind xs) (Aggregate other ys) a b class = made_like p _ kind xs other ys (less xs.items ys.items) (less_count p xs.items ys.items class)
  difference_by (Aggregate kind xs) t a b class = made p _ kind xs.low (less xs.items (y ∷ [])) (less_count p xs.items (y ∷ []) class)
  difference_by s t a b class = absurd (cc)

  pub difference_count : IsDifference x y → IsClassOfBoth x y p → HasCount p (count_in p x - count_in p y) (difference x y)
  unfolding difference
  difference_count taken class = difference_by (seen x) (seen y) taken.left taken.right class

-- ---- what lies within

truths : (a b : Logical) → v.Log a ≡ v.Log b → a ≡ b
truths a b h =
    let alike : Truth a ≡ Truth b = sees-Log (v.Log a) a refl ∙ ap seen h ∙ sym (sees-Log (v.Log b) b refl) in
    cc

positive : (b : Bool) → of_test b ≡ l.True → b ≡ true
positive true h = refl
positive false h = absurd (cc)

none_placed : (b c : Bool) → not b ≡ true → not c ≡ true → (b || c) ≡ false
none_placed true c h g = absurd (cc)
none_placed false true h g = absurd (cc)
none_placed false false h g = refl

module _ (x y : Value) where
  within_by : (s t : Seen) → has_no_places s ≡ true → has_no_places t ≡ true → is_within_seen s t ≡ v.Log (of_test (all_within (elements_seen x s) (elements_seen y t)))
  within_by (Aggregate kind xs) (Aggregate other ys) a b =
      ap (λ (c : Bool). if c then v.Indet else v.Log (of_test (all_within xs.items ys.items))) (none_placed (has_places kind) (has_places other) a b)
  within_by s t a b = absurd (cc)

  tested : IsInclusionTest x y → is_within x y ≡ v.Log (of_test (all_within (elements x) (elements y)))
  unfolding is_within
  tested taken = within_by (seen x) (seen y) taken.left taken.right

  module _ (taken : IsInclusionTest x y) (classes : HaveClasses (elements x ++ elements y)) where
    true_by : HasAtMost (elements x) (elements y) → is_within x y ≡ v.Log l.True
    true_by most = tested taken ∙ ap (λ (b : Bool). v.Log (of_test b)) (within_at_most (elements x) (elements y) classes most)

    most_by : is_within x y ≡ v.Log l.True → HasAtMost (elements x) (elements y)
    most_by is =
        at_most_within (elements x) (elements y)
        (positive (all_within (elements x) (elements y)) (truths (of_test (all_within (elements x) (elements y))) l.True (sym (tested taken) ∙ is)))

    pub nested_where : (is_within x y ≡ v.Log l.True) ↔ HasAtMost (elements x) (elements y)
    nested_where = (most_by, true_by)

    no_most : is_within x y ≡ v.Log l.False → HasAtMost (elements x) (elements y) → ⊥
    no_most is most = let same = truths l.False l.True (sym is ∙ true_by most) in absurd (cc)

    false_by : (never : HasAtMost (elements x) (elements y) → ⊥) (b : Bool) → all_within (elements x) (elements y) ≡ b → is_within x y ≡ v.Log l.False
    false_by never true is = absurd (never (at_most_within (elements x) (elements y) is))
    false_by never false is = tested taken ∙ ap (λ (b : Bool). v.Log (of_test b)) is

    pub apart_where : (is_within x y ≡ v.Log l.False) ↔ (HasAtMost (elements x) (elements y) → ⊥)
    apart_where = (no_most, λ never. false_by never (all_within (elements x) (elements y)) refl)
