-- `=` and `:=:` of values. They differ in what they say of values that are no aggregates, of which the first argument tells here.
use Rattle.std.specs.Prelude.{ℕ, zero, suc, ◌+◌, Bool, true, false, not, ◌||◌, ◌==◌, if◌then◌else◌, List, [], ◌∷◌, ◌++◌, length}
use Rattle.std.specs.List.{list_all, list_any, count_by}
use Rattle.rp_numbers.specs.Logical.{conjunction, of_test, is_true}
use Rattle.rp_numbers.specs.declared.Logical.{Logical}
use Rattle.rp_numbers.specs.declared.Logical.TheVariants.{False, Unknown, True}
use Rattle.rp_operations.specs.Seen.{Seen, Instance, Aggregate, seen, depth, is_indeterminate, same_kind}
use Rattle.rp_operations.specs.Order.{compare_scalars, equals}
use Rattle.rp_value.specs.declared.value.AggregateKind.{AggregateKind}
use Rattle.rp_value.specs.declared.value.AggregateKind.TheVariants.{Bag, Set}
use Rattle.rp_value.specs.declared.value.Value.{Value}

abbrev pub is_bag_or_set : AggregateKind → Bool
is_bag_or_set Bag = true
is_bag_or_set Set = true
is_bag_or_set kind = false

module _ (equal : Value → Value → Logical) where
  -- place by place
  abbrev pub equal_in_places : List Value → List Value → Logical
  equal_in_places (x ∷ xs) (y ∷ ys) = conjunction (equal x y) (equal_in_places xs ys)
  equal_in_places [] ys = True
  equal_in_places xs [] = True

  abbrev pub occurrences : Value → List Value → ℕ
  occurrences x = count_by (λ y. is_true (equal y x))

  abbrev pub occurs_equally : List Value → List Value → Value → Bool
  occurs_equally xs ys x = occurrences x xs == occurrences x ys

  -- each value of either side occurs equally often on both
  abbrev pub occur_equally : List Value → List Value → Bool
  occur_equally xs ys = list_all (occurs_equally xs ys) (xs ++ ys)

  abbrev pub equal_elements : Bool → List Value → List Value → Logical
  equal_elements are_placed xs ys =
      if not (length xs == length ys) then False
      else if are_placed then equal_in_places xs ys
      else if list_any (λ x. is_indeterminate (seen x)) (xs ++ ys) then Unknown
      else of_test (occur_equally xs ys)

module _ (scalars : Seen → Seen → Logical) where
  -- Where a side is a BAG or a SET, the elements have no places. An initialiser goes as a LIST.
  abbrev pub equal_seen : (Value → Value → Logical) → Seen → Seen → Logical
  equal_seen equal (Aggregate kind xs) (Aggregate other ys) = equal_elements equal (not (is_bag_or_set kind || is_bag_or_set other)) xs.items ys.items
  equal_seen equal s t = scalars s t

  -- of values of at most this depth
  abbrev pub equal_within : ℕ → Value → Value → Logical
  equal_within zero x y = scalars (seen x) (seen y)
  equal_within (suc n) x y = equal_seen (equal_within n) (seen x) (seen y)

  unfoldable pub equality : Value → Value → Logical
  equality x y = equal_within (depth x + depth y) x y

-- `=`: with `?`, an instance or two kinds, nothing is known
abbrev pub equal_scalars : Seen → Seen → Logical
equal_scalars s t = equals (compare_scalars s t)

-- `:=:`: two kinds are unequal
abbrev pub same_scalars : Seen → Seen → Logical
same_scalars (Instance name) (Instance other) = of_test (name == other)
same_scalars s t =
    if is_indeterminate s || is_indeterminate t then Unknown
    else if same_kind s t then equals (compare_scalars s t)
    else False
