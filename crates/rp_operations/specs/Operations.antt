-- What the operators of EXPRESS (ISO 10303-11:1994, clause 12) give of values.
use Rattle.std.specs.Prelude.{ℤ, pos, Bool, true, false, ◌&&◌, ◌||◌, if◌then◌else◌, List, [], ◌∷◌, ◌++◌}
use Rattle.std.specs.List.{list_any}
use Rattle.rp_numbers.specs.Logical.{of_test, is_true}
use Rattle.rp_numbers.specs.declared.Logical.{Logical}
use Rattle.rp_numbers.specs.declared.Logical.TheVariants.{False, Unknown, True}
use Rattle.rp_value.specs.Elements.{Elements}
use Rattle.rp_operations.specs.Seen.{Seen, Indeterminate, Aggregate, seen, holds_instance, is_indeterminate}
use Rattle.rp_operations.specs.Order.{compare_scalars}
use Rattle.rp_operations.specs.Equality.{equality, equal_scalars, same_scalars}
use Rattle.rp_operations.specs.declared.compared.Compared.{Compared}
use Rattle.rp_operations.specs.declared.compared.Compared.TheVariants as c
use Rattle.rp_value.specs.declared.value.AggregateKind.{AggregateKind}
use Rattle.rp_value.specs.declared.value.AggregateKind.TheVariants as k
use Rattle.rp_value.specs.declared.value.Value.{Value}
use Rattle.rp_value.specs.declared.value.Value.TheVariants as v

-- ---- comparisons

abbrev pub of_equality : Logical → Compared
of_equality True = c.Equal
of_equality False = c.Differs
of_equality Unknown = c.Unknown

abbrev pub compare_seen : Logical → Seen → Seen → Compared
compare_seen equal (Aggregate kind xs) (Aggregate other ys) = of_equality equal
compare_seen equal s t = compare_scalars s t

-- of two values as `=` and `<` see them: nothing is known with `?`, with an instance at any depth, and of two kinds
unfoldable pub compare : Value → Value → Compared
compare x y =
    if holds_instance x || holds_instance y then c.Unknown
    else compare_seen (equality equal_scalars x y) (seen x) (seen y)

-- `x :=: y`
unfoldable pub same : Value → Value → Logical
same = equality same_scalars

-- whether `x :=: y` is TRUE, which is what operators on aggregates ask
abbrev pub is_same : Value → Value → Bool
is_same x y = is_true (same x y)

-- ---- elements of aggregates

-- those of the left, then those of the right that are not yet in it
abbrev pub set_union : List Value → List Value → List Value
set_union xs [] = xs
set_union xs (y ∷ ys) = set_union (if list_any (is_same y) xs then xs else xs ++ y ∷ []) ys

-- all but the first that passes
abbrev pub without_first : (Value → Bool) → List Value → List Value
without_first passes [] = []
without_first passes (x ∷ xs) = if passes x then xs else x ∷ without_first passes xs

-- those of the left that find an equal one left on the right, each using up the first such
abbrev pub common : List Value → List Value → List Value
common [] ys = []
common (x ∷ xs) ys = if list_any (is_same x) ys then x ∷ common xs (without_first (is_same x) ys) else common xs ys

-- those of the left, less the first equal one left for each of the right
abbrev pub less : List Value → List Value → List Value
less xs [] = xs
less xs (y ∷ ys) = less (without_first (is_same y) xs) ys

-- whether each of the left has an equal one of its own on the right
abbrev pub all_within : List Value → List Value → Bool
all_within [] ys = true
all_within (x ∷ xs) ys = list_any (is_same x) ys && all_within xs (without_first (is_same x) ys)

-- ---- aggregates

abbrev pub is_set : AggregateKind → Bool
is_set k.Set = true
is_set kind = false

abbrev pub aggregate : AggregateKind → ℤ → List Value → Value
aggregate kind low items = v.Agg kind (record { low = low; items = items })

-- The aggregate of these elements, of the kind and from the index of the left; but of those of the right, where the left is an
-- initialiser.
abbrev pub like : AggregateKind → Elements Value → AggregateKind → Elements Value → List Value → Value
like k.Initializer xs other ys items = aggregate other ys.low items
like kind xs other ys items = aggregate kind xs.low items

-- of an aggregate of this kind and others
abbrev pub joined : AggregateKind → List Value → List Value → List Value
joined kind xs ys = if is_set kind then set_union xs ys else xs ++ ys

abbrev pub union_seen : Value → Value → Seen → Seen → Value
union_seen x y Indeterminate t = v.Indet
union_seen x y s Indeterminate = v.Indet
union_seen x y (Aggregate kind xs) (Aggregate other ys) = like kind xs other ys (joined kind xs.items ys.items)
union_seen x y (Aggregate kind xs) t = aggregate kind xs.low (joined kind xs.items (y ∷ []))
union_seen x y s (Aggregate other ys) = aggregate other ys.low (x ∷ ys.items)
union_seen x y s t = v.Indet

abbrev pub is_element : Seen → Bool
is_element Indeterminate = false
is_element (Aggregate kind xs) = false
is_element s = true

-- `+` where a side is an aggregate; else `?`
unfoldable pub union : Value → Value → Value
union x y = union_seen x y (seen x) (seen y)

abbrev pub intersection_seen : Seen → Seen → Value
intersection_seen (Aggregate kind xs) (Aggregate other ys) = aggregate (if is_set kind || is_set other then k.Set else k.Bag) (pos 1) (common xs.items ys.items)
intersection_seen s t = v.Indet

-- `*` of two aggregates; else `?`
unfoldable pub intersection : Value → Value → Value
intersection x y = intersection_seen (seen x) (seen y)

abbrev pub difference_seen : Value → Seen → Seen → Value
difference_seen y (Aggregate kind xs) Indeterminate = v.Indet
difference_seen y (Aggregate kind xs) (Aggregate other ys) = like kind xs other ys (less xs.items ys.items)
difference_seen y (Aggregate kind xs) t = aggregate kind xs.low (less xs.items (y ∷ []))
difference_seen y s t = v.Indet

-- `-` where the left is an aggregate; else `?`
unfoldable pub difference : Value → Value → Value
difference x y = difference_seen y (seen x) (seen y)

-- ---- tests of aggregates

-- of a value in an aggregate, by an equality
abbrev pub membership_by : (Value → Value → Bool) → Value → Seen → Value
membership_by equal x (Aggregate kind ys) = v.Log (
    if list_any (equal x) ys.items then True
    else if is_indeterminate (seen x) || list_any (λ y. is_indeterminate (seen y)) ys.items then Unknown
    else False)
membership_by equal x Indeterminate = v.Log Unknown
membership_by equal x t = v.Indet

-- `x IN a`, where `a` is an aggregate or `?`; else `?`
unfoldable pub membership : Value → Value → Value
membership x a = membership_by is_same x (seen a)

abbrev pub is_equal : Compared → Bool
is_equal c.Equal = true
is_equal o = false

-- whether `x = y` is TRUE
abbrev pub are_equal : Value → Value → Bool
are_equal x y = is_equal (compare x y)

-- VALUE_IN(a, x): the same by `=`
unfoldable pub value_membership : Value → Value → Value
value_membership x a = membership_by are_equal x (seen a)

abbrev pub has_places : AggregateKind → Bool
has_places k.Array = true
has_places k.List = true
has_places kind = false

abbrev pub is_within_seen : Seen → Seen → Value
is_within_seen (Aggregate kind xs) (Aggregate other ys) = if has_places kind || has_places other then v.Indet else v.Log (of_test (all_within xs.items ys.items))
is_within_seen s t = v.Indet

-- `x <= y` and `y >= x` of two aggregates of which none is a LIST or an ARRAY; else `?`
unfoldable pub is_within : Value → Value → Value
is_within x y = is_within_seen (seen x) (seen y)
