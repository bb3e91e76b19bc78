-- Comparisons and equalities with their sides exchanged.
use Rattle.std.proofs.Common.{◌≡◌, ℕ, zero, suc, ◌+◌, Bool, true, false, not, ◌==◌, ◌||◌, ◌&&◌, if◌then◌else◌, List, [], ◌∷◌, ◌++◌, length, refl, sym, ◌∙◌, ap, arith}
use Rattle.std.proofs.lemmas.List.Folds.{list_any-append, list_all-append}
use Rattle.std.specs.Cmp.{IsTotalOrder, bool_cmp_total}
use Rattle.std.proofs.lemmas.Cmp.{nat_cmp_total, int_cmp_total, nat_list_cmp_total, lists_total}
use Rattle.std.specs.List.{list_any, list_all}
use Rattle.std.specs.Ordering.{ordering_reverse, nat_cmp}
use Rattle.std.specs.declared.cmp.Ordering.{Ordering}
use Rattle.std.specs.declared.cmp.Ordering.TheVariants as o
use Rattle.rp_numbers.specs.Logical.{conjunction, of_test, rank}
use Rattle.rp_numbers.specs.declared.Logical.{Logical}
use Rattle.rp_numbers.specs.declared.Logical.TheVariants as l
use Rattle.rp_operations.specs.Seen.{Seen, Indeterminate, Number, Text, Bits, Truth, Item, Instance, Aggregate, seen, depth, holds_instance, is_indeterminate, same_kind}
use Rattle.rp_operations.specs.Order.{of_ordering, compare_scalars, equals}
use Rattle.rp_operations.specs.Equality.{is_bag_or_set, equal_in_places, occurrences, occurs_equally, occur_equally, equal_elements, equal_seen, equal_within, equality, equal_scalars, same_scalars}
use Rattle.rp_operations.specs.Operations.{of_equality, compare_seen, compare, same}
use Rattle.rp_operations.specs.Laws.{exchanged}
use Rattle.rp_operations.specs.declared.compared.Compared.{Compared}
use Rattle.rp_operations.specs.declared.compared.Compared.TheVariants as c
use Rattle.rp_value.specs.declared.value.Value.{Value}

-- ---- tests of two

or_swapped : (a b : Bool) → (a || b) ≡ (b || a)
or_swapped true true = refl
or_swapped true false = refl
or_swapped false true = refl
or_swapped false false = refl

and_swapped : (a b : Bool) → (a && b) ≡ (b && a)
and_swapped true true = refl
and_swapped true false = refl
and_swapped false true = refl
and_swapped false false = refl

alike_swapped : (a b : ℕ) → (a == b) ≡ (b == a)
alike_swapped a b = grind arith

-- ---- what is no aggregate

reversed : (r : Ordering) → of_ordering (ordering_reverse r) ≡ exchanged (of_ordering r)
reversed o.Less = refl
reversed o.Equal = refl
reversed o.Greater = refl

ordered : {K : Type 0} {R : K → K → Ordering} → IsTotalOrder R → (x y : K) → of_ordering (R y x) ≡ exchanged (of_ordering (R x y))
ordered {R = R} total x y = ap of_ordering (total.antisymm y x) ∙ reversed (R x y)

of_one : (t : Bool) (d e : Compared) → e ≡ exchanged d → (if t then e else c.Unknown) ≡ exchanged (if t then d else c.Unknown)
of_one true d e is = is
of_one false d e is = refl

scalars_exchanged : (s t : Seen) → compare_scalars t s ≡ exchanged (compare_scalars s t)
scalars_exchanged (Number n) (Number m) = ordered int_cmp_total n m
scalars_exchanged (Text s) (Text t) = ordered nat_list_cmp_total s t
scalars_exchanged (Bits s) (Bits t) = ordered (lists_total bool_cmp_total) s t
scalars_exchanged (Truth x) (Truth y) = ordered nat_cmp_total (rank x) (rank y)
scalars_exchanged (Item enumeration place) (Item other at) =
    ap (λ b. if b then of_ordering (nat_cmp at place) else c.Unknown) (alike_swapped other enumeration)
    ∙ of_one (enumeration == other) (of_ordering (nat_cmp place at)) (of_ordering (nat_cmp at place)) (ordered nat_cmp_total place at)
scalars_exchanged Indeterminate Indeterminate = refl
scalars_exchanged (Instance name) (Instance other) = refl
scalars_exchanged (Aggregate kind xs) (Aggregate other ys) = refl
scalars_exchanged s t = refl

equals_exchanged : (d : Compared) → equals (exchanged d) ≡ equals d
equals_exchanged c.Less = refl
equals_exchanged c.Equal = refl
equals_exchanged c.Greater = refl
equals_exchanged c.Differs = refl
equals_exchanged c.Unknown = refl

equal_scalars_swapped : (s t : Seen) → equal_scalars t s ≡ equal_scalars s t
equal_scalars_swapped s t = ap equals (scalars_exchanged s t) ∙ equals_exchanged (compare_scalars s t)

kinds_swapped : (s t : Seen) → same_kind t s ≡ same_kind s t
kinds_swapped (Item enumeration place) (Item other at) = alike_swapped other enumeration
kinds_swapped Indeterminate Indeterminate = refl
kinds_swapped (Number n) (Number m) = refl
kinds_swapped (Text v) (Text u) = refl
kinds_swapped (Bits v) (Bits u) = refl
kinds_swapped (Truth x) (Truth y) = refl
kinds_swapped (Instance name) (Instance other) = refl
kinds_swapped (Aggregate kind xs) (Aggregate other ys) = refl
kinds_swapped s t = refl

abbrev by_kind : Seen → Seen → Logical
by_kind s t = if is_indeterminate s || is_indeterminate t then l.Unknown else if same_kind s t then equal_scalars s t else l.False

by_kinds : (s t : Seen) → by_kind t s ≡ by_kind s t
by_kinds s t i =
    if or_swapped (is_indeterminate t) (is_indeterminate s) i then l.Unknown
    else if kinds_swapped s t i then equal_scalars_swapped s t i
    else l.False

same_scalars_swapped : (s t : Seen) → same_scalars t s ≡ same_scalars s t
same_scalars_swapped (Instance name) (Instance other) = ap of_test (alike_swapped other name)
same_scalars_swapped Indeterminate Indeterminate = by_kinds Indeterminate Indeterminate
same_scalars_swapped (Number n) (Number m) = by_kinds (Number n) (Number m)
same_scalars_swapped (Text v) (Text u) = by_kinds (Text v) (Text u)
same_scalars_swapped (Bits v) (Bits u) = by_kinds (Bits v) (Bits u)
same_scalars_swapped (Truth x) (Truth y) = by_kinds (Truth x) (Truth y)
same_scalars_swapped (Item enumeration place) (Item other at) = by_kinds (Item enumeration place) (Item other at)
same_scalars_swapped (Aggregate kind xs) (Aggregate other ys) = by_kinds (Aggregate kind xs) (Aggregate other ys)
same_scalars_swapped s t = by_kinds s t

-- ---- elements

module _ (equal : Value → Value → Logical) (swapped : (x y : Value) → equal y x ≡ equal x y) where
  places_swapped : (xs ys : List Value) → equal_in_places equal ys xs ≡ equal_in_places equal xs ys
  places_swapped [] [] = refl
  places_swapped [] (y ∷ ys) = refl
  places_swapped (x ∷ xs) [] = refl
  places_swapped (x ∷ xs) (y ∷ ys) = λ i. conjunction (swapped x y i) (places_swapped xs ys i)

  any_swapped : (p : Value → Bool) (xs ys : List Value) → list_any p (ys ++ xs) ≡ list_any p (xs ++ ys)
  any_swapped p xs ys = list_any-append p ys xs ∙ or_swapped (list_any p ys) (list_any p xs) ∙ sym (list_any-append p xs ys)

  all_swapped : (p : Value → Bool) (xs ys : List Value) → list_all p (ys ++ xs) ≡ list_all p (xs ++ ys)
  all_swapped p xs ys = list_all-append p ys xs ∙ and_swapped (list_all p ys) (list_all p xs) ∙ sym (list_all-append p xs ys)

  equally_swapped : (xs ys : List Value) → occur_equally equal ys xs ≡ occur_equally equal xs ys
  equally_swapped xs ys =
      (λ i. list_all (λ x. alike_swapped (occurrences equal x ys) (occurrences equal x xs) i) (ys ++ xs))
      ∙ all_swapped (occurs_equally equal xs ys) xs ys

  elements_swapped : (are_placed : Bool) (xs ys : List Value) → equal_elements equal are_placed ys xs ≡ equal_elements equal are_placed xs ys
  elements_swapped are_placed xs ys i =
      if not (alike_swapped (length ys) (length xs) i) then l.False
      else if are_placed then places_swapped xs ys i
      else if any_swapped (λ x. is_indeterminate (seen x)) xs ys i then l.Unknown
      else of_test (equally_swapped xs ys i)

-- ---- equalities

module _ (scalars : Seen → Seen → Logical) (scalars_swapped : (s t : Seen) → scalars t s ≡ scalars s t) where
  seen_swapped : (equal : Value → Value → Logical) → ((x y : Value) → equal y x ≡ equal x y) → (s t : Seen) → equal_seen scalars equal t s ≡ equal_seen scalars equal s t
  seen_swapped equal swapped (Aggregate kind xs) (Aggregate other ys) =
      ap (λ b. equal_elements equal (not b) ys.items xs.items) (or_swapped (is_bag_or_set other) (is_bag_or_set kind))
      ∙ elements_swapped equal swapped (not (is_bag_or_set kind || is_bag_or_set other)) xs.items ys.items
  seen_swapped equal swapped Indeterminate Indeterminate = scalars_swapped Indeterminate Indeterminate
  seen_swapped equal swapped (Number n) (Number m) = scalars_swapped (Number n) (Number m)
  seen_swapped equal swapped (Text v) (Text u) = scalars_swapped (Text v) (Text u)
  seen_swapped equal swapped (Bits v) (Bits u) = scalars_swapped (Bits v) (Bits u)
  seen_swapped equal swapped (Truth x) (Truth y) = scalars_swapped (Truth x) (Truth y)
  seen_swapped equal swapped (Item enumeration place) (Item other at) = scalars_swapped (Item enumeration place) (Item other at)
  seen_swapped equal swapped (Instance name) (Instance other) = scalars_swapped (Instance name) (Instance other)
  seen_swapped equal swapped s t = scalars_swapped s t

  within_swapped : (n : ℕ) (x y : Value) → equal_within scalars n y x ≡ equal_within scalars n x y
  within_swapped zero x y = scalars_swapped (seen x) (seen y)
  within_swapped (suc n) x y = seen_swapped (equal_within scalars n) (within_swapped n) (seen x) (seen y)

  equality_swapped : (x y : Value) → equality scalars y x ≡ equality scalars x y
  unfolding equality
  equality_swapped x y =
      let sum : depth y + depth x ≡ depth x + depth y = omega arith in
      ap (λ n. equal_within scalars n y x) sum ∙ within_swapped (depth x + depth y) x y

pub same_swapped : (x y : Value) → same y x ≡ same x y
unfolding same
same_swapped = equality_swapped same_scalars same_scalars_swapped

-- ---- comparisons

aggregates_exchanged : (e : Logical) → of_equality e ≡ exchanged (of_equality e)
aggregates_exchanged l.True = refl
aggregates_exchanged l.False = refl
aggregates_exchanged l.Unknown = refl

seen_exchanged : (e d : Logical) → d ≡ e → (s t : Seen) → compare_seen d t s ≡ exchanged (compare_seen e s t)
seen_exchanged e d is (Aggregate kind xs) (Aggregate other ys) = ap of_equality is ∙ aggregates_exchanged e
seen_exchanged e d is Indeterminate Indeterminate = scalars_exchanged Indeterminate Indeterminate
seen_exchanged e d is (Number n) (Number m) = scalars_exchanged (Number n) (Number m)
seen_exchanged e d is (Text v) (Text u) = scalars_exchanged (Text v) (Text u)
seen_exchanged e d is (Bits v) (Bits u) = scalars_exchanged (Bits v) (Bits u)
seen_exchanged e d is (Truth x) (Truth y) = scalars_exchanged (Truth x) (Truth y)
seen_exchanged e d is (Item enumeration place) (Item other at) = scalars_exchanged (Item enumeration place) (Item other at)
seen_exchanged e d is (Instance name) (Instance other) = scalars_exchanged (Instance name) (Instance other)
seen_exchanged e d is s t = scalars_exchanged s t

unless_unknown : (t : Bool) (d e : Compared) → e ≡ exchanged d → (if t then c.Unknown else e) ≡ exchanged (if t then c.Unknown else d)
unless_unknown true d e is = refl
unless_unknown false d e is = is

pub compare_exchanged : (x y : Value) → compare y x ≡ exchanged (compare x y)
unfolding compare
compare_exchanged x y =
    let d = compare_seen (equality equal_scalars x y) (seen x) (seen y) in
    let e = compare_seen (equality equal_scalars y x) (seen y) (seen x) in
    ap (λ b. if b then c.Unknown else e) (or_swapped (holds_instance y) (holds_instance x))
    ∙ unless_unknown (holds_instance x || holds_instance y) d e (seen_exchanged (equality equal_scalars x y) (equality equal_scalars y x) (equality_swapped equal_scalars equal_scalars_swapped x y) (seen x) (seen y))
