-- Values that are neither `?` nor aggregates are the same exactly where they are seen alike.
use Rattle.std.proofs.Common.{◌≡◌, ℕ, ℤ, zero, suc, ◌+◌, ◌==◌, ◌&&◌, ◌↔◌, Bool, true, false, List, [], ◌∷◌, if◌then◌else◌, refl, sym, ap, ◌∙◌, arith}
use Rattle.std.proofs.lemmas.Bool.{eq-eqb, eqb-true}
use Rattle.std.proofs.lemmas.Cmp.{int_cmp_total, int_ranked, lists_total, nat_cmp_total, nat_list_cmp_total, ranked, tied_itself}
use Rattle.std.proofs.lemmas.List.Elements.{All-contains, All-from_recursion}
use Rattle.std.specs.Cmp.{bool_cmp_total}
use Rattle.std.specs.Cmp.Lexicographic.{slice_cmp}
use Rattle.std.specs.List.{AllByRecursion, Contains, list_all}
use Rattle.std.specs.Ordering.{nat_cmp, int_cmp, bool_cmp, ordering_then}
use Rattle.std.specs.declared.cmp.Ordering.{Ordering}
use Rattle.std.specs.declared.cmp.Ordering.TheVariants as o
use Rattle.rp_numbers.specs.Logical.{is_true, of_test, rank}
use Rattle.rp_numbers.specs.declared.Logical.{Logical}
use Rattle.rp_numbers.specs.declared.Logical.TheVariants as l
use Rattle.rp_operations.specs.Equality.{equal_seen, equal_within, equality, same_scalars}
use Rattle.rp_operations.specs.Operations.{is_element, is_same, same}
use Rattle.rp_operations.specs.Order.{equals, of_ordering}
use Rattle.rp_operations.specs.declared.compared.Compared.TheVariants as c
use Rattle.rp_operations.specs.Seen.{Seen, Indeterminate, Number, Text, Bits, Truth, Item, Instance, Aggregate, seen, depth}
use Rattle.rp_rule_laws.specs.Operations.{HasClass, HaveClasses, IsClassAmong}
use Rattle.rp_value.specs.declared.value.Value.{Value}

-- ---- orders

equal-number : (n m : ℕ) (r : Ordering) → r ≡ nat_cmp n m → is_true (equals (of_ordering r)) ≡ true → n ≡ m
equal-number n m o.Less is h = absurd (cc)
equal-number n m o.Equal is h = ranked n m o.Equal is
equal-number n m o.Greater is h = absurd (cc)

equal-integer : (n m : ℤ) (r : Ordering) → r ≡ int_cmp n m → is_true (equals (of_ordering r)) ≡ true → n ≡ m
equal-integer n m o.Less is h = absurd (cc)
equal-integer n m o.Equal is h = int_ranked n m o.Equal is
equal-integer n m o.Greater is h = absurd (cc)

equal-bit : (a b : Bool) → bool_cmp a b ≡ o.Equal → a ≡ b
equal-bit true true h = refl
equal-bit true false h = absurd (cc)
equal-bit false true h = absurd (cc)
equal-bit false false h = refl

equal-digit : (n m : ℕ) → nat_cmp n m ≡ o.Equal → n ≡ m
equal-digit n m h = ranked n m o.Equal (sym h)

then-first : (r s : Ordering) → is_true (equals (of_ordering (ordering_then r s))) ≡ true → r ≡ o.Equal
then-first o.Less s h = absurd (cc)
then-first o.Equal s h = refl
then-first o.Greater s h = absurd (cc)

then-second : (r s : Ordering) → is_true (equals (of_ordering (ordering_then r s))) ≡ true → is_true (equals (of_ordering s)) ≡ true
then-second o.Less s h = absurd (cc)
then-second o.Equal s h = h
then-second o.Greater s h = absurd (cc)

module _ {X : Type 0} (compare : X → X → Ordering) (equal : (x y : X) → compare x y ≡ o.Equal → x ≡ y) where
  equal-lists : (xs ys : List X) → is_true (equals (of_ordering (slice_cmp compare xs ys))) ≡ true → xs ≡ ys
  equal-lists [] [] h = refl
  equal-lists [] (y ∷ ys) h = absurd (cc)
  equal-lists (x ∷ xs) [] h = absurd (cc)
  equal-lists (x ∷ xs) (y ∷ ys) h =
      let first : x ≡ y = equal x y (then-first (compare x y) (slice_cmp compare xs ys) h) in
      let rest : xs ≡ ys = equal-lists xs ys (then-second (compare x y) (slice_cmp compare xs ys) h) in
      λ i. first i ∷ rest i

-- ---- what is the same is seen alike

tested : (n m : ℕ) (b : Bool) → (n == m) ≡ b → is_true (of_test b) ≡ true → n ≡ m
tested n m true is h = eqb-true n m is
tested n m false is h = absurd (cc)

equal-truth : (x y : Logical) → rank x ≡ rank y → x ≡ y
equal-truth l.False l.False h = refl
equal-truth l.False l.Unknown h = absurd (omega (arith, h))
equal-truth l.False l.True h = absurd (omega (arith, h))
equal-truth l.Unknown l.False h = absurd (omega (arith, h))
equal-truth l.Unknown l.Unknown h = refl
equal-truth l.Unknown l.True h = absurd (omega (arith, h))
equal-truth l.True l.False h = absurd (omega (arith, h))
equal-truth l.True l.Unknown h = absurd (omega (arith, h))
equal-truth l.True l.True h = refl

abbrev items : Bool → Ordering → Logical
items b r = if b then equals (if b then of_ordering r else c.Unknown) else l.False

item-kind : (b : Bool) (r : Ordering) → is_true (items b r) ≡ true → b ≡ true
item-kind true r h = refl
item-kind false r h = absurd (cc)

item-place : (b : Bool) (r : Ordering) → is_true (items b r) ≡ true → is_true (equals (of_ordering r)) ≡ true
item-place true r h = h
item-place false r h = absurd (cc)

alike : (s t : Seen) → is_true (same_scalars s t) ≡ true → s ≡ t
alike (Number n) (Number m) h = ap Number (equal-integer n m (int_cmp n m) refl h)
alike (Text s) (Text t) h = ap Text (equal-lists nat_cmp equal-digit s t h)
alike (Bits s) (Bits t) h = ap Bits (equal-lists bool_cmp equal-bit s t h)
alike (Truth x) (Truth y) h = ap Truth (equal-truth x y (equal-number (rank x) (rank y) (nat_cmp (rank x) (rank y)) refl h))
alike (Item enumeration place) (Item other at) h =
    let kind : enumeration ≡ other = eqb-true enumeration other (item-kind (enumeration == other) (nat_cmp place at) h) in
    let here : place ≡ at = equal-number place at (nat_cmp place at) refl (item-place (enumeration == other) (nat_cmp place at) h) in
    λ i. Item (kind i) (here i)
alike (Instance name) (Instance other) h = ap Instance (tested name other (name == other) refl h)
alike Indeterminate Indeterminate h = absurd (cc)
alike (Aggregate kind xs) (Aggregate other ys) h = absurd (cc)
alike s t h = absurd (cc)

-- ---- what is seen alike is the same

tied : (r : Ordering) → r ≡ o.Equal → is_true (equals (of_ordering r)) ≡ true
tied r is = ap (λ (q : Ordering). is_true (equals (of_ordering q))) is

item-itself : (b : Bool) (r : Ordering) → b ≡ true → r ≡ o.Equal → is_true (items b r) ≡ true
item-itself true r is same = tied r same
item-itself false r is same = absurd (cc)

itself : (s : Seen) → is_element s ≡ true → is_true (same_scalars s s) ≡ true
itself Indeterminate is = absurd (cc)
itself (Number n) is = tied (int_cmp n n) (tied_itself int_cmp_total n)
itself (Text s) is = tied (slice_cmp nat_cmp s s) (tied_itself nat_list_cmp_total s)
itself (Bits s) is = tied (slice_cmp bool_cmp s s) (tied_itself (lists_total bool_cmp_total) s)
itself (Truth x) is = tied (nat_cmp (rank x) (rank x)) (tied_itself nat_cmp_total (rank x))
itself (Item enumeration place) is = item-itself (enumeration == enumeration) (nat_cmp place place) (eq-eqb enumeration enumeration refl) (tied_itself nat_cmp_total place)
itself (Instance name) is = ap (λ (b : Bool). is_true (of_test b)) (eq-eqb name name refl)
itself (Aggregate kind xs) is = absurd (cc)

-- ---- values

layer : (equal : Value → Value → Logical) (s t : Seen) → is_element s ≡ true → equal_seen same_scalars equal s t ≡ same_scalars s t
layer equal (Aggregate kind xs) t is = absurd (cc)
layer equal s t is = refl

scalar : (n : ℕ) (x y : Value) → is_element (seen x) ≡ true → equal_within same_scalars n x y ≡ same_scalars (seen x) (seen y)
scalar zero x y is = refl
scalar (suc n) x y is = layer (equal_within same_scalars n) (seen x) (seen y) is

same_by_sight : (x y : Value) → is_element (seen x) ≡ true → is_same x y ≡ is_true (same_scalars (seen x) (seen y))
unfolding same equality
same_by_sight x y is = ap is_true (scalar (depth x + depth y) x y is)

alike_where_same : (x y : Value) → is_element (seen x) ≡ true → is_same x y ≡ true → seen x ≡ seen y
alike_where_same x y is h = alike (seen x) (seen y) (sym (same_by_sight x y is) ∙ h)

same_where_alike_seen : (x y : Value) → is_element (seen x) ≡ true → seen x ≡ seen y → is_same x y ≡ true
same_where_alike_seen x y is h =
    same_by_sight x y is ∙ ap (λ (s : Seen). is_true (same_scalars (seen x) s)) (sym h) ∙ itself (seen x) is

pub same_where_alike : (x y : Value) → is_element (seen x) ≡ true → (is_same x y ≡ true) ↔ (seen x ≡ seen y)
same_where_alike x y is = (alike_where_same x y is, same_where_alike_seen x y is)

-- ---- classes

abbrev IsElement : Value → Type 0
IsElement x = is_element (seen x) ≡ true

first_passes : (b c : Bool) → (b && c) ≡ true → b ≡ true
first_passes true c h = refl
first_passes false c h = absurd (cc)

others_pass : (b c : Bool) → (b && c) ≡ true → c ≡ true
others_pass true c h = h
others_pass false c h = absurd (cc)

all_pass : (xs : List Value) → list_all (λ x. is_element (seen x)) xs ≡ true → AllByRecursion IsElement xs
all_pass [] h = tt
all_pass (x ∷ xs) h = (
  first_passes (is_element (seen x)) (list_all (λ y. is_element (seen y)) xs) h,
  all_pass xs (others_pass (is_element (seen x)) (list_all (λ y. is_element (seen y)) xs) h),
)

module _ (values : List Value) (are : (x : Value) → Contains values x → IsElement x) where
  class_of : (x : Value) → IsElement x → IsClassAmong values (is_same x)
  class_of x is = record {
    within = λ y z m n h k. same_where_alike_seen y z (are y m) (sym (alike_where_same x y is h) ∙ alike_where_same x z is k);
    whole = λ y z m n h.
        same_by_sight x y is ∙ ap (λ (s : Seen). is_true (same_scalars (seen x) s)) (alike_where_same y z (are y m) h)
        ∙ sym (same_by_sight x z is);
  }

  lies : (x : Value) → IsElement x → HasClass values x
  lies x is = record { itself = same_where_alike_seen x x is refl; class = class_of x is }

  all_lie : (xs : List Value) → AllByRecursion IsElement xs → AllByRecursion (HasClass values) xs
  all_lie [] h = tt
  all_lie (x ∷ xs) h = (lies x h.0, all_lie xs h.1)

pub have_classes : (values : List Value) → list_all (λ x. is_element (seen x)) values ≡ true → HaveClasses values
have_classes values h =
    let are : AllByRecursion IsElement values = all_pass values h in
    all_lie values (λ x m. All-contains IsElement values x (All-from_recursion IsElement values are) m) values are
