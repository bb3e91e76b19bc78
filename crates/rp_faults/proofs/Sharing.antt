-- What is the same has the same key.
use Rattle.std.proofs.Common.{◌≡◌, ℕ, ℤ, pos, zero, suc, ◌+◌, ◌*◌, ◌%◌, ◌^◌, ◌<◌, ◌==◌, not, ◌&&◌, ◌||◌, cond, Bool, true, false, List, [], ◌∷◌, ◌++◌, length, Option, None, Some, unsigned_abs, if◌then◌else◌, refl, sym, ap, ◌∙◌, arith}
use Rattle.std.proofs.Math.Nat.{mul_right_comm, pow-suc}
use Rattle.std.proofs.lemmas.Bool.{eq-eqb, eqb-true}
use Rattle.std.proofs.lemmas.Cmp.{int_cmp_total, int_ranked, lists_total, nat_cmp_total, nat_list_cmp_total, ranked, tied_itself}
use Rattle.std.proofs.lemmas.Int.{unsigned_abs-mul}
use Rattle.std.proofs.lemmas.List.Folds.{list_any-append}
use Rattle.std.proofs.lemmas.List.Sums.{sum_by-cons}
use Rattle.std.proofs.lemmas.Nat.{mod_below, mul-mod_first, mul-mod_second}
use Rattle.std.specs.Cmp.{bool_cmp_total}
use Rattle.std.specs.Cmp.Lexicographic.{slice_cmp}
use Rattle.std.specs.List.{count_by, list_all, list_any}
use Rattle.std.specs.Option.{option_map_or}
use Rattle.std.specs.Ordering.{nat_cmp, int_cmp, bool_cmp, ordering_then}
use Rattle.std.specs.declared.cmp.Ordering.{Ordering}
use Rattle.std.specs.declared.cmp.Ordering.TheVariants as o
use Rattle.rp_numbers.specs.Decimals.{Decimal, places, scaled, scaled_whole}
use Rattle.rp_numbers.specs.Logical.{conjunction, is_true, of_test, rank}
use Rattle.rp_numbers.specs.declared.Logical.{Logical}
use Rattle.rp_numbers.specs.declared.Logical.TheVariants as l
use Rattle.rp_operations.specs.Equality.{equal_elements, equal_in_places, equal_seen, equal_within, equality, is_bag_or_set, occur_equally, occurs_equally, same_scalars}
use Rattle.rp_operations.specs.Operations.{is_same, same, without_first}
use Rattle.rp_operations.specs.Order.{equals, of_ordering}
use Rattle.rp_operations.specs.declared.compared.Compared.TheVariants as c
use Rattle.rp_operations.specs.Seen.{Seen, Indeterminate, Number, Text, Bits, Truth, Item, Instance, Aggregate, seen, depth, is_indeterminate}
use Rattle.rp_faults.specs.Keys.{elements_key, key_of, key_seen, scalar_key, with_element, with_elements, with_factor, with_number}
use Rattle.rp_value.specs.declared.value.Value.{Value}

-- ---- orders

equal-number : (n m : ℕ) (r : Ordering) → r ≡ nat_cmp n m → is_true (equals (of_ordering r)) ≡ true → n ≡ m
equal-number n m o.Less is h = absurd (cc)
equal-number n m o.Equal is h = ranked n m o.Equal is
equal-number n m o.Greater is h = absurd (cc)

equal-integer : (n m : ℤ) (r : Ordering) → r ≡ int_cmp n m → is_true (equals (of_ordering r)) ≡ true → n ≡ m
equal-integer n m o.Less is h = absurd (cc)
equal-integer n m o.Equal is h = int_ranked n m o.Equal is
equal-integer n m o.Greater is h = absurd (cc)

equal-bit : (a b : Bool) → bool_cmp a b ≡ o.Equal → a ≡ b
equal-bit true true h = refl
equal-bit true false h = absurd (cc)
equal-bit false true h = absurd (cc)
equal-bit false false h = refl

then-first : (r s : Ordering) → is_true (equals (of_ordering (ordering_then r s))) ≡ true → r ≡ o.Equal
then-first o.Less s h = absurd (cc)
then-first o.Equal s h = refl
then-first o.Greater s h = absurd (cc)

then-second : (r s : Ordering) → is_true (equals (of_ordering (ordering_then r s))) ≡ true → is_true (equals (of_ordering s)) ≡ true
then-second o.Less s h = absurd (cc)
then-second o.Equal s h = h
then-second o.Greater s h = absurd (cc)

equal-texts : (s t : List ℕ) → is_true (equals (of_ordering (slice_cmp nat_cmp s t))) ≡ true → s ≡ t
equal-texts [] [] h = refl
equal-texts [] (y ∷ ys) h = absurd (cc)
equal-texts (x ∷ xs) [] h = absurd (cc)
equal-texts (x ∷ xs) (y ∷ ys) h =
    let first : x ≡ y = ranked x y o.Equal (sym (then-first (nat_cmp x y) (slice_cmp nat_cmp xs ys) h)) in
    let rest : xs ≡ ys = equal-texts xs ys (then-second (nat_cmp x y) (slice_cmp nat_cmp xs ys) h) in
    λ i. first i ∷ rest i

equal-bits : (s t : List Bool) → is_true (equals (of_ordering (slice_cmp bool_cmp s t))) ≡ true → s ≡ t
equal-bits [] [] h = refl
equal-bits [] (y ∷ ys) h = absurd (cc)
equal-bits (x ∷ xs) [] h = absurd (cc)
equal-bits (x ∷ xs) (y ∷ ys) h =
    let first : x ≡ y = equal-bit x y (then-first (bool_cmp x y) (slice_cmp bool_cmp xs ys) h) in
    let rest : xs ≡ ys = equal-bits xs ys (then-second (bool_cmp x y) (slice_cmp bool_cmp xs ys) h) in
    λ i. first i ∷ rest i

-- ---- what is no aggregate

tested : (n m : ℕ) (b : Bool) → (n == m) ≡ b → is_true (of_test b) ≡ true → n ≡ m
tested n m true is h = eqb-true n m is
tested n m false is h = absurd (cc)

equal-truth : (x y : Logical) → rank x ≡ rank y → x ≡ y
equal-truth l.False l.False h = refl
equal-truth l.False l.Unknown h = absurd (omega (arith, h))
equal-truth l.False l.True h = absurd (omega (arith, h))
equal-truth l.Unknown l.False h = absurd (omega (arith, h))
equal-truth l.Unknown l.Unknown h = refl
equal-truth l.Unknown l.True h = absurd (omega (arith, h))
equal-truth l.True l.False h = absurd (omega (arith, h))
equal-truth l.True l.Unknown h = absurd (omega (arith, h))
equal-truth l.True l.True h = refl

item-kind : (b : Bool) (r : Ordering) → is_true (if b then equals (if b then of_ordering r else c.Unknown) else l.False) ≡ true → b ≡ true
item-kind true r h = refl
item-kind false r h = absurd (cc)

item-place : (b : Bool) (r : Ordering) → is_true (if b then equals (if b then of_ordering r else c.Unknown) else l.False) ≡ true → is_true (equals (of_ordering r)) ≡ true
item-place true r h = h
item-place false r h = absurd (cc)

same-seen : (s t : Seen) → is_true (same_scalars s t) ≡ true → s ≡ t
same-seen (Number n) (Number m) h = ap Number (equal-integer n m (int_cmp n m) refl h)
same-seen (Text s) (Text t) h = ap Text (equal-texts s t h)
same-seen (Bits s) (Bits t) h = ap Bits (equal-bits s t h)
same-seen (Truth x) (Truth y) h = ap Truth (equal-truth x y (equal-number (rank x) (rank y) (nat_cmp (rank x) (rank y)) refl h))
same-seen (Item enumeration place) (Item other at) h =
    let kind : enumeration ≡ other = eqb-true enumeration other (item-kind (enumeration == other) (nat_cmp place at) h) in
    let here : place ≡ at = equal-number place at (nat_cmp place at) refl (item-place (enumeration == other) (nat_cmp place at) h) in
    λ i. Item (kind i) (here i)
same-seen (Instance name) (Instance other) h = ap Instance (tested name other (name == other) refl h)
same-seen Indeterminate Indeterminate h = absurd (cc)
same-seen (Aggregate kind xs) (Aggregate other ys) h = absurd (cc)
same-seen s t h = absurd (cc)

item-itself : (b : Bool) (r : Ordering) → b ≡ true → r ≡ o.Equal → is_true (if b then equals (if b then of_ordering r else c.Unknown) else l.False) ≡ true
item-itself true o.Equal is same = refl
item-itself true o.Less is same = absurd (cc)
item-itself true o.Greater is same = absurd (cc)
item-itself false r is same = absurd (cc)

tied : (r : Ordering) → r ≡ o.Equal → is_true (equals (of_ordering r)) ≡ true
tied r is = ap (λ (r : Ordering). is_true (equals (of_ordering r))) is

-- what has such a key is the same as itself
same-itself : (s : Seen) (k : ℕ) → scalar_key s ≡ Some k → is_true (same_scalars s s) ≡ true
same-itself Indeterminate k is = absurd (cc)
same-itself (Number n) k is = tied (int_cmp n n) (tied_itself int_cmp_total n)
same-itself (Text s) k is = tied (slice_cmp nat_cmp s s) (tied_itself nat_list_cmp_total s)
same-itself (Bits s) k is = tied (slice_cmp bool_cmp s s) (tied_itself (lists_total bool_cmp_total) s)
same-itself (Truth x) k is = tied (nat_cmp (rank x) (rank x)) (tied_itself nat_cmp_total (rank x))
same-itself (Item enumeration place) k is = item-itself (enumeration == enumeration) (nat_cmp place place) (eq-eqb enumeration enumeration refl) (tied_itself nat_cmp_total place)
same-itself (Instance name) k is = ap (λ (b : Bool). is_true (of_test b)) (eq-eqb name name refl)
same-itself (Aggregate kind xs) k is = absurd (cc)

-- ---- layers

layer-scalar : (equal : Value → Value → Logical) (s t : Seen) → is_true (equal_seen same_scalars equal s t) ≡ true → scalar_key s ≡ scalar_key t
layer-scalar equal (Aggregate kind xs) (Aggregate other ys) h = refl
layer-scalar equal s t h = ap scalar_key (same-seen s t h)

layer-seen : (equal : Value → Value → Logical) (s t : Seen) (k : ℕ) → scalar_key t ≡ Some k → is_true (equal_seen same_scalars equal s t) ≡ true → s ≡ t
layer-seen equal (Aggregate kind xs) (Aggregate other ys) k is h = absurd (cc)
layer-seen equal s t k is h = same-seen s t h

layer-itself : (equal : Value → Value → Logical) (s : Seen) (k : ℕ) → scalar_key s ≡ Some k → is_true (equal_seen same_scalars equal s s) ≡ true
layer-itself equal (Aggregate kind xs) k is = absurd (cc)
layer-itself equal s k is = same-itself s k is

abbrev within : ℕ → Value → Value → Logical
within n = equal_within same_scalars n

within-scalar : (n : ℕ) (x y : Value) → is_true (within n x y) ≡ true → scalar_key (seen x) ≡ scalar_key (seen y)
within-scalar zero x y h = ap scalar_key (same-seen (seen x) (seen y) h)
within-scalar (suc n) x y h = layer-scalar (within n) (seen x) (seen y) h

within-seen : (n : ℕ) (x y : Value) (k : ℕ) → scalar_key (seen y) ≡ Some k → is_true (within n x y) ≡ true → seen x ≡ seen y
within-seen zero x y k is h = same-seen (seen x) (seen y) h
within-seen (suc n) x y k is h = layer-seen (within n) (seen x) (seen y) k is h

within-itself : (n : ℕ) (x : Value) (k : ℕ) → scalar_key (seen x) ≡ Some k → is_true (within n x x) ≡ true
within-itself zero x k is = same-itself (seen x) k is
within-itself (suc n) x k is = layer-itself (within n) (seen x) k is

within-first : (n : ℕ) (x y z : Value) → seen x ≡ seen y → within n x z ≡ within n y z
within-first zero x y z is = ap (λ (s : Seen). same_scalars s (seen z)) is
within-first (suc n) x y z is = ap (λ (s : Seen). equal_seen same_scalars (within n) s (seen z)) is

within-second : (n : ℕ) (x y z : Value) → seen x ≡ seen y → within n z x ≡ within n z y
within-second zero x y z is = ap (λ (s : Seen). same_scalars (seen z) s) is
within-second (suc n) x y z is = ap (λ (s : Seen). equal_seen same_scalars (within n) (seen z) s) is

-- ---- elements in places

both : (x y : Logical) → is_true (conjunction x y) ≡ true → (is_true x ≡ true) × (is_true y ≡ true)
both l.True l.True h = (refl, refl)
both l.True l.Unknown h = absurd (cc)
both l.True l.False h = absurd (cc)
both l.Unknown l.True h = absurd (cc)
both l.Unknown l.Unknown h = absurd (cc)
both l.Unknown l.False h = absurd (cc)
both l.False l.True h = absurd (cc)
both l.False l.Unknown h = absurd (cc)
both l.False l.False h = absurd (cc)

placed-same : (n : ℕ) (xs ys : List Value) (p : ℕ) → length xs ≡ length ys → is_true (equal_in_places (within n) xs ys) ≡ true → with_elements p xs ≡ with_elements p ys
placed-same n [] [] p many h = refl
placed-same n [] (y ∷ ys) p many h = absurd (omega (arith, many))
placed-same n (x ∷ xs) [] p many h = absurd (omega (arith, many))
placed-same n (x ∷ xs) (y ∷ ys) p many h =
    let two = both (within n x y) (equal_in_places (within n) xs ys) h in
    ap (λ (o : Option ℕ). with_elements (option_map_or (with_factor p) o p) xs) (within-scalar n x y two.0)
    ∙ placed-same n xs ys (with_element p y) (omega (arith, many)) two.1

-- ---- elements that occur equally often

factors-swapped : (p a b : ℕ) → with_factor (with_factor p a) b ≡ with_factor (with_factor p b) a
factors-swapped p a b =
    mul-mod_first (p * with_number a 2654435769) (with_number b 2654435769) 4294967291
    ∙ ap (λ (k : ℕ). k % 4294967291) (mul_right_comm p (with_number a 2654435769) (with_number b 2654435769))
    ∙ sym (mul-mod_first (p * with_number b 2654435769) (with_number a 2654435769) 4294967291)

swapped-by : (p : ℕ) (o q : Option ℕ) → option_map_or (with_factor (option_map_or (with_factor p) o p)) q (option_map_or (with_factor p) o p)
    ≡ option_map_or (with_factor (option_map_or (with_factor p) q p)) o (option_map_or (with_factor p) q p)
swapped-by p None None = refl
swapped-by p None (Some b) = refl
swapped-by p (Some a) None = refl
swapped-by p (Some a) (Some b) = factors-swapped p a b

elements-swapped : (p : ℕ) (x y : Value) → with_element (with_element p x) y ≡ with_element (with_element p y) x
elements-swapped p x y = swapped-by p (scalar_key (seen x)) (scalar_key (seen y))

-- whether a value occurs as another
abbrev occurs : ℕ → Value → Value → Bool
occurs n x y = is_true (within n y x)

abbrev Balanced : ℕ → List Value → List Value → Type 0
Balanced n xs ys = (z : Value) (k : ℕ) → scalar_key (seen z) ≡ Some k → count_by (occurs n z) xs ≡ count_by (occurs n z) ys

unfoldable one : Bool → ℕ
one b = cond b 1 0

one-yes : (b : Bool) → b ≡ true → one b ≡ 1
unfolding one
one-yes b is = ap (λ (b : Bool). cond b 1 0) is

one-no : (b : Bool) → b ≡ false → one b ≡ 0
unfolding one
one-no b is = ap (λ (b : Bool). cond b 1 0) is

and-first : (a b : Bool) → (a && b) ≡ true → a ≡ true
and-first true b h = refl
and-first false b h = absurd (cc)

and-second : (a b : Bool) → (a && b) ≡ true → b ≡ true
and-second true b h = h
and-second false b h = absurd (cc)

neither : (a b : Bool) → (a || b) ≡ false → (a ≡ false) × (b ≡ false)
neither true b h = absurd (cc)
neither false b h = (refl, h)

module _ (n : ℕ) where
  more-of : (z x : Value) (xs : List Value) → count_by (occurs n z) (x ∷ xs) ≡ one (occurs n z x) + count_by (occurs n z) xs
  unfolding one
  more-of z x xs = sum_by-cons (λ y. cond (occurs n z y) 1 0) x xs

  never : (z x : Value) (k : ℕ) (b : Bool) → scalar_key (seen z) ≡ Some k → scalar_key (seen x) ≡ None → occurs n z x ≡ b → b ≡ false
  never z x k true is none at = let some : None ≡ Some k = sym none ∙ ap scalar_key (within-seen n x z k is at) ∙ is in absurd (cc)
  never z x k false is none at = refl

  -- one that isn't counted
  uncounted : (z x : Value) (xs : List Value) (k : ℕ) → scalar_key (seen z) ≡ Some k → scalar_key (seen x) ≡ None → count_by (occurs n z) (x ∷ xs) ≡ count_by (occurs n z) xs
  uncounted z x xs k is none =
      let all = more-of z x xs in
      let no = one-no (occurs n z x) (never z x k (occurs n z x) is none refl) in
      omega (arith, all, no)

  -- one that is taken
  taken-by : (x y : Value) (k : ℕ) (ys : List Value) (p : ℕ) (b : Bool) → scalar_key (seen x) ≡ Some k → occurs n x y ≡ b
      → ((p : ℕ) → list_any (occurs n x) ys ≡ true → with_elements p ys ≡ with_elements (with_element p x) (without_first (occurs n x) ys))
      → (b || list_any (occurs n x) ys) ≡ true
      → with_elements p (y ∷ ys) ≡ with_elements (with_element p x) (if b then ys else y ∷ without_first (occurs n x) ys)
  taken-by x y k ys p true is at before h = ap (λ (s : Seen). with_elements (option_map_or (with_factor p) (scalar_key s) p) ys) (within-seen n y x k is at)
  taken-by x y k ys p false is at before h =
      before (with_element p y) h ∙ ap (λ (p : ℕ). with_elements p (without_first (occurs n x) ys)) (elements-swapped p y x)

  taken : (x : Value) (k : ℕ) (ys : List Value) (p : ℕ) → scalar_key (seen x) ≡ Some k → list_any (occurs n x) ys ≡ true
      → with_elements p ys ≡ with_elements (with_element p x) (without_first (occurs n x) ys)
  taken x k [] p is h = absurd (cc)
  taken x k (y ∷ ys) p is h = taken-by x y k ys p (occurs n x y) is refl (λ p h. taken x k ys p is h) h

  left-by : (x y z : Value) (k : ℕ) (ys : List Value) (b : Bool) → scalar_key (seen x) ≡ Some k → occurs n x y ≡ b
      → (list_any (occurs n x) ys ≡ true → count_by (occurs n z) ys ≡ one (occurs n z x) + count_by (occurs n z) (without_first (occurs n x) ys))
      → (b || list_any (occurs n x) ys) ≡ true
      → count_by (occurs n z) (y ∷ ys) ≡ one (occurs n z x) + count_by (occurs n z) (if b then ys else y ∷ without_first (occurs n x) ys)
  left-by x y z k ys true is at before h =
      more-of z y ys ∙ ap (λ (l : Logical). one (is_true l) + count_by (occurs n z) ys) (within-first n y x z (within-seen n y x k is at))
  left-by x y z k ys false is at before h =
      let all = more-of z y ys in
      let rest = before h in
      let left = more-of z y (without_first (occurs n x) ys) in
      omega (arith, all, rest, left)

  left : (x z : Value) (k : ℕ) (ys : List Value) → scalar_key (seen x) ≡ Some k → list_any (occurs n x) ys ≡ true
      → count_by (occurs n z) ys ≡ one (occurs n z x) + count_by (occurs n z) (without_first (occurs n x) ys)
  left x z k [] is h = absurd (cc)
  left x z k (y ∷ ys) is h = left-by x y z k ys (occurs n x y) is refl (left x z k ys is) h

  -- what occurs is among them
  among-by : (z : Value) (ys : List Value) (y : Value) (b : Bool) → occurs n z y ≡ b → (0 < count_by (occurs n z) ys → list_any (occurs n z) ys ≡ true) → 0 < count_by (occurs n z) (y ∷ ys)
      → (b || list_any (occurs n z) ys) ≡ true
  among-by z ys y true at before h = refl
  among-by z ys y false at before h =
      let all = more-of z y ys in
      let no = one-no (occurs n z y) at in
      before (omega (arith, all, no, h))

  among : (z : Value) (ys : List Value) → 0 < count_by (occurs n z) ys → list_any (occurs n z) ys ≡ true
  among z [] h = absurd (omega (arith, h))
  among z (y ∷ ys) h = among-by z ys y (occurs n z y) refl (among z ys) h

  first-counts : (x : Value) (xs : List Value) (k : ℕ) → scalar_key (seen x) ≡ Some k → 0 < count_by (occurs n x) (x ∷ xs)
  first-counts x xs k is =
      let all = more-of x x xs in
      let yes = one-yes (occurs n x x) (within-itself n x k is) in
      omega (arith, all, yes)

  -- without any that counts
  none-by : (y : Value) (ys : List Value) (p : ℕ) (o : Option ℕ) → scalar_key (seen y) ≡ o → Balanced n [] (y ∷ ys) → ((p : ℕ) → Balanced n [] ys → p ≡ with_elements p ys) → p ≡ with_elements (option_map_or (with_factor p) o p) ys
  none-by y ys p None is even before = before p (λ z k of. even z k of ∙ uncounted z y ys k of is)
  none-by y ys p (Some k) is even before = let some = first-counts y ys k is in let none = even y k is in absurd (omega (arith, some, none))

  none : (ys : List Value) (p : ℕ) → Balanced n [] ys → p ≡ with_elements p ys
  none [] p even = refl
  none (y ∷ ys) p even = none-by y ys p (scalar_key (seen y)) refl even (λ p even. none ys p even)

  balanced-by : (x : Value) (xs ys : List Value) (p : ℕ) (o : Option ℕ) → scalar_key (seen x) ≡ o → Balanced n (x ∷ xs) ys
      → ((ys : List Value) (p : ℕ) → Balanced n xs ys → with_elements p xs ≡ with_elements p ys)
      → with_elements (option_map_or (with_factor p) o p) xs ≡ with_elements p ys
  balanced-by x xs ys p None is even before = before ys p (λ z k of. sym (uncounted z x xs k of is) ∙ even z k of)
  balanced-by x xs ys p (Some k) is even before =
      let first = first-counts x xs k is in
      let whole = even x k is in
      let found : list_any (occurs n x) ys ≡ true = among x ys (omega (arith, first, whole)) in
      let rest : Balanced n xs (without_first (occurs n x) ys) = (λ z j of.
      let here = more-of z x xs in
      let there = left x z k ys is found in
      let all = even z j of in
      omega (arith, here, there, all)) in
      ap (λ (o : Option ℕ). with_elements (option_map_or (with_factor p) o p) xs) (sym is)
      ∙ before (without_first (occurs n x) ys) (with_element p x) rest
      ∙ sym (taken x k ys p is found)

  balanced-same : (xs ys : List Value) (p : ℕ) → Balanced n xs ys → with_elements p xs ≡ with_elements p ys
  balanced-same [] ys p even = none ys p even
  balanced-same (x ∷ xs) ys p even = balanced-by x xs ys p (scalar_key (seen x)) refl even (balanced-same xs)

  -- ---- from the test

  abbrev equally : List Value → List Value → Value → Bool
  equally xs ys = occurs_equally (within n) xs ys

  tested-by : (z y : Value) (xs ys zs : List Value) (k : ℕ) (b : Bool) → scalar_key (seen z) ≡ Some k → occurs n z y ≡ b
      → (list_any (occurs n z) zs ≡ true → list_all (equally xs ys) zs ≡ true → count_by (occurs n z) xs ≡ count_by (occurs n z) ys)
      → (b || list_any (occurs n z) zs) ≡ true → (equally xs ys y && list_all (equally xs ys) zs) ≡ true
      → count_by (occurs n z) xs ≡ count_by (occurs n z) ys
  tested-by z y xs ys zs k true is at before among all =
      let one-of : equally xs ys y ≡ true = and-first (equally xs ys y) (list_all (equally xs ys) zs) all in
      let same : (v : Value) → occurs n y v ≡ occurs n z v = (λ v. ap is_true (within-second n y z v (within-seen n y z k is at))) in
      let even : count_by (occurs n y) xs ≡ count_by (occurs n y) ys = eqb-true (count_by (occurs n y) xs) (count_by (occurs n y) ys) one-of in
      (λ i. count_by (λ v. sym (same v) i) xs) ∙ even ∙ (λ i. count_by (λ v. same v i) ys)
  tested-by z y xs ys zs k false is at before among all = before among (and-second (equally xs ys y) (list_all (equally xs ys) zs) all)

  tested-among : (z : Value) (xs ys zs : List Value) (k : ℕ) → scalar_key (seen z) ≡ Some k → list_any (occurs n z) zs ≡ true → list_all (equally xs ys) zs ≡ true
      → count_by (occurs n z) xs ≡ count_by (occurs n z) ys
  tested-among z xs ys [] k is among all = absurd (cc)
  tested-among z xs ys (y ∷ zs) k is among all = tested-by z y xs ys zs k (occurs n z y) is refl (tested-among z xs ys zs k is) among all

  absent-by : (z y : Value) (ys : List Value) (b : Bool) → occurs n z y ≡ b → (list_any (occurs n z) ys ≡ false → count_by (occurs n z) ys ≡ 0) → (b || list_any (occurs n z) ys) ≡ false
      → count_by (occurs n z) (y ∷ ys) ≡ 0
  absent-by z y ys true at before h = absurd (cc)
  absent-by z y ys false at before h =
      let all = more-of z y ys in
      let no = one-no (occurs n z y) at in
      let rest = before h in
      omega (arith, all, no, rest)

  absent : (z : Value) (ys : List Value) → list_any (occurs n z) ys ≡ false → count_by (occurs n z) ys ≡ 0
  absent z [] h = refl
  absent z (y ∷ ys) h = absent-by z y ys (occurs n z y) refl (absent z ys) h

  balanced-if : (z : Value) (xs ys : List Value) (k : ℕ) (b : Bool) → scalar_key (seen z) ≡ Some k → list_any (occurs n z) (xs ++ ys) ≡ b → list_all (equally xs ys) (xs ++ ys) ≡ true
      → count_by (occurs n z) xs ≡ count_by (occurs n z) ys
  balanced-if z xs ys k true is among all = tested-among z xs ys (xs ++ ys) k is among all
  balanced-if z xs ys k false is among all =
      let apart = neither (list_any (occurs n z) xs) (list_any (occurs n z) ys) (sym (list_any-append (occurs n z) xs ys) ∙ among) in
      absent z xs apart.0 ∙ sym (absent z ys apart.1)

  balanced : (xs ys : List Value) → list_all (equally xs ys) (xs ++ ys) ≡ true → Balanced n xs ys
  balanced xs ys all z k is = balanced-if z xs ys k (list_any (occurs n z) (xs ++ ys)) is refl all

-- ---- aggregates

counted : (n m : ℕ) (b : Bool) (rest : Logical) → (n == m) ≡ b → is_true (if not b then l.False else rest) ≡ true → n ≡ m
counted n m true rest is h = eqb-true n m is
counted n m false rest is h = absurd (cc)

compared : (b : Bool) (rest : Logical) → is_true (if not b then l.False else rest) ≡ true → is_true rest ≡ true
compared true rest h = h
compared false rest h = absurd (cc)

unplaced : (b e : Bool) → is_true (if b then l.Unknown else of_test e) ≡ true → e ≡ true
unplaced true e h = absurd (cc)
unplaced false true h = refl
unplaced false false h = absurd (cc)

elements-same : (n : ℕ) (are_placed : Bool) (xs ys : List Value) → length xs ≡ length ys
    → is_true (if are_placed then equal_in_places (within n) xs ys else if list_any (λ x. is_indeterminate (seen x)) (xs ++ ys) then l.Unknown else of_test (occur_equally (within n) xs ys)) ≡ true
    → with_elements 1 xs ≡ with_elements 1 ys
elements-same n true xs ys many h = placed-same n xs ys 1 many h
elements-same n false xs ys many h =
    balanced-same n xs ys 1 (balanced n xs ys (unplaced (list_any (λ x. is_indeterminate (seen x)) (xs ++ ys)) (occur_equally (within n) xs ys) h))

elements-key : (n : ℕ) (are_placed : Bool) (xs ys : List Value) → is_true (equal_elements (within n) are_placed xs ys) ≡ true → elements_key xs ≡ elements_key ys
elements-key n are_placed xs ys h =
    let many : length xs ≡ length ys = counted (length xs) (length ys) (length xs == length ys) _ refl h in
    let same : with_elements 1 xs ≡ with_elements 1 ys = elements-same n are_placed xs ys many (compared (length xs == length ys) _ h) in
    λ i. with_number (same i) (many i)

layer-key : (n : ℕ) (s t : Seen) → is_true (equal_seen same_scalars (within n) s t) ≡ true → key_seen s ≡ key_seen t
layer-key n (Aggregate kind xs) (Aggregate other ys) h = elements-key n (not (is_bag_or_set kind || is_bag_or_set other)) xs.items ys.items h
layer-key n s t h = ap key_seen (same-seen s t h)

within-key : (n : ℕ) (x y : Value) → is_true (within n x y) ≡ true → key_of x ≡ key_of y
within-key zero x y h = ap key_seen (same-seen (seen x) (seen y) h)
within-key (suc n) x y h = layer-key n (seen x) (seen y) h

pub same-key : (x y : Value) → is_same x y ≡ true → key_of x ≡ key_of y
unfolding same equality
same-key x y h = within-key (depth x + depth y) x y h

-- ---- numbers, divided by a prime number

pub near : 3894194755 ≡ 10 ^ 960 % 4294967291
near = refl

pub least : 1 ≡ 10 ^ 0 % 4294967291
least = refl

pub more : (n : ℕ) → (10 ^ n % 4294967291 * 10) % 4294967291 ≡ 10 ^ (n + 1) % 4294967291
more n =
    let next : suc n ≡ n + 1 = omega arith in
    mul-mod_first (10 ^ n) 10 4294967291 ∙ ap (λ (k : ℕ). k % 4294967291) (sym (pow-suc 10 n)) ∙ ap (λ (k : ℕ). 10 ^ k % 4294967291) next

pub below : (n : ℕ) → n % 4294967291 < 4294967291
below n = mod_below n 4294967291 (omega arith)

pub ruleset powers = (near, least, more, below)

pub product-left : (a b : ℕ) → (a * (b % 4294967291)) % 4294967291 ≡ (a * b) % 4294967291
product-left a b = mul-mod_second a b 4294967291

pub ruleset products = (product-left, below)

pub size-whole : (n : ℤ) → (unsigned_abs n % 4294967291 * 10 ^ 1000) % 4294967291 ≡ unsigned_abs (scaled_whole n) % 4294967291
unfolding scaled_whole
size-whole n = mul-mod_first (unsigned_abs n) (10 ^ 1000) 4294967291 ∙ ap (λ (k : ℕ). k % 4294967291) (sym (unsigned_abs-mul n (pos (10 ^ 1000))))

pub size-decimal : (d : Decimal) → (unsigned_abs d.coefficient % 4294967291 * 10 ^ places d) % 4294967291 ≡ unsigned_abs (scaled d) % 4294967291
size-decimal d = mul-mod_first (unsigned_abs d.coefficient) (10 ^ places d) 4294967291 ∙ ap (λ (k : ℕ). k % 4294967291) (sym (unsigned_abs-mul d.coefficient (pos (10 ^ places d))))

pub ruleset sizes = (size-whole, size-decimal, below)
