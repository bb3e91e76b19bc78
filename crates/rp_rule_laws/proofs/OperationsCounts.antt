-- How many of a class among some values are in the lists that the operators make of these values.
use Rattle.std.proofs.Common.{◌≡◌, ℕ, ◌+◌, ◌-◌, ◌<◌, ◌≤◌, min, max, Bool, true, false, ◌||◌, ◌&&◌, cond, if◌then◌else◌, List, [], ◌∷◌, ◌++◌, get_or, refl, sym, ◌∙◌, ap, arith}
use Rattle.std.proofs.lemmas.List.{get_or_default}
use Rattle.std.proofs.lemmas.List.Elements.{recursion_from_All}
use Rattle.std.proofs.lemmas.List.Sums.{sum_by-cons, sum_by-append}
use Rattle.std.specs.List.{AllByRecursion, Contains, list_any, count_by}
use Rattle.rp_operations.specs.Operations.{is_same, set_union, without_first, common, less, all_within}
use Rattle.rp_rule_laws.specs.Operations.{HasAtMost, HasClass, HaveClasses, IsClassAmong}
use Rattle.rp_value.specs.declared.value.Value.{Value}

-- ---- members

each : (xs : List Value) → AllByRecursion (Contains xs) xs
each xs = recursion_from_All (Contains xs) xs (λ k d below. (k, below, get_or_default xs k (get_or xs k d) d below))

module _ (P : Value → Type 0) where
  pub left_of : (xs ys : List Value) → AllByRecursion P (xs ++ ys) → AllByRecursion P xs
  left_of [] ys h = tt
  left_of (x ∷ xs) ys h = (h.0, left_of xs ys h.1)

  pub right_of : (xs ys : List Value) → AllByRecursion P (xs ++ ys) → AllByRecursion P ys
  right_of [] ys h = h
  right_of (x ∷ xs) ys h = right_of xs ys h.1

  longer : (xs : List Value) (y : Value) → AllByRecursion P xs → P y → AllByRecursion P (xs ++ y ∷ [])
  longer [] y h k = (k, tt)
  longer (x ∷ xs) y h k = (h.0, longer xs y h.1 k)

  without_by : (b : Bool) (x : Value) (xs zs : List Value) → P x → AllByRecursion P xs → AllByRecursion P zs → AllByRecursion P (if b then xs else x ∷ zs)
  without_by true x xs zs is h k = h
  without_by false x xs zs is h k = (is, k)

  without : (t : Value → Bool) (xs : List Value) → AllByRecursion P xs → AllByRecursion P (without_first t xs)
  without t [] h = tt
  without t (x ∷ xs) h = without_by (t x) x xs (without_first t xs) h.0 h.1 (without t xs h.1)

stays_by : (t : Value → Bool) (b : Bool) (x : Value) (xs : List Value) → (b || list_any t xs) ≡ false → (list_any t xs ≡ false → xs ≡ without_first t xs)
    → x ∷ xs ≡ (if b then xs else x ∷ without_first t xs)
stays_by t true x xs h before = absurd (cc)
stays_by t false x xs h before = ap (λ ys. x ∷ ys) (before h)

stays : (t : Value → Bool) (xs : List Value) → list_any t xs ≡ false → xs ≡ without_first t xs
stays t [] h = refl
stays t (x ∷ xs) h = stays_by t (t x) x xs h (stays t xs)

-- ---- counts

unfoldable one : Bool → ℕ
one b = cond b 1 0

small : (b : Bool) → one b ≤ 1
unfolding one
small true = omega arith
small false = omega arith

one_true : one true ≡ 1
unfolding one
one_true = refl

module _ (p : Value → Bool) where
  more : (x : Value) (xs : List Value) → count_by p (x ∷ xs) ≡ one (p x) + count_by p xs
  unfolding one
  more x xs = sum_by-cons (λ y. cond (p y) 1 0) x xs

  pub joined_count : (xs ys : List Value) → count_by p (xs ++ ys) ≡ count_by p xs + count_by p ys
  joined_count xs ys = sum_by-append (λ y. cond (p y) 1 0) xs ys

  at_end : (xs : List Value) (y : Value) → count_by p (xs ++ y ∷ []) ≡ count_by p xs + one (p y)
  at_end xs y =
      let last = more y [] in
      let both = joined_count xs (y ∷ []) in
      omega arith

  not_one : (x : Value) → p x ≡ false → one (p x) ≡ 0
  unfolding one
  not_one x is = ap one is

  is_one : (x : Value) → p x ≡ true → one (p x) ≡ 1
  is_one x is = ap one is ∙ one_true

  found_by : (b : Bool) (x : Value) (xs : List Value) → p x ≡ b → 0 < count_by p (x ∷ xs) → (0 < count_by p xs → list_any p xs ≡ true) → (b || list_any p xs) ≡ true
  found_by true x xs is some before = refl
  found_by false x xs is some before =
      let all = more x xs in
      let first = not_one x is in
      before (omega arith)

  found : (xs : List Value) → 0 < count_by p xs → list_any p xs ≡ true
  found [] some = absurd (omega arith)
  found (x ∷ xs) some = found_by (p x) x xs refl some (found xs)

module _ (values : List Value) (p : Value → Bool) (class : IsClassAmong values p) where
  abbrev Of : List Value → Type 0
  Of = AllByRecursion (Contains values)

  -- ---- one that is taken

  taken_by : (x y : Value) (ys : List Value) → Contains values x → Contains values y → (b : Bool) → is_same x y ≡ b → (b || list_any (is_same x) ys) ≡ true
      → (list_any (is_same x) ys ≡ true → one (p x) + count_by p (without_first (is_same x) ys) ≡ count_by p ys)
      → one (p x) + count_by p (if b then ys else y ∷ without_first (is_same x) ys) ≡ count_by p (y ∷ ys)
  taken_by x y ys m n true is h before = ap (λ b. one b + count_by p ys) (class.whole x y m n is) ∙ sym (more p y ys)
  taken_by x y ys m n false is h before =
      let rest = before h in
      let left = more p y (without_first (is_same x) ys) in
      let all = more p y ys in
      omega arith

  taken : (x : Value) → Contains values x → (ys : List Value) → Of ys → list_any (is_same x) ys ≡ true → one (p x) + count_by p (without_first (is_same x) ys) ≡ count_by p ys
  taken x m [] ns h = absurd (cc)
  taken x m (y ∷ ys) ns h = taken_by x y ys m ns.0 (is_same x y) refl h (taken x m ys ns.1)

  -- ---- one that none is the same as

  none_by : (x y : Value) (ys : List Value) → Contains values x → Contains values y → (b c : Bool) → is_same x y ≡ b → p y ≡ c → p x ≡ true
      → (b || list_any (is_same x) ys) ≡ false → (list_any (is_same x) ys ≡ false → count_by p ys ≡ 0) → count_by p (y ∷ ys) ≡ 0
  none_by x y ys m n true c same is of h before = absurd (cc)
  none_by x y ys m n false true same is of h before = let other = class.within x y m n of is in absurd (cc)
  none_by x y ys m n false false same is of h before =
      let rest = before h in
      let all = more p y ys in
      let first = not_one p y is in
      omega arith

  none : (x : Value) → Contains values x → (ys : List Value) → Of ys → p x ≡ true → list_any (is_same x) ys ≡ false → count_by p ys ≡ 0
  none x m [] ns of h = refl
  none x m (y ∷ ys) ns of h = none_by x y ys m ns.0 (is_same x y) (p y) refl refl of h (none x m ys ns.1 of)

  -- not both have any
  product : (x : Value) → Contains values x → (ys : List Value) → Of ys → (b : Bool) → p x ≡ b → list_any (is_same x) ys ≡ false → min (one (p x)) (count_by p ys) ≡ 0
  product x m ys ns true is h = let all = none x m ys ns is h in omega arith
  product x m ys ns false is h = let first = not_one p x is in omega arith

  apart : (x : Value) → Contains values x → (ys : List Value) → Of ys → list_any (is_same x) ys ≡ false → min (one (p x)) (count_by p ys) ≡ 0
  apart x m ys ns h = product x m ys ns (p x) refl h

  -- ---- intersection

  common_by : (x : Value) (xs ys : List Value) → Contains values x → Of ys → (b : Bool) → list_any (is_same x) ys ≡ b
      → ((zs : List Value) → Of zs → count_by p (common xs zs) ≡ min (count_by p xs) (count_by p zs))
      → count_by p (if b then x ∷ common xs (without_first (is_same x) ys) else common xs ys) ≡ min (count_by p (x ∷ xs)) (count_by p ys)
  common_by x xs ys m ns true h before =
      let rest = before (without_first (is_same x) ys) (without (Contains values) (is_same x) ys ns) in
      let found = more p x (common xs (without_first (is_same x) ys)) in
      let all = more p x xs in
      let left = taken x m ys ns h in
      omega arith
  common_by x xs ys m ns false h before =
      let rest = before ys ns in
      let all = more p x xs in
      let other = apart x m ys ns h in
      omega arith

  commons : (xs : List Value) → Of xs → (ys : List Value) → Of ys → count_by p (common xs ys) ≡ min (count_by p xs) (count_by p ys)
  commons [] ms ys ns = omega arith
  commons (x ∷ xs) ms ys ns = common_by x xs ys ms.0 ns (list_any (is_same x) ys) refl (commons xs ms.1)

  -- ---- difference

  less_by : (y : Value) (xs ys : List Value) → Contains values y → Of xs → (b : Bool) → list_any (is_same y) xs ≡ b
      → count_by p (less (without_first (is_same y) xs) ys) ≡ count_by p (without_first (is_same y) xs) - count_by p ys
      → count_by p (less (without_first (is_same y) xs) ys) ≡ count_by p xs - count_by p (y ∷ ys)
  less_by y xs ys m ns true h rest =
      let all = more p y ys in
      let left = taken y m xs ns h in
      omega arith
  less_by y xs ys m ns false h rest =
      let all = more p y ys in
      let other = apart y m xs ns h in
      let whole : count_by p xs ≡ count_by p (without_first (is_same y) xs) = ap (count_by p) (stays (is_same y) xs h) in
      omega arith

  lesses : (ys : List Value) → Of ys → (xs : List Value) → Of xs → count_by p (less xs ys) ≡ count_by p xs - count_by p ys
  lesses [] ns xs ms = omega arith
  lesses (y ∷ ys) ns xs ms =
      less_by y xs ys ns.0 ms (list_any (is_same y) xs) refl
      (lesses ys ns.1 (without_first (is_same y) xs) (without (Contains values) (is_same y) xs ms))

  -- ---- union

  union_by : (y : Value) (xs ys : List Value) → Contains values y → Of xs → (b : Bool) → list_any (is_same y) xs ≡ b
      → ((zs : List Value) → Of zs → count_by p (set_union zs ys) ≡ max (count_by p zs) (min 1 (count_by p ys)))
      → count_by p (set_union (if b then xs else xs ++ y ∷ []) ys) ≡ max (count_by p xs) (min 1 (count_by p (y ∷ ys)))
  union_by y xs ys m ns true h before =
      let rest = before xs ns in
      let all = more p y ys in
      let left = taken y m xs ns h in
      omega arith
  union_by y xs ys m ns false h before =
      let rest = before (xs ++ y ∷ []) (longer (Contains values) xs y ns m) in
      let all = more p y ys in
      let end = at_end p xs y in
      let other = apart y m xs ns h in
      let single = small (p y) in
      omega arith

  set_unions : (ys : List Value) → Of ys → (xs : List Value) → Of xs → count_by p (set_union xs ys) ≡ max (count_by p xs) (min 1 (count_by p ys))
  set_unions [] ns xs ms = omega arith
  set_unions (y ∷ ys) ns xs ms = union_by y xs ys ns.0 ms (list_any (is_same y) xs) refl (set_unions ys ns.1)

  -- ---- what lies within

  within_by : (x : Value) (xs ys : List Value) → Contains values x → Of ys → (b : Bool) → list_any (is_same x) ys ≡ b
      → (b && all_within xs (without_first (is_same x) ys)) ≡ true
      → (all_within xs (without_first (is_same x) ys) ≡ true → count_by p xs ≤ count_by p (without_first (is_same x) ys))
      → count_by p (x ∷ xs) ≤ count_by p ys
  within_by x xs ys m ns true found h before =
      let rest = before h in
      let all = more p x xs in
      let left = taken x m ys ns found in
      omega arith
  within_by x xs ys m ns false found h before = absurd (cc)

  withins_of : (xs : List Value) → Of xs → (ys : List Value) → Of ys → all_within xs ys ≡ true → count_by p xs ≤ count_by p ys
  withins_of [] ms ys ns h = omega arith
  withins_of (x ∷ xs) ms ys ns h =
      within_by x xs ys ms.0 ns (list_any (is_same x) ys) refl h
      (withins_of xs ms.1 (without_first (is_same x) ys) (without (Contains values) (is_same x) ys ns))

-- ---- the class of a value

module _ (values : List Value) (p : Value → Bool) (class : IsClassAmong values p) where
  alike_by : (x y : Value) → Contains values x → Contains values y → p x ≡ true → (b c : Bool) → p y ≡ b → is_same x y ≡ c → p y ≡ is_same x y
  alike_by x y m n is true c of same = of ∙ sym (class.within x y m n is of)
  alike_by x y m n is false true of same = sym (class.whole x y m n same) ∙ is ∙ sym same
  alike_by x y m n is false false of same = of ∙ sym same

  pub passes_alike : (x y : Value) → Contains values x → Contains values y → p x ≡ true → p y ≡ is_same x y
  passes_alike x y m n is = alike_by x y m n is (p y) (is_same x y) refl refl

  pub lies_in_own : (x : Value) → Contains values x → p x ≡ true → HasClass values x
  lies_in_own x m is = record {
    itself = class.within x x m m is is;
    class = record {
      within = λ y z n o h k. class.within y z n o (passes_alike x y m n is ∙ h) (passes_alike x z m o is ∙ k);
      whole = λ y z n o h. sym (passes_alike x y m n is) ∙ class.whole y z n o h ∙ passes_alike x z m o is;
    };
  }

-- ---- what has at most as many of each class

module _ (values : List Value) where
  lies_within : (xs : List Value) → AllByRecursion (HasClass values) xs → AllByRecursion (Contains values) xs
      → (ys : List Value) → AllByRecursion (Contains values) ys
      → ((p : Value → Bool) → IsClassAmong values p → count_by p xs ≤ count_by p ys) → all_within xs ys ≡ true
  lies_within [] cs ms ys ns h = refl
  lies_within (x ∷ xs) cs ms ys ns h =
      let own = h (is_same x) cs.0.class in
      let all = more (is_same x) x xs in
      let itself = is_one (is_same x) x cs.0.itself in
      let has : list_any (is_same x) ys ≡ true = found (is_same x) ys (omega arith) in
      let rest : all_within xs (without_first (is_same x) ys) ≡ true =
      lies_within xs cs.1 ms.1 (without_first (is_same x) ys) (without (Contains values) (is_same x) ys ns)
      (λ p class. let many = h p class in let first = more p x xs in let left = taken values p class x ms.0 ys ns has in omega arith) in
      λ i. has i && rest i

-- ---- of the values of both sides

module _ (xs ys : List Value) where
  of_left : AllByRecursion (Contains (xs ++ ys)) xs
  of_left = left_of (Contains (xs ++ ys)) xs ys (each (xs ++ ys))

  of_right : AllByRecursion (Contains (xs ++ ys)) ys
  of_right = right_of (Contains (xs ++ ys)) xs ys (each (xs ++ ys))

module _ (p : Value → Bool) (xs ys : List Value) (class : IsClassAmong (xs ++ ys) p) where
  pub set_union_count : count_by p (set_union xs ys) ≡ max (count_by p xs) (min 1 (count_by p ys))
  set_union_count = set_unions (xs ++ ys) p class ys (of_right xs ys) xs (of_left xs ys)

  pub set_union_once : count_by p xs ≤ 1 → count_by p (set_union xs ys) ≡ min 1 (count_by p xs + count_by p ys)
  set_union_once few = let many = set_union_count in omega arith

  pub common_count : count_by p (common xs ys) ≡ min (count_by p xs) (count_by p ys)
  common_count = commons (xs ++ ys) p class xs (of_left xs ys) ys (of_right xs ys)

  pub less_count : count_by p (less xs ys) ≡ count_by p xs - count_by p ys
  less_count = lesses (xs ++ ys) p class ys (of_right xs ys) xs (of_left xs ys)

  within_count : all_within xs ys ≡ true → count_by p xs ≤ count_by p ys
  within_count = withins_of (xs ++ ys) p class xs (of_left xs ys) ys (of_right xs ys)

pub at_most_within : (xs ys : List Value) → all_within xs ys ≡ true → HasAtMost xs ys
at_most_within xs ys h p class = within_count p xs ys class h

pub within_at_most : (xs ys : List Value) → HaveClasses (xs ++ ys) → HasAtMost xs ys → all_within xs ys ≡ true
within_at_most xs ys classes h =
    lies_within (xs ++ ys) xs (left_of (HasClass (xs ++ ys)) xs ys classes) (of_left xs ys) ys (of_right xs ys) h

pub ruleset set_unions_counted = (set_union_count, set_union_once)

pub ruleset one_class = (passes_alike, lies_in_own)

pub ruleset withins = (at_most_within, within_at_most)
