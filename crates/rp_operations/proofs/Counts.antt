-- How many values of a class are among those that the operators on aggregates give.
use Rattle.std.proofs.Common.{◌≡◌, ℕ, ◌+◌, ◌-◌, ◌≤◌, min, max, Bool, true, false, ◌||◌, ◌&&◌, cond, if◌then◌else◌, List, [], ◌∷◌, ◌++◌, refl, sym, ◌∙◌, ap, subst, arith}
use Rattle.std.proofs.lemmas.List.Sums.{sum_by-cons, sum_by-append}
use Rattle.std.specs.List.{list_any, count_by}
use Rattle.rp_operations.proofs.Taking.{Yes, stays}
use Rattle.rp_operations.specs.Operations.{is_same, set_union, without_first, common, less, all_within}
use Rattle.rp_operations.specs.Laws.{IsClass}
use Rattle.rp_value.specs.declared.value.Value.{Value}

unfoldable one : Bool → ℕ
one b = cond b 1 0

small : (b : Bool) → one b ≤ 1
unfolding one
small true = omega arith
small false = omega arith

module _ (p : Value → Bool) (class : IsClass p) where
  more : (x : Value) (xs : List Value) → count_by p (x ∷ xs) ≡ one (p x) + count_by p xs
  unfolding one
  more x xs = sum_by-cons (λ y. cond (p y) 1 0) x xs

  behind : (xs : List Value) (y : Value) → count_by p (xs ++ y ∷ []) ≡ count_by p xs + one (p y)
  behind xs y =
      let last = more y [] in
      let both : count_by p (xs ++ y ∷ []) ≡ count_by p xs + count_by p (y ∷ []) = sum_by-append (λ z. cond (p z) 1 0) xs (y ∷ []) in
      omega arith

  not_one : (x : Value) → p x ≡ false → one (p x) ≡ 0
  unfolding one
  not_one x is = ap one is

  at_most_one : (x : Value) → one (p x) ≤ 1
  at_most_one x = small (p x)

  -- ---- one that is taken

  taken_by : (x y : Value) (ys : List Value) (t : Bool) → is_same x y ≡ t → (t || list_any (is_same x) ys) ≡ true
      → (list_any (is_same x) ys ≡ true → one (p x) + count_by p (without_first (is_same x) ys) ≡ count_by p ys)
      → one (p x) + count_by p (if t then ys else y ∷ without_first (is_same x) ys) ≡ count_by p (y ∷ ys)
  taken_by x y ys true is h before = ap (λ b. one b + count_by p ys) (class.whole x y is) ∙ sym (more y ys)
  taken_by x y ys false is h before =
      let rest = before h in
      let left = more y (without_first (is_same x) ys) in
      let all = more y ys in
      omega arith

  taken : (x : Value) (ys : List Value) → list_any (is_same x) ys ≡ true → one (p x) + count_by p (without_first (is_same x) ys) ≡ count_by p ys
  taken x [] h = absurd (subst Yes (sym h) tt)
  taken x (y ∷ ys) h = taken_by x y ys (is_same x y) refl h (taken x ys)

  -- ---- one that none is the same as

  none_by : (x y : Value) (ys : List Value) (s t : Bool) → is_same x y ≡ s → p y ≡ t → p x ≡ true → (s || list_any (is_same x) ys) ≡ false
      → (list_any (is_same x) ys ≡ false → count_by p ys ≡ 0) → count_by p (y ∷ ys) ≡ 0
  none_by x y ys true t same is of h before = absurd (subst Yes h tt)
  none_by x y ys false true same is of h before = absurd (subst Yes (sym (class.within x y of is) ∙ same) tt)
  none_by x y ys false false same is of h before =
      let rest = before h in
      let all = more y ys in
      let first = not_one y is in
      omega arith

  none : (x : Value) (ys : List Value) → p x ≡ true → list_any (is_same x) ys ≡ false → count_by p ys ≡ 0
  none x [] of h = refl
  none x (y ∷ ys) of h = none_by x y ys (is_same x y) (p y) refl refl of h (none x ys of)

  -- not both are some
  product : (x : Value) (ys : List Value) (s : Bool) → p x ≡ s → list_any (is_same x) ys ≡ false → min (one (p x)) (count_by p ys) ≡ 0
  product x ys true is h = let all = none x ys is h in omega arith
  product x ys false is h = let first = not_one x is in omega arith

  apart : (x : Value) (ys : List Value) → list_any (is_same x) ys ≡ false → min (one (p x)) (count_by p ys) ≡ 0
  apart x ys h = product x ys (p x) refl h

  -- ---- intersection

  common_by : (x : Value) (xs ys : List Value) (t : Bool) → list_any (is_same x) ys ≡ t
      → ((zs : List Value) → count_by p (common xs zs) ≡ min (count_by p xs) (count_by p zs))
      → count_by p (if t then x ∷ common xs (without_first (is_same x) ys) else common xs ys) ≡ min (count_by p (x ∷ xs)) (count_by p ys)
  common_by x xs ys true h before =
      let rest = before (without_first (is_same x) ys) in
      let found = more x (common xs (without_first (is_same x) ys)) in
      let all = more x xs in
      let left = taken x ys h in
      omega arith
  common_by x xs ys false h before =
      let rest = before ys in
      let all = more x xs in
      let other = apart x ys h in
      omega arith

  pub common_count : (xs ys : List Value) → count_by p (common xs ys) ≡ min (count_by p xs) (count_by p ys)
  common_count [] ys = omega arith
  common_count (x ∷ xs) ys = common_by x xs ys (list_any (is_same x) ys) refl (common_count xs)

  -- ---- difference

  less_by : (y : Value) (xs ys : List Value) (t : Bool) → list_any (is_same y) xs ≡ t
      → count_by p (less (without_first (is_same y) xs) ys) ≡ count_by p (without_first (is_same y) xs) - count_by p ys
      → count_by p (less (without_first (is_same y) xs) ys) ≡ count_by p xs - count_by p (y ∷ ys)
  less_by y xs ys true h rest =
      let all = more y ys in
      let left = taken y xs h in
      omega arith
  less_by y xs ys false h rest =
      let all = more y ys in
      let other = apart y xs h in
      let whole : count_by p xs ≡ count_by p (without_first (is_same y) xs) = ap (count_by p) (stays (is_same y) xs h) in
      omega arith

  pub less_count : (xs ys : List Value) → count_by p (less xs ys) ≡ count_by p xs - count_by p ys
  less_count xs [] = omega arith
  less_count xs (y ∷ ys) = less_by y xs ys (list_any (is_same y) xs) refl (less_count (without_first (is_same y) xs) ys)

  -- ---- union

  union_by : (y : Value) (xs ys : List Value) (t : Bool) → list_any (is_same y) xs ≡ t
      → ((zs : List Value) → count_by p (set_union zs ys) ≡ max (count_by p zs) (min 1 (count_by p ys)))
      → count_by p (set_union (if t then xs else xs ++ y ∷ []) ys) ≡ max (count_by p xs) (min 1 (count_by p (y ∷ ys)))
  union_by y xs ys true h before =
      let rest = before xs in
      let all = more y ys in
      let left = taken y xs h in
      omega arith
  union_by y xs ys false h before =
      let rest = before (xs ++ y ∷ []) in
      let all = more y ys in
      let longer = behind xs y in
      let other = apart y xs h in
      let single = at_most_one y in
      omega arith

  pub union_count : (xs ys : List Value) → count_by p (set_union xs ys) ≡ max (count_by p xs) (min 1 (count_by p ys))
  union_count xs [] = omega arith
  union_count xs (y ∷ ys) = union_by y xs ys (list_any (is_same y) xs) refl (λ zs. union_count zs ys)

  -- ---- what lies within

  within_by : (x : Value) (xs ys : List Value) (t : Bool) → list_any (is_same x) ys ≡ t → (t && all_within xs (without_first (is_same x) ys)) ≡ true
      → (all_within xs (without_first (is_same x) ys) ≡ true → count_by p xs ≤ count_by p (without_first (is_same x) ys))
      → count_by p (x ∷ xs) ≤ count_by p ys
  within_by x xs ys true found h before =
      let rest = before h in
      let all = more x xs in
      let left = taken x ys found in
      omega arith
  within_by x xs ys false found h before = absurd (subst Yes (sym h) tt)

  pub within_count : (xs ys : List Value) → all_within xs ys ≡ true → count_by p xs ≤ count_by p ys
  within_count [] ys h = omega arith
  within_count (x ∷ xs) ys h = within_by x xs ys (list_any (is_same x) ys) refl h (within_count xs (without_first (is_same x) ys))
