-- The first element that passes, and the rest without it.
use Rattle.std.proofs.Common.{◌≡◌, ℕ, suc, ◌+◌, Bool, true, false, not, ◌||◌, cond, if◌then◌else◌, nat_lt, List, [], ◌∷◌, length, Option, Some, None, refl, sym, ◌∙◌, ap, subst, arith}
use Rattle.std.proofs.lemmas.Bool.Decides.{nat_tests}
use Rattle.std.specs.List.{list_any, position, position_or_len, remove}
use Rattle.std.specs.Prelude.{⊤}
use Rattle.rp_operations.specs.Operations.{without_first}
use Rattle.rp_value.specs.declared.value.Value.{Value}

abbrev pub Yes : Bool → Type 0
Yes true = ⊤
Yes false = ⊥

first : (n : ℕ) → true ≡ nat_lt 0 (suc n)
first n = grind (arith, nat_tests)

further : (i n : ℕ) → nat_lt i n ≡ nat_lt (1 + i) (suc n)
further i n = grind (arith, nat_tests)

module _ (p : Value → Bool) where
  found_by : (t : Bool) (xs : List Value) → list_any p xs ≡ nat_lt (position_or_len p xs) (length xs)
      → (t || list_any p xs) ≡ nat_lt (cond (not t) (1 + position_or_len p xs) 0) (suc (length xs))
  found_by true xs before = first (length xs)
  found_by false xs before = before ∙ further (position_or_len p xs) (length xs)

  found : (xs : List Value) → list_any p xs ≡ nat_lt (position_or_len p xs) (length xs)
  found [] = refl
  found (x ∷ xs) = found_by (p x) xs (found xs)

  rest_by : (t : Bool) (x : Value) (xs : List Value) → (t || list_any p xs) ≡ true → (list_any p xs ≡ true → remove xs (position_or_len p xs) ≡ without_first p xs)
      → remove (x ∷ xs) (cond (not t) (1 + position_or_len p xs) 0) ≡ (if t then xs else x ∷ without_first p xs)
  rest_by true x xs h before = refl
  rest_by false x xs h before =
      let next : 1 + position_or_len p xs ≡ suc (position_or_len p xs) = omega arith in
      ap (remove (x ∷ xs)) next ∙ ap (λ ys. x ∷ ys) (before h)

  rest : (xs : List Value) → list_any p xs ≡ true → remove xs (position_or_len p xs) ≡ without_first p xs
  rest [] h = absurd (subst Yes (sym h) tt)
  rest (x ∷ xs) h = rest_by (p x) x xs h (rest xs)

  stays_by : (t : Bool) (x : Value) (xs : List Value) → (t || list_any p xs) ≡ false → (list_any p xs ≡ false → xs ≡ without_first p xs)
      → x ∷ xs ≡ (if t then xs else x ∷ without_first p xs)
  stays_by true x xs h before = absurd (subst Yes h tt)
  stays_by false x xs h before = ap (λ ys. x ∷ ys) (before h)

  pub stays : (xs : List Value) → list_any p xs ≡ false → xs ≡ without_first p xs
  stays [] h = refl
  stays (x ∷ xs) h = stays_by (p x) x xs h (stays xs)

abbrev value_or : Option ℕ → ℕ
value_or None = 0
value_or (Some n) = n

abbrev IsNone : Option ℕ → Type 0
IsNone None = ⊤
IsNone (Some n) = ⊥

settled : (t : Bool) (k i : ℕ) → cond t (Some k) None ≡ Some i → (t ≡ true) × (k ≡ i)
settled true k i is = (refl, ap value_or is)
settled false k i is = absurd (subst IsNone is tt)

unsettled : (t : Bool) (k : ℕ) → cond t (Some k) None ≡ None → t ≡ false
unsettled true k is = absurd (subst IsNone (sym is) tt)
unsettled false k is = refl

module _ (p : Value → Bool) (xs : List Value) where
  pub some_left : (i : ℕ) → position p xs ≡ Some i → remove xs i ≡ without_first p xs
  some_left i is =
      let at = settled (nat_lt (position_or_len p xs) (length xs)) (position_or_len p xs) i is in
      subst (λ k. remove xs k ≡ without_first p xs) at.1 (rest p xs (found p xs ∙ at.0))

  pub some_found : (i : ℕ) → position p xs ≡ Some i → true ≡ list_any p xs
  some_found i is = sym (found p xs ∙ (settled (nat_lt (position_or_len p xs) (length xs)) (position_or_len p xs) i is).0)

  pub none_found : position p xs ≡ None → false ≡ list_any p xs
  none_found is = sym (found p xs ∙ unsettled (nat_lt (position_or_len p xs) (length xs)) (position_or_len p xs) is)

  pub none_left : position p xs ≡ None → xs ≡ without_first p xs
  none_left is = stays p xs (sym (none_found is))

pub ruleset takes = (some_left, some_found, none_found, none_left)
