-- The orders of a schema as it is evaluated name everything that they are of, once.
use Rattle.std.proofs.Common.{◌≡◌, ℕ, zero, suc, ◌+◌, ◌<◌, ◌≤◌, ◌==◌, Bool, true, false, not, if◌then◌else◌, List, [], ◌∷◌, ◌++◌, map, filter, length, Option, Some, None, refl, sym, subst, ap, ◌∙◌, arith}
use Rattle.std.proofs.lemmas.Bool.Decides.{nat_tests}
use Rattle.std.proofs.lemmas.Cmp.{nat_list_cmp_total, tied_itself}
use Rattle.std.proofs.lemmas.List.{map-append}
use Rattle.std.proofs.lemmas.List.Sorted.{IsPermutation-append_right, IsPermutation-filter_both, IsPermutation-map, IsPermutation-refl, IsPermutation-trans}
use Rattle.std.proofs.lemmas.List.Sums.{sum_by-cons}
use Rattle.std.specs.List.{AllByRecursion, filter_map, flat_map, range_with_len, sum_by}
use Rattle.std.specs.List.Sorted.{IsPermutation}
use Rattle.std.specs.Ordering.{is_lt}
use Rattle.ex_named.specs.declared.declaration.NamedDomainRule.{NamedDomainRule}
use Rattle.ex_named.specs.declared.declaration.NamedEntity.{NamedEntity}
use Rattle.ex_named.specs.declared.declaration.NamedRule.{NamedRule}
use Rattle.ex_named.specs.declared.declaration.NamedSchema.{NamedSchema}
use Rattle.ex_named.specs.declared.declaration.NamedType.{NamedType}
use Rattle.ex_named.specs.declared.declaration.NamedUniqueRule.{NamedUniqueRule}
use Rattle.ex_types.specs.Checked.{Checked, entity_names, type_names}
use Rattle.ex_types.specs.Declarations.{of_entity, of_rule, of_type_number}
use Rattle.ex_typing.specs.Expressions.{TypingScope}
use Rattle.graphs.specs.Graphs.{numbers_from}
use Rattle.name_tables.specs.Order.{by_bytes, rank}
use Rattle.plain_data.specs.Numbers.{numbered_from}
use Rattle.rp_meaning.specs.Compiled.{compiled, conditions, declaration, defined_type, entity, expression, inverse, rule}
use Rattle.rp_meaning.specs.CompiledNames.{in_order}
use Rattle.rp_rule_laws.specs.Reports.{AreAllBelow, HasOrders, count_of_rules, declared_rules}

-- ---- ranks

-- what a test doesn't pass isn't among those that do
fewer : {X : Type 0} (p : X → Bool) (xs : List X) → length (filter p xs) ≤ length xs
fewer p [] = omega arith
fewer p (x ∷ xs) = elim (p x) as (λ b. length (if b then x ∷ filter p xs else filter p xs) ≤ suc (length xs)) [
  | true ↦ let rest = fewer p xs in omega arith
  | false ↦ let rest = fewer p xs in omega arith
]

abbrev IsLeftOut : {X : Type 0} → List X → X → Type 0
IsLeftOut {X} xs x = (p : X → Bool) → p x ≡ false → length (filter p xs) < length xs

left-out-next : {X : Type 0} (y : X) (ys : List X) (x : X) → IsLeftOut ys x → IsLeftOut (y ∷ ys) x
left-out-next y ys x out p fails =
    let rest = out p fails in
    elim (p y) as (λ b. length (if b then y ∷ filter p ys else filter p ys) < suc (length ys)) [ true ↦ omega arith | false ↦ omega arith ]

left-out-first : {X : Type 0} (y : X) (ys : List X) → IsLeftOut (y ∷ ys) y
left-out-first y ys p fails =
    let rest = fewer p ys in
    let same : length (filter p (y ∷ ys)) ≡ length (filter p ys) = ap (λ b. length (if b then y ∷ filter p ys else filter p ys)) fails in
    omega arith

all-next : {X : Type 0} (P Q : X → Type 0) → ((x : X) → P x → Q x) → (xs : List X) → AllByRecursion P xs → AllByRecursion Q xs
all-next P Q follows [] all = tt
all-next P Q follows (x ∷ xs) all = (follows x all.0, all-next P Q follows xs all.1)

all-left-out : {X : Type 0} (xs : List X) → AllByRecursion (IsLeftOut xs) xs
all-left-out [] = tt
all-left-out (y ∷ ys) = (left-out-first y ys, all-next (IsLeftOut ys) (IsLeftOut (y ∷ ys)) (left-out-next y ys) ys (all-left-out ys))

ranks-below : (names : List (List ℕ)) → AllByRecursion (λ name. rank names name < length names) names
ranks-below names =
    all-next (IsLeftOut names) (λ name. rank names name < length names)
    (λ name out. out (λ n. is_lt (by_bytes n name)) (ap is_lt (tied_itself nat_list_cmp_total name)))
    names (all-left-out names)

-- ---- rows by their first numbers

abbrev Row : Type 0
Row = ℕ × ℕ

abbrev with_first : ℕ → List Row → List Row
with_first k = filter (λ r. r.0 == k)

abbrev others_than : ℕ → List Row → List Row
others_than k = filter (λ r. not (r.0 == k))

-- first numbers from one number on, and so many
abbrev IsWithin : ℕ → ℕ → Row → Type 0
IsWithin a m r = (a ≤ r.0) × (r.0 < a + m)

within-by : (a m : ℕ) (x : Row) (xs : List Row) (b : Bool) → (x.0 == a) ≡ b → IsWithin a (suc m) x → AllByRecursion (IsWithin (suc a) m) (others_than a xs)
    → AllByRecursion (IsWithin (suc a) m) (if not b then x ∷ others_than a xs else others_than a xs)
within-by a m x xs true is within rest = rest
within-by a m x xs false is within rest =
    let low = within.0 in
    let high = within.1 in
    ((grind (arith, nat_tests), omega arith), rest)

others-within : (a m : ℕ) (xs : List Row) → AllByRecursion (IsWithin a (suc m)) xs → AllByRecursion (IsWithin (suc a) m) (others_than a xs)
others-within a m [] all = tt
others-within a m (x ∷ xs) all = within-by a m x xs (x.0 == a) refl all.0 (others-within a m xs all.1)

again-by : (a k : ℕ) → a < k → (x : Row) (xs : List Row) (b d : Bool) → (x.0 == a) ≡ b → (x.0 == k) ≡ d → with_first k (others_than a xs) ≡ with_first k xs
    → with_first k (if not b then x ∷ others_than a xs else others_than a xs) ≡ (if d then x ∷ with_first k xs else with_first k xs)
again-by a k less x xs true true is at same = absurd (grind (arith, nat_tests))
again-by a k less x xs true false is at same = same
again-by a k less x xs false true is at same = ap (λ b. if b then x ∷ with_first k (others_than a xs) else with_first k (others_than a xs)) at ∙ ap (λ l. x ∷ l) same
again-by a k less x xs false false is at same = ap (λ b. if b then x ∷ with_first k (others_than a xs) else with_first k (others_than a xs)) at ∙ same

again : (a k : ℕ) → a < k → (xs : List Row) → with_first k (others_than a xs) ≡ with_first k xs
again a k less [] = refl
again a k less (x ∷ xs) = again-by a k less x xs (x.0 == a) (x.0 == k) refl refl (again a k less xs)

all-again : (a start m : ℕ) → a < start → (xs : List Row) → flat_map (λ k. with_first k (others_than a xs)) (numbers_from start m) ≡ flat_map (λ k. with_first k xs) (numbers_from start m)
all-again a start zero less xs = refl
all-again a start (suc m) less xs = λ i. again a start less xs i ++ all-again a (suc start) m (omega arith) xs i

-- each row stands where its first number is
pub by-first : (a m : ℕ) (xs : List Row) → AllByRecursion (IsWithin a m) xs → IsPermutation xs (flat_map (λ k. with_first k xs) (numbers_from a m))
by-first a zero [] all = IsPermutation-refl []
by-first a zero (x ∷ xs) all = let low = all.0.0 in let high = all.0.1 in absurd (omega arith)
by-first a (suc m) xs all =
    let rest = by-first (suc a) m (others_than a xs) (others-within a m xs all) in
    IsPermutation-trans xs (with_first a xs ++ others_than a xs) (flat_map (λ k. with_first k xs) (numbers_from a (suc m)))
    (IsPermutation-filter_both (λ r. r.0 == a) (λ r. not (r.0 == a)) (λ r. refl) xs)
    (IsPermutation-append_right (with_first a xs) (others_than a xs) (flat_map (λ k. with_first k xs) (numbers_from (suc a) m))
    (subst (IsPermutation (others_than a xs)) (all-again a (suc a) m (omega arith) xs) rest))

-- ---- the numbers of names

module _ (names : List (List ℕ)) where
  abbrev ranked : ℕ → List ℕ → Row
  ranked number name = (rank names name, number)

  abbrev number_of : Row → ℕ
  number_of r = r.1

  abbrev at : ℕ → ℕ → List ℕ → Option ℕ
  at k number name = if rank names name == k then Some number else None

  rank-by : (k r m : ℕ) (us : List Row) (os : List (Option ℕ)) (b : Bool) → (r == k) ≡ b → map number_of (with_first k us) ≡ filter_map (λ n. n) os
      → map number_of (if b then (r, m) ∷ with_first k us else with_first k us) ≡ filter_map (λ n. n) ((if b then Some m else None) ∷ os)
  rank-by k r m us os true is same = ap (λ ns. m ∷ ns) same
  rank-by k r m us os false is same = same

  of-rank : (k m : ℕ) (xs : List (List ℕ)) → map number_of (with_first k (numbered_from ranked m xs)) ≡ filter_map (λ n. n) (numbered_from (at k) m xs)
  of-rank k m [] = refl
  of-rank k m (x ∷ xs) = rank-by k (rank names x) m (numbered_from ranked (suc m) xs) (numbered_from (at k) (suc m) xs) (rank names x == k) refl (of-rank k (suc m) xs)

  map-flat : {A B : Type 0} (f : A → B) (g : ℕ → List A) (ns : List ℕ) → map f (flat_map g ns) ≡ flat_map (λ n. map f (g n)) ns
  map-flat f g [] = refl
  map-flat f g (n ∷ ns) = map-append f (g n) (flat_map g ns) ∙ ap (λ l. map f (g n) ++ l) (map-flat f g ns)

  numbers-of : (m : ℕ) (xs : List (List ℕ)) → map number_of (numbered_from ranked m xs) ≡ range_with_len m (length xs)
  numbers-of m [] = refl
  numbers-of m (x ∷ xs) = ap (λ l. m ∷ l) (numbers-of (suc m) xs ∙ ap (λ k. range_with_len k (length xs)) (omega arith))

  within-names : (m : ℕ) (xs : List (List ℕ)) → AllByRecursion (λ name. rank names name < length names) xs → AllByRecursion (IsWithin 0 (length names)) (numbered_from ranked m xs)
  within-names m [] all = tt
  within-names m (x ∷ xs) all = let low = all.0 in ((omega arith, omega arith), within-names (suc m) xs all.1)

  pub all-numbers : AreAllBelow (length names) (in_order names)
  all-numbers =
      let rows = numbered_from ranked 0 names in
      let ordered = IsPermutation-map number_of rows (flat_map (λ k. with_first k rows) (numbers_from 0 (length names))) (by-first 0 (length names) rows (within-names 0 names (ranks-below names))) in
      let same : map number_of (flat_map (λ k. with_first k rows) (numbers_from 0 (length names))) ≡ in_order names =
      map-flat number_of (λ k. with_first k rows) (numbers_from 0 (length names)) ∙ (λ i. flat_map (λ k. of-rank k 0 names i) (numbers_from 0 (length names))) in
      subst (λ (l : List ℕ). IsPermutation l (in_order names)) (numbers-of 0 names) (subst (IsPermutation (map number_of rows)) same ordered)

-- ---- a schema as it is evaluated

length-map : {A B : Type 0} (f : A → B) (xs : List A) → length (map f xs) ≡ length xs
length-map f [] = refl
length-map f (x ∷ xs) = ap suc (length-map f xs)

length-numbered : {A B : Type 0} (f : ℕ → A → B) (k : ℕ) (xs : List A) → length (numbered_from f k xs) ≡ length xs
length-numbered f k [] = refl
length-numbered f k (x ∷ xs) = ap suc (length-numbered f (suc k) xs)

sum-numbered : {A B : Type 0} (f : ℕ → A → B) (g : B → ℕ) (h : A → ℕ) → ((k : ℕ) (x : A) → g (f k x) ≡ h x) → (k : ℕ) (xs : List A) → sum_by g (numbered_from f k xs) ≡ sum_by h xs
sum-numbered f g h same k [] = refl
sum-numbered f g h same k (x ∷ xs) =
    let first = same k x in
    let rest = sum-numbered f g h same (suc k) xs in
    let all = sum_by-cons g (f k x) (numbered_from f (suc k) xs) in
    let sum = sum_by-cons h x xs in
    omega arith

sum-map : {A B : Type 0} (f : A → B) (g : B → ℕ) (h : A → ℕ) → ((x : A) → g (f x) ≡ h x) → (xs : List A) → sum_by g (map f xs) ≡ sum_by h xs
sum-map f g h same [] = refl
sum-map f g h same (x ∷ xs) =
    let first = same x in
    let rest = sum-map f g h same xs in
    let all = sum_by-cons g (f x) (map f xs) in
    let sum = sum_by-cons h x xs in
    omega arith

order-of : (count : ℕ) (names : List (List ℕ)) → length names ≡ count → AreAllBelow count (in_order names)
order-of count names same = subst (λ (n : ℕ). AreAllBelow n (in_order names)) same (all-numbers names)

module _ (schema : Checked) where
  abbrev named : NamedSchema
  named = schema.named.schema

  pub compiled-orders : HasOrders (compiled schema)
  unfolding compiled
  compiled-orders = record {
    types = order-of (length (numbered_from (defined_type named) 0 named.types)) (type_names named.types) (length-map (λ (x : NamedType). x.name.text) named.types ∙ sym (length-numbered (defined_type named) 0 named.types));
    entities = order-of (length (numbered_from (entity named) 0 named.entities)) (entity_names named.entities) (length-map (λ (x : NamedEntity). x.name.text) named.entities ∙ sym (length-numbered (entity named) 0 named.entities));
    rules = order-of (length (map (rule named) named.rules)) (map (λ x. x.name.text) named.rules) (length-map (λ (x : NamedRule). x.name.text) named.rules ∙ sym (length-map (rule named) named.rules));
  }

  conditions-of : (s : TypingScope) (xs : List NamedDomainRule) → length (conditions named s xs) ≡ length xs
  conditions-of s xs = length-map (λ (x : NamedDomainRule). expression named s x.condition) xs

  entity-rules : (n : ℕ) (x : NamedEntity) → length (entity named n x).domain_rules + length (entity named n x).unique_rules + length (entity named n x).inverse
      ≡ length x.domain_rules + length x.unique_rules + length x.inverse
  entity-rules n x =
      let wheres = conditions-of (of_entity n) x.domain_rules in
      let uniques = length-map (λ (rule : NamedUniqueRule). map declaration rule.attributes) x.unique_rules in
      let inverses = length-map inverse x.inverse in
      omega arith

  pub compiled-rules : count_of_rules (compiled schema) ≡ declared_rules named
  unfolding compiled
  compiled-rules =
      let types = sum-numbered (defined_type named) (λ x. length x.domain_rules) (λ x. length x.domain_rules) (λ n x. conditions-of (of_type_number n) x.domain_rules) 0 named.types in
      let entities = sum-numbered (entity named) (λ x. length x.domain_rules + length x.unique_rules + length x.inverse) (λ x. length x.domain_rules + length x.unique_rules + length x.inverse)
      entity-rules 0 named.entities in
      let rules = sum-map (rule named) (λ x. length x.domain_rules) (λ x. length x.domain_rules) (λ x. conditions-of (of_rule x) x.domain_rules) named.rules in
      omega arith
