-- The order of culprits in the lists of a report.
use Rattle.std.proofs.Common.{◌≡◌, ◌≢◌, inl, inr, ℕ, suc, ◌+◌, ◌<◌, ◌≤◌, Bool, true, false, if◌then◌else◌, List, [], ◌∷◌, ◌++◌, map, filter, length, All, AllPairs, Option, Some, None, is_some, slice_get, option_map, refl, sym, subst, ap, ◌∙◌, arith}
use Rattle.std.proofs.lemmas.List.{append-nil, append_assoc, map-append}
use Rattle.std.proofs.lemmas.List.Elements.{All-from_recursion}
use Rattle.std.proofs.lemmas.List.Kept.{AllPairs-cons}
use Rattle.std.proofs.lemmas.Option.{get_or_from_slice_get, slice_get-map, slice_get_within}
use Rattle.std.specs.List.{AllByRecursion, cons_option, filter_map, flat_map, list_any}
use Rattle.std.specs.Option.{option_map_or}
use Rattle.ex_named.specs.declared.reference.AttributePlace.{AttributePlace}
use Rattle.rp_meaning.specs.declared.report.Check.{Check}
use Rattle.rp_meaning.specs.declared.report.Constraint.{Constraint}
use Rattle.rp_meaning.specs.declared.report.Constraint.TheVariants as c
use Rattle.rp_meaning.specs.declared.report.Culprit.{Culprit}
use Rattle.rp_meaning.specs.declared.report.Verdict.{Verdict}
use Rattle.rp_meaning.specs.declared.report.Verdict.TheVariants as verdict
use Rattle.rp_meaning.specs.declared.rule.Rule.{Rule}
use Rattle.rp_meaning.specs.declared.rule.Rule.TheVariants as r
use Rattle.rp_meaning.specs.declared.schema.DefinedType.{DefinedType}
use Rattle.rp_meaning.specs.declared.schema.Entity.{Entity}
use Rattle.rp_meaning.specs.declared.schema.GlobalRule.{GlobalRule}
use Rattle.rp_meaning.specs.declared.schema.Schema.{Schema}
use Rattle.rp_meaning.specs.Expressions.{World}
use Rattle.rp_meaning.specs.Faults.{Held, astray, checked_of, held_from, held_of, is_checked, out_of_bounds, unset}
use Rattle.rp_meaning.specs.Populations.{Instance, Stored, is_of, places_from, places_of}
use Rattle.rp_meaning.specs.Report.{Row, agrees, all_evaluated, attribute_checks, attribute_culprit, candidates_of, instance_culprit, inverse_check, inverse_checks, is_whole, of_attribute, of_instance, places, report, row_of, rule_check, rule_checks, type_candidates, type_check, type_checks, unique_by, unique_check, unique_checks, unique_checks_from, value_in, where_check, where_checks, world}
use Rattle.rp_meaning.specs.Sequence.{Candidate, Checking, Result, all_after, check_by, culprits, each_after, in_sequence_after, tried}
use Rattle.rp_rule_laws.specs.Reports.{HaveAttributesOnce, InEachList, Precedes, StandsBefore, is_of_values}

-- ---- lists in order

module _ {A : Type 0} where
  -- each of these before those that follow it
  abbrev pub Pairs : (A → A → Type 0) → List A → Type 0
  Pairs R [] = Unit {0}
  Pairs R (x ∷ xs) = AllByRecursion (R x) xs × Pairs R xs

  pub all-next : (P Q : A → Type 0) → ((x : A) → P x → Q x) → (xs : List A) → AllByRecursion P xs → AllByRecursion Q xs
  all-next P Q follows [] all = tt
  all-next P Q follows (x ∷ xs) all = (follows x all.0, all-next P Q follows xs all.1)

  pub all-append : (P : A → Type 0) (xs ys : List A) → AllByRecursion P xs → AllByRecursion P ys → AllByRecursion P (xs ++ ys)
  all-append P [] ys all others = others
  all-append P (x ∷ xs) ys all others = (all.0, all-append P xs ys all.1 others)

  pub pairs-next : (R S : A → A → Type 0) → ((x y : A) → R x y → S x y) → (xs : List A) → Pairs R xs → Pairs S xs
  pairs-next R S follows [] all = tt
  pairs-next R S follows (x ∷ xs) all = (all-next (R x) (S x) (follows x) xs all.0, pairs-next R S follows xs all.1)

  pub pairs-append : (R : A → A → Type 0) (xs ys : List A) → Pairs R xs → Pairs R ys → AllByRecursion (λ x. AllByRecursion (R x) ys) xs → Pairs R (xs ++ ys)
  pairs-append R [] ys all others between = others
  pairs-append R (x ∷ xs) ys all others between = (all-append (R x) xs ys all.0 between.0, pairs-append R xs ys all.1 others between.1)

  pub all-pairs : (R : A → A → Type 0) (xs : List A) → Pairs R xs → AllPairs R xs
  all-pairs R [] all = λ i j d low high. absurd (omega arith)
  all-pairs R (x ∷ xs) all = AllPairs-cons R x xs (All-from_recursion (R x) xs all.0) (all-pairs R xs all.1)

-- of those that a test keeps
module _ {A B : Type 0} (f : A → B) (p : A → Bool) where
  all-kept : (P : B → Type 0) (xs : List A) → AllByRecursion P (map f xs) → AllByRecursion P (map f (filter p xs))
  all-kept P [] all = tt
  all-kept P (x ∷ xs) all = elim (p x) as (λ b. AllByRecursion P (map f (if b then x ∷ filter p xs else filter p xs))) [ true ↦ (all.0, all-kept P xs all.1) | false ↦ all-kept P xs all.1 ]

  pairs-kept : (R : B → B → Type 0) (xs : List A) → Pairs R (map f xs) → Pairs R (map f (filter p xs))
  pairs-kept R [] all = tt
  pairs-kept R (x ∷ xs) all =
      elim (p x) as (λ b. Pairs R (map f (if b then x ∷ filter p xs else filter p xs))) [ true ↦ (all-kept (R (f x)) xs all.0, pairs-kept R xs all.1) | false ↦ pairs-kept R xs all.1 ]

-- ---- rows of UNIQUE

abbrev culprit_of : Row → Culprit
culprit_of row = row.culprit

abbrev tried_culprit : Result → Culprit
tried_culprit result = result.0

module _ (P : Culprit → Type 0) where
  all-rows : (results : List Result) → AllByRecursion P (map tried_culprit results) → AllByRecursion P (map culprit_of (filter_map row_of results))
  all-rows [] all = tt
  all-rows (x ∷ xs) all =
      elim (is_whole (flat_map value_in x.1) (length x.1))
      as (λ b. AllByRecursion P (map culprit_of (cons_option (if b then Some (record { culprit = x.0; values = flat_map value_in x.1 }) else None) (filter_map row_of xs)))) [
        | true ↦ (all.0, all-rows xs all.1)
        | false ↦ all-rows xs all.1
      ]

pairs-rows : (R : Culprit → Culprit → Type 0) (results : List Result) → Pairs R (map tried_culprit results) → Pairs R (map culprit_of (filter_map row_of results))
pairs-rows R [] all = tt
pairs-rows R (x ∷ xs) all =
    elim (is_whole (flat_map value_in x.1) (length x.1))
    as (λ b. Pairs R (map culprit_of (cons_option (if b then Some (record { culprit = x.0; values = flat_map value_in x.1 }) else None) (filter_map row_of xs)))) [
      | true ↦ (all-rows (R x.0) xs all.0, pairs-rows R xs all.1)
      | false ↦ pairs-rows R xs all.1
    ]

-- ---- what is tried has the culprits of its candidates

module _ (w : World) where
  tried-behind : (found : List Result) (candidates : List Candidate) (used : ℕ) → map tried_culprit (all_after w found candidates used).0 ≡ map tried_culprit found ++ map (λ (x : Candidate). x.0) candidates
  tried-behind found [] used = sym (append-nil (map tried_culprit found))
  tried-behind found (x ∷ xs) used =
      let more = found ++ (x.0, (each_after w [] x.1 used).0) ∷ [] in
      tried-behind more xs (each_after w [] x.1 used).1
      ∙ ap (λ (l : List Culprit). l ++ map (λ (x : Candidate). x.0) xs) (map-append tried_culprit found ((x.0, (each_after w [] x.1 used).0) ∷ []))
      ∙ append_assoc (map tried_culprit found) (x.0 ∷ []) (map (λ (x : Candidate). x.0) xs)

  tried-culprits : (candidates : List Candidate) (used : ℕ) → map tried_culprit (tried w candidates used).0 ≡ map (λ (x : Candidate). x.0) candidates
  tried-culprits candidates used = tried-behind [] candidates used

map-map : {A B D : Type 0} (f : B → D) (g : A → B) (xs : List A) → map f (map g xs) ≡ map (λ x. f (g x)) xs
map-map f g [] = refl
map-map f g (x ∷ xs) = ap (λ l. f (g x) ∷ l) (map-map f g xs)

-- ---- lists of a population

module _ (population : List Instance) where
  -- of values, or of instances
  abbrev IsCulprit : Bool → Culprit → Type 0
  IsCulprit b x = (x.instance < length population) × (is_some x.attribute ≡ b)

  abbrev Comes : Bool → Culprit → Culprit → Type 0
  Comes true x y = Precedes population x y
  Comes false x y = x.instance < y.instance

  pub record Sorted (b : Bool) (xs : List Culprit) : Type 0 where
    pub each : AllByRecursion (IsCulprit b) xs
    pub order : Pairs (Comes b) xs

  none-sorted : (b : Bool) → Sorted b []
  none-sorted b = record { each = tt; order = tt }

  kept-sorted : {A : Type 0} (b : Bool) (f : A → Culprit) (p : A → Bool) (xs : List A) → Sorted b (map f xs) → Sorted b (map f (filter p xs))
  kept-sorted b f p xs all = record { each = all-kept f p (IsCulprit b) xs all.each; order = pairs-kept f p (Comes b) xs all.order }

  rows-sorted : (b : Bool) (results : List Result) → Sorted b (map tried_culprit results) → Sorted b (map culprit_of (filter_map row_of results))
  rows-sorted b results all = record { each = all-rows (IsCulprit b) results all.each; order = pairs-rows (Comes b) results all.order }

  abbrev pub IsSorted : Check → Type 0
  IsSorted check = InEachList (Sorted (is_of_values check.constraint)) check

  culprits-sorted : (b : Bool) (v : Verdict) (results : List Result) → Sorted b (map tried_culprit results) → Sorted b (culprits v results)
  culprits-sorted b v results all = kept-sorted b tried_culprit _ results all

  by-sorted : (x : Constraint) (results : List Result) → Sorted (is_of_values x) (map tried_culprit results) → IsSorted (check_by x results)
  by-sorted x results all = record {
    violating = culprits-sorted (is_of_values x) verdict.False results all;
    limited = culprits-sorted (is_of_values x) verdict.Limit results all;
    not_run = culprits-sorted (is_of_values x) verdict.NotRun results all;
    unknown = culprits-sorted (is_of_values x) verdict.Unknown results all;
  }

  unique-sorted : (entity place : ℕ) (results : List Result) → Sorted false (map tried_culprit results) → IsSorted (unique_by entity place results)
  unique-sorted entity place results all = record {
    violating = kept-sorted false culprit_of (λ row. list_any (agrees row) (filter_map row_of results)) (filter_map row_of results) (rows-sorted false results all);
    limited = culprits-sorted false verdict.Limit results all;
    not_run = culprits-sorted false verdict.NotRun results all;
    unknown = none-sorted false;
  }

  -- ---- instances

  -- those from a place on
  abbrev IsFrom : ℕ → Culprit → Type 0
  IsFrom at x = at ≤ x.instance

  places-behind : (entity at : ℕ) (xs : List Instance) → AllByRecursion (IsFrom at) (map instance_culprit (places_from entity at xs))
  unfolding places_from
  places-behind entity at [] = tt
  places-behind entity at (i ∷ others) =
      let rest = all-next (IsFrom (at + 1)) (IsFrom at) (λ x from. omega (arith, from)) (map instance_culprit (places_from entity (at + 1) others)) (places-behind entity (at + 1) others) in
      elim (is_of i entity) as (λ b. AllByRecursion (IsFrom at) (map instance_culprit (if b then at ∷ places_from entity (at + 1) others else places_from entity (at + 1) others))) [
        | true ↦ (omega arith, rest)
        | false ↦ rest
      ]

  places-in-order : (entity at : ℕ) (xs : List Instance) → at + length xs ≤ length population → Sorted false (map instance_culprit (places_from entity at xs))
  unfolding places_from
  places-in-order entity at [] within = none-sorted false
  places-in-order entity at (i ∷ others) within =
      let rest = places-in-order entity (at + 1) others (omega arith) in
      elim (is_of i entity) as (λ b. Sorted false (map instance_culprit (if b then at ∷ places_from entity (at + 1) others else places_from entity (at + 1) others))) [
        | true ↦ record {
          each = ((omega arith, refl), rest.each);
          order = (
            all-next (IsFrom (at + 1)) (Comes false (instance_culprit at)) (λ x from. omega (arith, from)) (map instance_culprit (places_from entity (at + 1) others)) (places-behind entity (at + 1) others),
            rest.order,
          );
        }
        | false ↦ rest
      ]

  pub of-instances : (entity : ℕ) → Sorted false (map instance_culprit (places_of population entity))
  of-instances entity = places-in-order entity 0 population (omega arith)

  -- ---- values

  abbrev held : ℕ → Instance → Stored → Held
  held at i x = record { place = at; instance = i; value = x }

  abbrev culprits_in : ℕ → Instance → List Stored → List Culprit
  culprits_in at i xs = map attribute_culprit (map (held at i) xs)

  abbrev attributes_of : Instance → List AttributePlace
  attributes_of i = map (λ x. x.attribute) i.values

  module _ (at : ℕ) (i : Instance) (is : slice_get population at ≡ Some i) where
    -- these values stand in the instance from this place on
    abbrev Stand : ℕ → List Stored → Type 0
    Stand k xs = (j : ℕ) → slice_get (attributes_of i) (k + j) ≡ option_map (λ (x : Stored). x.attribute) (slice_get xs j)

    stand-next : (k : ℕ) (x : Stored) (xs : List Stored) → Stand k (x ∷ xs) → Stand (suc k) xs
    stand-next k x xs stand j = ap (slice_get (attributes_of i)) (omega arith) ∙ stand (suc j)

    stands : (k : ℕ) (x : Stored) (xs : List Stored) → Stand k (x ∷ xs) → slice_get (attributes_of i) k ≡ Some x.attribute
    stands k x xs stand = ap (slice_get (attributes_of i)) (omega arith) ∙ stand 0

    behind : (k : ℕ) (x : Stored) → slice_get (attributes_of i) k ≡ Some x.attribute → (n : ℕ) → k < n → (xs : List Stored) → Stand n xs → AllByRecursion (Comes true (attribute_culprit (held at i x))) (culprits_in at i xs)
    behind k x there n less [] stand = tt
    behind k x there n less (y ∷ ys) stand = (
      inr (record {
        instance = i;
        is_first = is;
        same = refl;
        first = x.attribute;
        second = y.attribute;
        has_first = refl;
        has_second = refl;
        order = record { first = k; second = n; order = less; is_first = there; is_second = stands n y ys stand };
      }),
      behind k x there (suc n) (omega arith) ys (stand-next n y ys stand),
    )

    values-in-order : (k : ℕ) (xs : List Stored) → Stand k xs → Pairs (Comes true) (culprits_in at i xs)
    values-in-order k [] stand = tt
    values-in-order k (x ∷ xs) stand =
        (behind k x (stands k x xs stand) (suc k) (omega arith) xs (stand-next k x xs stand), values-in-order (suc k) xs (stand-next k x xs stand))

    each-value : (xs : List Stored) → AllByRecursion (λ x. (x.instance ≡ at) × (is_some x.attribute ≡ true)) (culprits_in at i xs)
    each-value [] = tt
    each-value (x ∷ xs) = ((refl, refl), each-value xs)

  one-sorted : (at : ℕ) (i : Instance) → slice_get population at ≡ Some i → Sorted true (culprits_in at i i.values)
  one-sorted at i is =
      let low = slice_get_within population at i is in
      record {
        each = all-next (λ x. (x.instance ≡ at) × (is_some x.attribute ≡ true)) (IsCulprit true) (λ x there. (omega (arith, there.0), there.1)) (culprits_in at i i.values) (each-value at i is i.values);
        order = values-in-order at i is 0 i.values (λ j. ap (slice_get (attributes_of i)) (omega arith) ∙ slice_get-map (λ (x : Stored). x.attribute) i.values j);
      }

  comes-later : (at : ℕ) (x y : Culprit) → x.instance ≡ at → at + 1 ≤ y.instance → Comes true x y
  comes-later at x y is later = inl (omega arith)

  between : (at : ℕ) (xs ys : List Culprit) → AllByRecursion (λ x. (x.instance ≡ at) × (is_some x.attribute ≡ true)) xs → AllByRecursion (IsFrom (at + 1)) ys → AllByRecursion (λ x. AllByRecursion (Comes true x) ys) xs
  between at [] ys all later = tt
  between at (x ∷ xs) ys all later = (all-next (IsFrom (at + 1)) (Comes true x) (λ y from. comes-later at x y all.0.0 from) ys later, between at xs ys all.1 later)

  pub record HeldFrom (at : ℕ) (xs : List Culprit) : Type 0 where
    pub sorted : Sorted true xs
    pub later : AllByRecursion (IsFrom at) xs

  held-append : (at : ℕ) (i : Instance) → slice_get population at ≡ Some i → (ys : List Culprit) → HeldFrom (at + 1) ys → HeldFrom at (culprits_in at i i.values ++ ys)
  held-append at i is ys rest =
      let one = one-sorted at i is in
      let each = each-value at i is i.values in
      record {
        sorted = record {
          each = all-append (IsCulprit true) (culprits_in at i i.values) ys one.each rest.sorted.each;
          order = pairs-append (Comes true) (culprits_in at i i.values) ys one.order rest.sorted.order (between at (culprits_in at i i.values) ys each rest.later);
        };
        later = all-append (IsFrom at) (culprits_in at i i.values) ys
            (all-next (λ x. (x.instance ≡ at) × (is_some x.attribute ≡ true)) (IsFrom at) (λ x there. omega (arith, there.0)) (culprits_in at i i.values) each)
            (all-next (IsFrom (at + 1)) (IsFrom at) (λ x from. omega (arith, from)) ys rest.later);
      }

  all-held : (at : ℕ) (xs : List Instance) → ((j : ℕ) → slice_get population (at + j) ≡ slice_get xs j) → HeldFrom at (map attribute_culprit (held_from at xs))
  unfolding held_from
  all-held at [] is = record { sorted = none-sorted true; later = tt }
  all-held at (i ∷ others) is =
      let here : slice_get population at ≡ Some i = ap (slice_get population) (omega arith) ∙ is 0 in
      let rest = all-held (at + 1) others (λ j. ap (slice_get population) (omega arith) ∙ is (suc j)) in
      subst (HeldFrom at) (sym (map-append attribute_culprit (held_of at i) (held_from (at + 1) others))) (held-append at i here (map attribute_culprit (held_from (at + 1) others)) rest)

  module _ (schema : Schema) where
    of-values : Sorted true (map attribute_culprit (checked_of schema population))
    of-values = kept-sorted true attribute_culprit (is_checked schema) (held_from 0 population) (all-held 0 population (λ j. ap (slice_get population) (omega arith))).sorted

    of-faults : (is_fault : Held → Bool) → Sorted true (map attribute_culprit (filter is_fault (checked_of schema population)))
    of-faults is_fault = kept-sorted true attribute_culprit is_fault (checked_of schema population) of-values

    attributes-sorted : AllByRecursion IsSorted (attribute_checks schema population)
    attributes-sorted =
        let of_fault = λ (is_fault : Held → Bool). of-faults is_fault in
        let none = none-sorted true in (
          record { violating = of_fault (unset schema); limited = none; not_run = none; unknown = none },
          (
            record { violating = of_fault (out_of_bounds schema population); limited = none; not_run = none; unknown = none },
            (record { violating = of_fault (astray schema population); limited = none; not_run = none; unknown = none }, tt),
          ),
        )

    -- ---- checks by evaluations

    abbrev Sorts : Checking → Type 0
    Sorts x = (used : ℕ) → IsSorted (x used).0

    abbrev w : World
    w = world schema population

    results-sorted : (b : Bool) (candidates : List Candidate) (used : ℕ) → Sorted b (map (λ (x : Candidate). x.0) candidates) → Sorted b (map tried_culprit (tried w candidates used).0)
    results-sorted b candidates used all = subst (Sorted b) (sym (tried-culprits w candidates used)) all

    type-sorts : (number place : ℕ) → Sorts (type_check schema population number place)
    type-sorts number place used =
        by-sorted (c.Type number place) (tried w (type_candidates schema population number place) used).0
        (results-sorted true (type_candidates schema population number place) used
        (subst (Sorted true) (sym (map-map (λ (x : Candidate). x.0) (of_attribute schema population (r.Type number place) number) (checked_of schema population))) of-values))

    candidates-sorted : (entity : ℕ) (rules : List Rule) (used : ℕ) → Sorted false (map tried_culprit (tried w (candidates_of schema population entity rules) used).0)
    candidates-sorted entity rules used =
        results-sorted false (candidates_of schema population entity rules) used
        (subst (Sorted false) (sym (map-map (λ (x : Candidate). x.0) (of_instance schema population rules) (places_of population entity))) (of-instances entity))

    where-sorts : (entity place : ℕ) → Sorts (where_check schema population entity place)
    where-sorts entity place used = by-sorted (c.Where entity place) (tried w (candidates_of schema population entity (r.Entity entity place ∷ [])) used).0 (candidates-sorted entity (r.Entity entity place ∷ []) used)

    inverse-sorts : (entity place : ℕ) → Sorts (inverse_check schema population entity place)
    inverse-sorts entity place used =
        by-sorted (c.Inverse entity place) (tried w (candidates_of schema population entity (r.Inverse entity place ∷ [])) used).0 (candidates-sorted entity (r.Inverse entity place ∷ []) used)

    unique-sorts : (entity place : ℕ) (attributes : List AttributePlace) → Sorts (unique_check schema population entity place attributes)
    unique-sorts entity place attributes used =
        let rules = map (r.Unique entity place) (places (length attributes)) in
        unique-sorted entity place (tried w (candidates_of schema population entity rules) used).0 (candidates-sorted entity rules used)

    rule-sorts : (number place : ℕ) → Sorts (rule_check schema population number place)
    rule-sorts number place used = record { violating = none-sorted false; limited = none-sorted false; not_run = none-sorted false; unknown = none-sorted false }

    all-map : (f : ℕ → Checking) → ((n : ℕ) → Sorts (f n)) → (ns : List ℕ) → AllByRecursion Sorts (map f ns)
    all-map f each [] = tt
    all-map f each (n ∷ ns) = (each n, all-map f each ns)

    all-flat : (f : ℕ → List Checking) → ((n : ℕ) → AllByRecursion Sorts (f n)) → (ns : List ℕ) → AllByRecursion Sorts (flat_map f ns)
    all-flat f each [] = tt
    all-flat f each (n ∷ ns) = all-append Sorts (f n) (flat_map f ns) (each n) (all-flat f each ns)

    all-option : {A : Type 0} (f : ℕ → Checking) → ((n : ℕ) → Sorts (f n)) → (count : A → ℕ) (o : Option A) → AllByRecursion Sorts (option_map_or (λ x. map f (places (count x))) o [])
    all-option f each count None = tt
    all-option f each count (Some x) = all-map f each (places (count x))

    unique-from : (entity place : ℕ) (rules : List (List AttributePlace)) → AllByRecursion Sorts (unique_checks_from schema population entity place rules)
    unique-from entity place [] = tt
    unique-from entity place (rule ∷ rules) = (unique-sorts entity place rule, unique-from entity (place + 1) rules)

    unique-option : (entity : ℕ) (o : Option Entity) → AllByRecursion Sorts (option_map_or (λ x. unique_checks_from schema population entity 0 x.unique_rules) o [])
    unique-option entity None = tt
    unique-option entity (Some x) = unique-from entity 0 x.unique_rules

    all-sort : AllByRecursion Sorts (all_evaluated schema population)
    all-sort =
        let types = all-flat (type_checks schema population) (λ n. all-option (type_check schema population n) (type-sorts n) (λ (x : DefinedType). length x.domain_rules) (slice_get schema.types n)) schema.type_order in
        let wheres = all-flat (where_checks schema population) (λ n. all-option (where_check schema population n) (where-sorts n) (λ (x : Entity). length x.domain_rules) (slice_get schema.entities n)) schema.entity_order in
        let uniques = all-flat (unique_checks schema population) (λ n. unique-option n (slice_get schema.entities n)) schema.entity_order in
        let inverses = all-flat (inverse_checks schema population) (λ n. all-option (inverse_check schema population n) (inverse-sorts n) (λ (x : Entity). length x.inverse) (slice_get schema.entities n)) schema.entity_order in
        let rules = all-flat (rule_checks schema population) (λ n. all-option (rule_check schema population n) (rule-sorts n) (λ (x : GlobalRule). length x.domain_rules) (slice_get schema.rules n)) schema.rule_order in
        all-append Sorts _ _ (all-append Sorts _ _ (all-append Sorts _ _ (all-append Sorts _ _ types wheres) uniques) inverses) rules

    sequence-sorted : (found : List Check) (xs : List Checking) → AllByRecursion IsSorted found → AllByRecursion Sorts xs → (used : ℕ) → AllByRecursion IsSorted (in_sequence_after found xs used).0
    sequence-sorted found [] before all used = before
    sequence-sorted found (x ∷ xs) before all used = sequence-sorted (found ++ (x used).0 ∷ []) xs (all-append IsSorted found ((x used).0 ∷ []) before (all.0 used, tt)) all.1 (x used).1

    report-sorted : AllByRecursion IsSorted (report schema population).checks
    unfolding report
    report-sorted = all-append IsSorted (attribute_checks schema population) (in_sequence_after [] (all_evaluated schema population) 0).0 attributes-sorted (sequence-sorted [] (all_evaluated schema population) tt all-sort 0)

    -- ---- what is told of them

    each-check : (Q : Check → Type 0) → ((check : Check) → IsSorted check → Q check) → All Q (report schema population).checks
    each-check Q follows = All-from_recursion Q (report schema population).checks (all-next IsSorted Q follows (report schema population).checks report-sorted)

    in-each : (P Q : List Culprit → Type 0) → ((xs : List Culprit) → P xs → Q xs) → (check : Check) → InEachList P check → InEachList Q check
    in-each P Q follows check all = record {
      violating = follows check.violating all.violating;
      limited = follows check.limited all.limited;
      not_run = follows check.not_run all.not_run;
      unknown = follows check.unknown all.unknown;
    }

    precede-by : (b : Bool) (x y : Culprit) → Comes b x y → Precedes population x y
    precede-by true x y comes = comes
    precede-by false x y comes = inl comes

    ordered : (b : Bool) (xs : List Culprit) → Sorted b xs → AllPairs (Precedes population) xs
    ordered b xs all = all-pairs (Precedes population) xs (pairs-next (Comes b) (Precedes population) (precede-by b) xs all.order)

    pub culprits-ordered : All (InEachList (AllPairs (Precedes population))) (report schema population).checks
    culprits-ordered = each-check (InEachList (AllPairs (Precedes population))) (λ check. in-each (Sorted (is_of_values check.constraint)) (AllPairs (Precedes population)) (ordered (is_of_values check.constraint)) check)

    inside : (b : Bool) (xs : List Culprit) → Sorted b xs → All (λ x. x.instance < length population) xs
    inside b xs all = All-from_recursion (λ x. x.instance < length population) xs (all-next (IsCulprit b) (λ x. x.instance < length population) (λ x there. there.0) xs all.each)

    pub culprits-inside : All (InEachList (All (λ x. x.instance < length population))) (report schema population).checks
    culprits-inside =
        each-check (InEachList (All (λ x. x.instance < length population)))
        (λ check. in-each (Sorted (is_of_values check.constraint)) (All (λ x. x.instance < length population)) (inside (is_of_values check.constraint)) check)

    attributes-named : (b : Bool) (xs : List Culprit) → Sorted b xs → All (λ x. is_some x.attribute ≡ b) xs
    attributes-named b xs all = All-from_recursion (λ x. is_some x.attribute ≡ b) xs (all-next (IsCulprit b) (λ x. is_some x.attribute ≡ b) (λ x there. there.1) xs all.each)

    pub culprits-named : All (λ (check : Check). InEachList (All (λ x. is_some x.attribute ≡ is_of_values check.constraint)) check) (report schema population).checks
    culprits-named =
        each-check (λ check. InEachList (All (λ x. is_some x.attribute ≡ is_of_values check.constraint)) check)
        (λ check. in-each (Sorted (is_of_values check.constraint)) (All (λ x. is_some x.attribute ≡ is_of_values check.constraint)) (attributes-named (is_of_values check.constraint)) check)

    ascending : (b : Bool) → b ≡ false → (xs : List Culprit) → Sorted b xs → AllPairs (λ x y. x.instance < y.instance) xs
    ascending true is xs all = absurd (cc)
    ascending false is xs all = all-pairs (λ x y. x.instance < y.instance) xs all.order

    pub instances-ascend : All (λ (check : Check). is_of_values check.constraint ≡ false → InEachList (AllPairs (λ x y. x.instance < y.instance)) check) (report schema population).checks
    instances-ascend =
        each-check (λ check. is_of_values check.constraint ≡ false → InEachList (AllPairs (λ x y. x.instance < y.instance)) check)
        (λ check all is. in-each (Sorted (is_of_values check.constraint)) (AllPairs (λ x y. x.instance < y.instance)) (ascending (is_of_values check.constraint) is) check all)

    -- ---- which stand once

    module _ (once : HaveAttributesOnce population) where
      attribute-at : (i : Instance) (k : ℕ) (a : AttributePlace) (o : Option Stored) → slice_get i.values k ≡ o → slice_get (map (λ (x : Stored). x.attribute) i.values) k ≡ Some a
          → (x : Stored) × (slice_get i.values k ≡ Some x) × (x.attribute ≡ a)
      attribute-at i k a None is there = let mapped = slice_get-map (λ (x : Stored). x.attribute) i.values k ∙ ap (option_map (λ (x : Stored). x.attribute)) is in absurd (cc)
      attribute-at i k a (Some x) is there =
          let mapped = slice_get-map (λ (x : Stored). x.attribute) i.values k ∙ ap (option_map (λ (x : Stored). x.attribute)) is in
          let same : x.attribute ≡ a = cc in
          (x, is, same)

      apart : (i : Instance) (place : ℕ) → slice_get population place ≡ Some i → (a b : AttributePlace) → StandsBefore i a b → a ≢ b
      apart i place is a b order same =
          let first = attribute-at i order.first a (slice_get i.values order.first) refl order.is_first in
          let second = attribute-at i order.second b (slice_get i.values order.second) refl order.is_second in
          let here : AllPairs (λ x y. x.attribute ≢ y.attribute) i.values = subst (λ (j : Instance). AllPairs (λ x y. x.attribute ≢ y.attribute) j.values) (get_or_from_slice_get population place i i is) (once place i (slice_get_within population place i is)) in
          let differ = here order.first order.second first.0 order.order (slice_get_within i.values order.second second.0 second.1) in
          differ (
          ap (λ (x : Stored). x.attribute) (get_or_from_slice_get i.values order.first first.0 first.0 first.1)
          ∙ first.2 ∙ same ∙ sym second.2
          ∙ sym (ap (λ (x : Stored). x.attribute) (get_or_from_slice_get i.values order.second second.0 first.0 second.1))
          )

      not-same : (x y : Culprit) → Precedes population x y → x ≢ y
      not-same x y (inl less) same = let e = ap (λ (z : Culprit). z.instance) same in omega arith
      not-same x y (inr within) same =
          let e = sym within.has_first ∙ ap (λ (z : Culprit). z.attribute) same ∙ within.has_second in
          let attributes : within.first ≡ within.second = cc in
          apart within.instance x.instance within.is_first within.first within.second within.order attributes

      single : (b : Bool) (xs : List Culprit) → Sorted b xs → AllPairs (λ x y. x ≢ y) xs
      single b xs all = all-pairs (λ x y. x ≢ y) xs (pairs-next (Comes b) (λ x y. x ≢ y) (λ x y comes. not-same x y (precede-by b x y comes)) xs all.order)

      pub culprits-once : All (InEachList (AllPairs (λ x y. x ≢ y))) (report schema population).checks
      culprits-once =
          each-check (InEachList (AllPairs (λ x y. x ≢ y)))
          (λ check. in-each (Sorted (is_of_values check.constraint)) (AllPairs (λ x y. x ≢ y)) (single (is_of_values check.constraint)) check)
