-- Checks one after the other, by what they are of.
use Rattle.std.proofs.Common.{◌≡◌, ℕ, suc, ◌+◌, ◌-◌, ◌<◌, ◌≤◌, Option, Some, None, List, [], ◌∷◌, ◌++◌, map, length, drop, get_or, refl, sym, ap, ◌∙◌, arith, slice_get, append-nil, append_assoc}
use Rattle.std.specs.List.{flat_map, range_with_len}
use Rattle.std.specs.Option.{option_and_then, option_map_or, unwrap_or}
use Rattle.ex_named.specs.declared.reference.AttributePlace.{AttributePlace}
use Rattle.rp_meaning.specs.declared.report.Check.{Check}
use Rattle.rp_meaning.specs.declared.schema.DefinedType.{DefinedType}
use Rattle.rp_meaning.specs.declared.schema.Entity.{Entity}
use Rattle.rp_meaning.specs.declared.schema.GlobalRule.{GlobalRule}
use Rattle.rp_meaning.specs.declared.schema.Schema.{Schema}
use Rattle.rp_meaning.specs.Attributes.{entity_at}
use Rattle.rp_meaning.specs.Populations.{Instance}
use Rattle.rp_meaning.specs.Report.{all_evaluated, attribute_checks, inverse_check, inverse_checks, places, report, rule_check, rule_checks, type_check, type_checks, unique_check, unique_checks, unique_checks_from, where_check, where_checks}
use Rattle.rp_meaning.specs.Sequence.{Checking, in_sequence_after}
use Rattle.rp_rules.specs.declared.order.Sort.{Sort}
use Rattle.rp_rules.specs.declared.order.Sort.TheVariants as s
use Rattle.rp_rules.specs.Order.{check_at, checks_at, checks_of}
use Rattle.rp_rules.proofs.Steps.{drop-read, numbers-end, numbers-step}

-- ---- sequences

pub sequence-append : (found : List Check) (xs ys : List Checking) (used : ℕ)
    → in_sequence_after found (xs ++ ys) used ≡ in_sequence_after (in_sequence_after found xs used).0 ys (in_sequence_after found xs used).1
sequence-append found [] ys used = refl
sequence-append found (x ∷ xs) ys used = sequence-append (found ++ (x used).0 ∷ []) xs ys (x used).1

-- what stands before it stays before it
pub sequence-behind : (before found : List Check) (xs : List Checking) (used : ℕ)
    → in_sequence_after (before ++ found) xs used ≡ (before ++ (in_sequence_after found xs used).0, (in_sequence_after found xs used).1)
sequence-behind before found [] used = refl
sequence-behind before found (x ∷ xs) used =
    ap (λ (cs : List Check). in_sequence_after cs xs (x used).1) (append_assoc before found ((x used).0 ∷ []))
    ∙ sequence-behind before (found ++ (x used).0 ∷ []) xs (x used).1

-- ---- what rules are of

by-option : {A : Type 0} (f : ℕ → Checking) (count : A → ℕ) (o : Option A)
    → map f (places (option_map_or count o 0)) ≡ option_map_or (λ x. map f (places (count x))) o []
by-option f count None = refl
by-option f count (Some x) = refl

module _ (schema : Schema) (population : List Instance) where
  type-checks : (number : ℕ) → checks_at schema population s.Type number ≡ type_checks schema population number
  type-checks number = by-option (type_check schema population number) (λ (x : DefinedType). length x.domain_rules) (slice_get schema.types number)

  where-checks : (number : ℕ) → checks_at schema population s.Where number ≡ where_checks schema population number
  where-checks number = by-option (where_check schema population number) (λ (x : Entity). length x.domain_rules) (entity_at schema number)

  inverse-checks : (number : ℕ) → checks_at schema population s.Inverse number ≡ inverse_checks schema population number
  inverse-checks number = by-option (inverse_check schema population number) (λ (x : Entity). length x.inverse) (entity_at schema number)

  rule-checks : (number : ℕ) → checks_at schema population s.Global number ≡ rule_checks schema population number
  rule-checks number = by-option (rule_check schema population number) (λ (x : GlobalRule). length x.domain_rules) (slice_get schema.rules number)

  unique-from : (entity place : ℕ) (rules : List (List AttributePlace)) (listed : ℕ → List AttributePlace) → ((k : ℕ) → listed (place + k) ≡ unwrap_or (slice_get rules k) [])
      → map (λ at. unique_check schema population entity at (listed at)) (range_with_len place (length rules)) ≡ unique_checks_from schema population entity place rules
  unique-from entity place [] listed same = refl
  unique-from entity place (rule ∷ rules) listed same =
      let here : listed place ≡ rule = ap listed (omega arith) ∙ same 0 in
      let behind : (k : ℕ) → listed (place + 1 + k) ≡ unwrap_or (slice_get rules k) [] = λ k. ap listed (omega arith) ∙ same (suc k) in
      ap (λ (a : List AttributePlace). unique_check schema population entity place a ∷ map (λ at. unique_check schema population entity at (listed at)) (range_with_len (place + 1) (length rules))) here
      ∙ ap (λ (cs : List Checking). unique_check schema population entity place rule ∷ cs) (unique-from entity (place + 1) rules listed behind)

  unique-by : (entity : ℕ) (o : Option Entity)
      → map (λ at. unique_check schema population entity at (unwrap_or (option_and_then (λ x. slice_get x.unique_rules at) o) [])) (places (option_map_or (λ x. length x.unique_rules) o 0))
      ≡ option_map_or (λ x. unique_checks_from schema population entity 0 x.unique_rules) o []
  unique-by entity None = refl
  unique-by entity (Some x) = unique-from entity 0 x.unique_rules (λ at. unwrap_or (slice_get x.unique_rules at) []) (λ k. ap (λ (n : ℕ). unwrap_or (slice_get x.unique_rules n) []) (omega arith))

  unique-checks : (number : ℕ) → checks_at schema population s.Unique number ≡ unique_checks schema population number
  unique-checks number = unique-by number (entity_at schema number)

  all-of : (sort : Sort) (checks : ℕ → List Checking) → ((number : ℕ) → checks_at schema population sort number ≡ checks number) → (numbers : List ℕ)
      → checks_of schema population sort numbers ≡ flat_map checks numbers
  all-of sort checks same [] = refl
  all-of sort checks same (n ∷ numbers) = λ i. same n i ++ all-of sort checks same numbers i

  abbrev sorted : List Checking
  sorted = checks_of schema population s.Type schema.type_order ++ checks_of schema population s.Where schema.entity_order ++ checks_of schema population s.Unique schema.entity_order
      ++ checks_of schema population s.Inverse schema.entity_order ++ checks_of schema population s.Global schema.rule_order

  sorted-all : sorted ≡ all_evaluated schema population
  sorted-all = λ i. all-of s.Type (type_checks schema population) type-checks schema.type_order i
      ++ all-of s.Where (where_checks schema population) where-checks schema.entity_order i
      ++ all-of s.Unique (unique_checks schema population) unique-checks schema.entity_order i
      ++ all-of s.Inverse (inverse_checks schema population) inverse-checks schema.entity_order i
      ++ all-of s.Global (rule_checks schema population) rule-checks schema.rule_order i

  -- ---- rule by rule

  module _ (sort : Sort) (found : List Check) (used : ℕ) where
    pub at-step : (number place count : ℕ) → place < count
        → in_sequence_after found (map (check_at schema population sort number) (range_with_len place (count - place))) used
        ≡ in_sequence_after (found ++ (check_at schema population sort number place used).0 ∷ []) (map (check_at schema population sort number) (range_with_len (place + 1) (count - (place + 1)))) (check_at schema population sort number place used).1
    at-step number place count h = ap (λ (ns : List ℕ). in_sequence_after found (map (check_at schema population sort number) ns) used) (numbers-step place count h)

    pub at-end : (number place count : ℕ) → count ≤ place → in_sequence_after found (map (check_at schema population sort number) (range_with_len place (count - place))) used ≡ (found, used)
    at-end number place count h = ap (λ (ns : List ℕ). in_sequence_after found (map (check_at schema population sort number) ns) used) (numbers-end place count h)

    pub of-step : (numbers : List ℕ) (i number : ℕ) → i < length numbers → number ≡ get_or numbers i number
        → in_sequence_after found (checks_of schema population sort (drop i numbers)) used
        ≡ in_sequence_after (in_sequence_after found (checks_at schema population sort number) used).0 (checks_of schema population sort (drop (i + 1) numbers)) (in_sequence_after found (checks_at schema population sort number) used).1
    of-step numbers i number h is =
        ap (λ (ns : List ℕ). in_sequence_after found (checks_of schema population sort ns) used) (drop-read numbers i number h is)
        ∙ sequence-append found (checks_at schema population sort number) (checks_of schema population sort (drop (i + 1) numbers)) used

  -- ---- all

  -- some, and others behind them
  abbrev pub Came : List Check → ℕ → List Checking → List Check → ℕ → Type 0
  Came found used checks next later = (next ≡ (in_sequence_after found checks used).0) × (later ≡ (in_sequence_after found checks used).1)

  behind : (found : List Check) (used : ℕ) (xs ys : List Checking) (next : List Check) (later : ℕ) → Came found used xs next later → in_sequence_after found (xs ++ ys) used ≡ in_sequence_after next ys later
  behind found used xs ys next later came = sequence-append found xs ys used ∙ (λ i. in_sequence_after (sym came.0 i) ys (sym came.1 i))

  abbrev of_wheres : List Checking
  of_wheres = checks_of schema population s.Where schema.entity_order

  abbrev of_uniques : List Checking
  of_uniques = checks_of schema population s.Unique schema.entity_order

  abbrev of_inverses : List Checking
  of_inverses = checks_of schema population s.Inverse schema.entity_order

  abbrev of_rules : List Checking
  of_rules = checks_of schema population s.Global schema.rule_order

  abbrev of_types : List Checking
  of_types = checks_of schema population s.Type schema.type_order

  came-append : (found next last : List Check) (used later end : ℕ) (xs ys : List Checking) → Came found used xs next later → Came next later ys last end → Came found used (xs ++ ys) last end
  came-append found next last used later end xs ys came more =
      let all = behind found used xs ys next later came in
      (more.0 ∙ ap (λ (p : List Check × ℕ). p.0) (sym all), more.1 ∙ ap (λ (p : List Check × ℕ). p.1) (sym all))

  pub evaluated : (c0 c1 c2 c3 c4 : List Check) (u0 u1 u2 u3 u4 : ℕ)
      → Came c0 u0 (checks_of schema population s.Type schema.type_order) c1 u1
      → Came c1 u1 (checks_of schema population s.Where schema.entity_order) c2 u2
      → Came c2 u2 (checks_of schema population s.Unique schema.entity_order) c3 u3
      → Came c3 u3 (checks_of schema population s.Inverse schema.entity_order) c4 u4
      → in_sequence_after c4 (checks_of schema population s.Global schema.rule_order) u4 ≡ in_sequence_after c0 (all_evaluated schema population) u0
  evaluated c0 c1 c2 c3 c4 u0 u1 u2 u3 u4 types wheres uniques inverses =
      let two : Came c0 u0 (of_types ++ of_wheres) c2 u2 = came-append c0 c1 c2 u0 u1 u2 of_types of_wheres types wheres in
      let three : Came c0 u0 (of_types ++ of_wheres ++ of_uniques) c3 u3 = came-append c0 c2 c3 u0 u2 u3 (of_types ++ of_wheres) of_uniques two uniques in
      let four : Came c0 u0 (of_types ++ of_wheres ++ of_uniques ++ of_inverses) c4 u4 = came-append c0 c3 c4 u0 u3 u4 (of_types ++ of_wheres ++ of_uniques) of_inverses three inverses in
      sym (behind c0 u0 (of_types ++ of_wheres ++ of_uniques ++ of_inverses) of_rules c4 u4 four) ∙ ap (λ (cs : List Checking). in_sequence_after c0 cs u0) sorted-all

  -- the checks that evaluate nothing stand before the others
  pub reported : (checks : List Check) (used : ℕ)
      → (checks ≡ (in_sequence_after (attribute_checks schema population) (all_evaluated schema population) 0).0) × (used ≡ (in_sequence_after (attribute_checks schema population) (all_evaluated schema population) 0).1)
      → (record { checks = checks; steps = used }) ≡ report schema population
  unfolding report
  reported checks used came =
      let all = sequence-behind (attribute_checks schema population) [] (all_evaluated schema population) 0 in
      let same : in_sequence_after (attribute_checks schema population) (all_evaluated schema population) 0 ≡ in_sequence_after (attribute_checks schema population ++ []) (all_evaluated schema population) 0 =
      ap (λ (cs : List Check). in_sequence_after cs (all_evaluated schema population) 0) (sym (append-nil (attribute_checks schema population))) in
      λ i. record { checks = (came.0 ∙ ap (λ p. p.0) (same ∙ all)) i; steps = (came.1 ∙ ap (λ p. p.1) (same ∙ all)) i }
