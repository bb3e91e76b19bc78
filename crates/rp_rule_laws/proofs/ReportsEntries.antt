-- The entries of a report: one for each rule that the orders of the schema name.
use Rattle.std.proofs.Common.{◌≡◌, ℕ, zero, suc, ◌+◌, ◌<◌, ◌≤◌, ◌==◌, ◌&&◌, Bool, true, false, nat_lt, if◌then◌else◌, List, [], ◌∷◌, ◌++◌, map, length, Option, Some, None, slice_get, refl, sym, ap, ◌∙◌, arith}
use Rattle.std.proofs.lemmas.Bool.{eq-eqb, eqb-true}
use Rattle.std.proofs.lemmas.Bool.Decides.{nat_tests}
use Rattle.std.proofs.lemmas.List.{append-nil, append_assoc, length-append, map-append}
use Rattle.std.proofs.lemmas.List.FromFn.{length-map-range_with_len}
use Rattle.std.proofs.lemmas.List.Sorted.{sum_by-IsPermutation}
use Rattle.std.proofs.lemmas.List.Sums.{sum_by-append, sum_by-cons}
use Rattle.std.proofs.lemmas.Option.{slice_get_past}
use Rattle.std.specs.List.{count_by, flat_map, range_with_len, sum_by}
use Rattle.std.specs.Option.{option_map_or}
use Rattle.ex_named.specs.declared.reference.AttributePlace.{AttributePlace}
use Rattle.rp_meaning.specs.declared.report.Check.{Check}
use Rattle.rp_meaning.specs.declared.report.Constraint.{Constraint}
use Rattle.rp_meaning.specs.declared.report.Constraint.TheVariants as c
use Rattle.rp_meaning.specs.declared.schema.DefinedType.{DefinedType}
use Rattle.rp_meaning.specs.declared.schema.Entity.{Entity}
use Rattle.rp_meaning.specs.declared.schema.GlobalRule.{GlobalRule}
use Rattle.rp_meaning.specs.declared.schema.Schema.{Schema}
use Rattle.rp_meaning.specs.Populations.{Instance}
use Rattle.rp_meaning.specs.Report.{all_evaluated, inverse_check, inverse_checks, places, report, rule_check, rule_checks, type_check, type_checks, unique_checks, unique_checks_from, where_check, where_checks}
use Rattle.rp_meaning.specs.Sequence.{Checking, in_sequence_after}
use Rattle.rp_rule_laws.specs.Reports.{AreAllBelow, HasOrders, constraints, count_of_rules, is_entry, same_constraint}

-- ---- what checks are of

abbrev IsOf : Checking → Constraint → Type 0
IsOf x c = (used : ℕ) → (x used).0.constraint ≡ c

abbrev AreOf : List Checking → List Constraint → Type 0
AreOf [] [] = Unit {0}
AreOf (x ∷ xs) (c ∷ cs) = IsOf x c × AreOf xs cs
AreOf _ _ = ⊥

abbrev of_checks : List Check → List Constraint
of_checks = map (λ check. check.constraint)

sequence-of : (found : List Check) (xs : List Checking) (cs : List Constraint) → AreOf xs cs → (used : ℕ) → of_checks (in_sequence_after found xs used).0 ≡ of_checks found ++ cs
sequence-of found [] [] all used = sym (append-nil (of_checks found))
sequence-of found [] (c ∷ cs) all used = absurd all
sequence-of found (x ∷ xs) [] all used = absurd all
sequence-of found (x ∷ xs) (c ∷ cs) all used =
    sequence-of (found ++ (x used).0 ∷ []) xs cs all.1 (x used).1
    ∙ ap (λ (l : List Constraint). l ++ cs) (map-append (λ (check : Check). check.constraint) found ((x used).0 ∷ []))
    ∙ append_assoc (of_checks found) ((x used).0.constraint ∷ []) cs
    ∙ ap (λ (d : Constraint). of_checks found ++ d ∷ cs) (all.0 used)

of-append : (xs ys : List Checking) (cs ds : List Constraint) → AreOf xs cs → AreOf ys ds → AreOf (xs ++ ys) (cs ++ ds)
of-append [] ys [] ds all others = others
of-append [] ys (c ∷ cs) ds all others = absurd all
of-append (x ∷ xs) ys [] ds all others = absurd all
of-append (x ∷ xs) ys (c ∷ cs) ds all others = (all.0, of-append xs ys cs ds all.1 others)

of-map : (f : ℕ → Checking) (g : ℕ → Constraint) → ((n : ℕ) → IsOf (f n) (g n)) → (ns : List ℕ) → AreOf (map f ns) (map g ns)
of-map f g each [] = tt
of-map f g each (n ∷ ns) = (each n, of-map f g each ns)

of-flat : (f : ℕ → List Checking) (g : ℕ → List Constraint) → ((n : ℕ) → AreOf (f n) (g n)) → (ns : List ℕ) → AreOf (flat_map f ns) (flat_map g ns)
of-flat f g each [] = tt
of-flat f g each (n ∷ ns) = of-append (f n) (flat_map f ns) (g n) (flat_map g ns) (each n) (of-flat f g each ns)

-- ---- the constraints of rules

-- those of so many rules
abbrev of_rules : (ℕ → ℕ → Constraint) → (ℕ → ℕ) → ℕ → List Constraint
of_rules made count n = map (made n) (places (count n))

abbrev in_order : (ℕ → ℕ → Constraint) → (ℕ → ℕ) → List ℕ → List Constraint
in_order made count = flat_map (of_rules made count)

of-option : {A : Type 0} (f : ℕ → Checking) (g : ℕ → Constraint) → ((place : ℕ) → IsOf (f place) (g place)) → (count : A → ℕ) (o : Option A)
    → AreOf (option_map_or (λ x. map f (places (count x))) o []) (map g (places (option_map_or count o 0)))
of-option f g each count None = tt
of-option f g each count (Some x) = of-map f g each (places (count x))

module _ (schema : Schema) where
  abbrev at_type : ℕ → ℕ
  at_type n = option_map_or (λ (x : DefinedType). length x.domain_rules) (slice_get schema.types n) 0

  abbrev at_entity : (Entity → ℕ) → ℕ → ℕ
  at_entity count n = option_map_or count (slice_get schema.entities n) 0

  abbrev where_rules : Entity → ℕ
  where_rules x = length x.domain_rules

  abbrev unique_rules : Entity → ℕ
  unique_rules x = length x.unique_rules

  abbrev inverse_rules : Entity → ℕ
  inverse_rules x = length x.inverse

  abbrev at_rule : ℕ → ℕ
  at_rule n = option_map_or (λ (x : GlobalRule). length x.domain_rules) (slice_get schema.rules n) 0

  abbrev of_all_rules : List Constraint
  of_all_rules = in_order c.Type at_type schema.type_order
      ++ in_order c.Where (at_entity where_rules) schema.entity_order
      ++ in_order c.Unique (at_entity unique_rules) schema.entity_order
      ++ in_order c.Inverse (at_entity inverse_rules) schema.entity_order
      ++ in_order c.Rule at_rule schema.rule_order

  abbrev entries : List Constraint
  entries = c.Unset ∷ c.Bounds ∷ c.Reference ∷ of_all_rules

  module _ (population : List Instance) where
    unique-from : (entity place : ℕ) (rules : List (List AttributePlace)) → AreOf (unique_checks_from schema population entity place rules) (map (c.Unique entity) (range_with_len place (length rules)))
    unique-from entity place [] = tt
    unique-from entity place (rule ∷ rules) = ((λ used. refl), unique-from entity (place + 1) rules)

    unique-of : (n : ℕ) (o : Option Entity) → AreOf (option_map_or (λ x. unique_checks_from schema population n 0 x.unique_rules) o []) (map (c.Unique n) (places (option_map_or unique_rules o 0)))
    unique-of n None = tt
    unique-of n (Some x) = unique-from n 0 x.unique_rules

    all-of : AreOf (all_evaluated schema population) of_all_rules
    all-of =
        let types = of-flat (type_checks schema population) (of_rules c.Type at_type)
        (λ n. of-option (type_check schema population n) (c.Type n) (λ place used. refl) (λ (x : DefinedType). length x.domain_rules) (slice_get schema.types n)) schema.type_order in
        let wheres = of-flat (where_checks schema population) (of_rules c.Where (at_entity where_rules))
        (λ n. of-option (where_check schema population n) (c.Where n) (λ place used. refl) where_rules (slice_get schema.entities n)) schema.entity_order in
        let uniques = of-flat (unique_checks schema population) (of_rules c.Unique (at_entity unique_rules)) (λ n. unique-of n (slice_get schema.entities n)) schema.entity_order in
        let inverses = of-flat (inverse_checks schema population) (of_rules c.Inverse (at_entity inverse_rules))
        (λ n. of-option (inverse_check schema population n) (c.Inverse n) (λ place used. refl) inverse_rules (slice_get schema.entities n)) schema.entity_order in
        let rules = of-flat (rule_checks schema population) (of_rules c.Rule at_rule)
        (λ n. of-option (rule_check schema population n) (c.Rule n) (λ place used. refl) (λ (x : GlobalRule). length x.domain_rules) (slice_get schema.rules n)) schema.rule_order in
        of-append _ _ _ _ (of-append _ _ _ _ (of-append _ _ _ _ (of-append _ _ _ _ types wheres) uniques) inverses) rules

    pub entries-of : constraints (report schema population) ≡ entries
    unfolding report
    entries-of = ap (λ (cs : List Constraint). c.Unset ∷ c.Bounds ∷ c.Reference ∷ cs) (sequence-of [] (all_evaluated schema population) of_all_rules all-of 0)

pub same-entries : (schema : Schema) (population others : List Instance) → constraints (report schema population) ≡ constraints (report schema others)
same-entries schema population others = entries-of schema population ∙ sym (entries-of schema others)

-- ---- sums over an order

differs : (m n : ℕ) → (m == n) ≡ true → m ≡ n
differs m n e = eqb-true m n e

-- one number alone counts
module _ (f : ℕ → ℕ) (number : ℕ) (alone : (n : ℕ) → (number == n) ≡ false → f n ≡ 0) where
  none-before : (a m : ℕ) → number < a → sum_by f (range_with_len a m) ≡ 0
  none-before a zero h = refl
  none-before a (suc m) h =
      let first = alone a (grind (arith, nat_tests)) in
      let rest = none-before (a + 1) m (omega arith) in
      let all = sum_by-cons f a (range_with_len (a + 1) m) in
      omega arith

  only-by : (a m : ℕ) (b : Bool) → (number == a) ≡ b → a ≤ number → (b ≡ false → sum_by f (range_with_len (a + 1) m) ≡ f number) → sum_by f (a ∷ range_with_len (a + 1) m) ≡ f number
  only-by a m true is low before =
      let same = eqb-true number a is in
      let here : f a ≡ f number = ap f (sym same) in
      let rest = none-before (a + 1) m (omega arith) in
      let all = sum_by-cons f a (range_with_len (a + 1) m) in
      omega arith
  only-by a m false is low before =
      let first = alone a is in
      let rest = before refl in
      let all = sum_by-cons f a (range_with_len (a + 1) m) in
      omega arith

  only-one : (a m : ℕ) → a ≤ number → number < a + m → sum_by f (range_with_len a m) ≡ f number
  only-one a zero low high = absurd (omega arith)
  only-one a (suc m) low high = only-by a m (number == a) refl low (λ is. only-one (a + 1) m (grind (arith, nat_tests)) (omega arith))

  none-by : (a m : ℕ) → a + m ≤ number → sum_by f (range_with_len a m) ≡ 0
  none-by a zero past = refl
  none-by a (suc m) past =
      let first = alone a (grind (arith, nat_tests)) in
      let rest = none-by (a + 1) m (omega arith) in
      let all = sum_by-cons f a (range_with_len (a + 1) m) in
      omega arith

-- ---- how many entries are of a constraint

unfoldable pub one : Bool → ℕ
one b = if b then 1 else 0

one-true : one true ≡ 1
unfolding one
one-true = refl

one-false : one false ≡ 0
unfolding one
one-false = refl

pub one-is : (b : Bool) → one b ≡ (if b then 1 else 0)
unfolding one
one-is b = refl

module _ (p : Constraint → Bool) where
  more : (x : Constraint) (xs : List Constraint) → count_by p (x ∷ xs) ≡ one (p x) + count_by p xs
  unfolding one
  more x xs = sum_by-cons (λ y. if p y then 1 else 0) x xs

  both : (xs ys : List Constraint) → count_by p (xs ++ ys) ≡ count_by p xs + count_by p ys
  both xs ys = sum_by-append (λ y. if p y then 1 else 0) xs ys

  counts-flat : (g : ℕ → List Constraint) (ns : List ℕ) → count_by p (flat_map g ns) ≡ sum_by (λ n. count_by p (g n)) ns
  counts-flat g [] = refl
  counts-flat g (n ∷ ns) =
      let rest = counts-flat g ns in
      let all = both (g n) (flat_map g ns) in
      let sum = sum_by-cons (λ m. count_by p (g m)) n ns in
      omega arith

  counts-map : (g : ℕ → Constraint) (ns : List ℕ) → count_by p (map g ns) ≡ sum_by (λ n. one (p (g n))) ns
  counts-map g [] = refl
  counts-map g (n ∷ ns) =
      let rest = counts-map g ns in
      let all = more (g n) (map g ns) in
      let sum = sum_by-cons (λ m. one (p (g m))) n ns in
      omega arith

  -- ---- of which it is none

  never-map : (g : ℕ → Constraint) → ((place : ℕ) → p (g place) ≡ false) → (ns : List ℕ) → count_by p (map g ns) ≡ 0
  never-map g none [] = refl
  never-map g none (n ∷ ns) =
      let first = ap one (none n) ∙ one-false in
      let rest = never-map g none ns in
      let all = more (g n) (map g ns) in
      omega arith

  never : (made : ℕ → ℕ → Constraint) → ((n place : ℕ) → p (made n place) ≡ false) → (count : ℕ → ℕ) (ns : List ℕ) → count_by p (in_order made count ns) ≡ 0
  never made none count [] = refl
  never made none count (n ∷ ns) =
      let first = never-map (made n) (none n) (places (count n)) in
      let rest = never made none count ns in
      let all = both (of_rules made count n) (in_order made count ns) in
      omega arith

  -- ---- of which it may be one

  module _ (made : ℕ → ℕ → Constraint) (number place : ℕ) (hit : (at : ℕ) → p (made number at) ≡ (place == at)) (miss : (n at : ℕ) → (number == n) ≡ false → p (made n at) ≡ false) where
    hits : (m : ℕ) (b : Bool) → nat_lt place m ≡ b → count_by p (map (made number) (places m)) ≡ one b
    hits m true is =
        let low : place < m = grind (arith, nat_tests) in
        counts-map (made number) (places m)
        ∙ only-one (λ at. one (p (made number at))) place (λ at other. ap one (hit at ∙ other) ∙ one-false) 0 m (omega arith) (omega arith)
        ∙ ap one (hit place ∙ eq-eqb place place refl)
    hits m false is =
        let high : m ≤ place = grind (arith, nat_tests) in
        counts-map (made number) (places m)
        ∙ none-by (λ at. one (p (made number at))) place (λ at other. ap one (hit at ∙ other) ∙ one-false) 0 m (omega arith)
        ∙ sym one-false

    among-by : (count : ℕ → ℕ) (all : ℕ) (b : Bool) → nat_lt number all ≡ b → (all ≤ number → count number ≡ 0)
        → sum_by (λ n. count_by p (of_rules made count n)) (range_with_len 0 all) ≡ one (nat_lt place (count number))
    among-by count all true is past =
        let low : number < all = grind (arith, nat_tests) in
        only-one (λ n. count_by p (of_rules made count n)) number (λ n other. never-map (made n) (λ at. miss n at other) (places (count n))) 0 all (omega arith) (omega arith)
        ∙ hits (count number) (nat_lt place (count number)) refl
    among-by count all false is past =
        let high : all ≤ number = grind (arith, nat_tests) in
        let none : nat_lt place (count number) ≡ false = ap (nat_lt place) (past high) ∙ grind (arith, nat_tests) in
        none-by (λ n. count_by p (of_rules made count n)) number (λ n other. never-map (made n) (λ at. miss n at other) (places (count n))) 0 all (omega arith)
        ∙ sym (ap one none ∙ one-false)

    among : (count : ℕ → ℕ) (all : ℕ) (ns : List ℕ) → AreAllBelow all ns → (all ≤ number → count number ≡ 0) → count_by p (in_order made count ns) ≡ one (nat_lt place (count number))
    among count all ns order past =
        counts-flat (of_rules made count) ns
        ∙ sum_by-IsPermutation (λ n. count_by p (of_rules made count n)) (range_with_len 0 all) ns order
        ∙ among-by count all (nat_lt number all) refl past

-- ---- each constraint

entry-by : {A : Type 0} (place : ℕ) (count : A → ℕ) (o : Option A) → option_map_or (λ x. nat_lt place (count x)) o false ≡ nat_lt place (option_map_or count o 0)
entry-by place count None = grind (arith, nat_tests)
entry-by place count (Some x) = refl

none-past : {A : Type 0} (count : A → ℕ) (xs : List A) (n : ℕ) → length xs ≤ n → option_map_or count (slice_get xs n) 0 ≡ 0
none-past count xs n past = ap (λ o. option_map_or count o 0) (slice_get_past xs n past)

same-place : (number place at : ℕ) → ((number == number) && (place == at)) ≡ (place == at)
same-place number place at = ap (λ b. b && (place == at)) (eq-eqb number number refl)

other-number : (number n place at : ℕ) → (number == n) ≡ false → ((number == n) && (place == at)) ≡ false
other-number number n place at other = ap (λ b. b && (place == at)) other

module _ (schema : Schema) (orders : HasOrders schema) where
  module _ (p : Constraint → Bool) where
    abbrev types : ℕ
    types = count_by p (in_order c.Type (at_type schema) schema.type_order)

    abbrev wheres : ℕ
    wheres = count_by p (in_order c.Where (at_entity schema (where_rules schema)) schema.entity_order)

    abbrev uniques : ℕ
    uniques = count_by p (in_order c.Unique (at_entity schema (unique_rules schema)) schema.entity_order)

    abbrev inverses : ℕ
    inverses = count_by p (in_order c.Inverse (at_entity schema (inverse_rules schema)) schema.entity_order)

    abbrev rules : ℕ
    rules = count_by p (in_order c.Rule (at_rule schema) schema.rule_order)

    abbrev of_wheres : List Constraint
    of_wheres = in_order c.Type (at_type schema) schema.type_order ++ in_order c.Where (at_entity schema (where_rules schema)) schema.entity_order

    abbrev of_uniques : List Constraint
    of_uniques = of_wheres ++ in_order c.Unique (at_entity schema (unique_rules schema)) schema.entity_order

    abbrev of_inverses : List Constraint
    of_inverses = of_uniques ++ in_order c.Inverse (at_entity schema (inverse_rules schema)) schema.entity_order

    parts : count_by p (entries schema) ≡ one (p c.Unset) + one (p c.Bounds) + one (p c.Reference) + types + wheres + uniques + inverses + rules
    parts =
        let first = more p c.Unset (c.Bounds ∷ c.Reference ∷ of_all_rules schema) in
        let second = more p c.Bounds (c.Reference ∷ of_all_rules schema) in
        let third = more p c.Reference (of_all_rules schema) in
        let all = both p of_inverses (in_order c.Rule (at_rule schema) schema.rule_order) in
        let to_inverses = both p of_uniques (in_order c.Inverse (at_entity schema (inverse_rules schema)) schema.entity_order) in
        let to_uniques = both p of_wheres (in_order c.Unique (at_entity schema (unique_rules schema)) schema.entity_order) in
        let to_wheres = both p (in_order c.Type (at_type schema) schema.type_order) (in_order c.Where (at_entity schema (where_rules schema)) schema.entity_order) in
        omega arith

  module _ (p : Constraint → Bool) where
    -- of the rules of one sort alone
    no-types : ((n at : ℕ) → p (c.Type n at) ≡ false) → types p ≡ 0
    no-types none = never p c.Type none (at_type schema) schema.type_order

    no-wheres : ((n at : ℕ) → p (c.Where n at) ≡ false) → wheres p ≡ 0
    no-wheres none = never p c.Where none (at_entity schema (where_rules schema)) schema.entity_order

    no-uniques : ((n at : ℕ) → p (c.Unique n at) ≡ false) → uniques p ≡ 0
    no-uniques none = never p c.Unique none (at_entity schema (unique_rules schema)) schema.entity_order

    no-inverses : ((n at : ℕ) → p (c.Inverse n at) ≡ false) → inverses p ≡ 0
    no-inverses none = never p c.Inverse none (at_entity schema (inverse_rules schema)) schema.entity_order

    no-rules : ((n at : ℕ) → p (c.Rule n at) ≡ false) → rules p ≡ 0
    no-rules none = never p c.Rule none (at_rule schema) schema.rule_order

    total : (t w u i r : ℕ) → types p ≡ t → wheres p ≡ w → uniques p ≡ u → inverses p ≡ i → rules p ≡ r
        → count_by p (entries schema) ≡ one (p c.Unset) + one (p c.Bounds) + one (p c.Reference) + t + w + u + i + r
    total t w u i r a b d e f = let all = parts p in omega arith

  pub each-by : (x : Constraint) → count_by (same_constraint x) (entries schema) ≡ one (is_entry schema x)
  each-by c.Unset =
      let p = same_constraint c.Unset in
      let all = total p 0 0 0 0 0 (no-types p (λ n at. refl)) (no-wheres p (λ n at. refl)) (no-uniques p (λ n at. refl)) (no-inverses p (λ n at. refl)) (no-rules p (λ n at. refl)) in
      let no = one-false in
      omega arith
  each-by c.Bounds =
      let p = same_constraint c.Bounds in
      let all = total p 0 0 0 0 0 (no-types p (λ n at. refl)) (no-wheres p (λ n at. refl)) (no-uniques p (λ n at. refl)) (no-inverses p (λ n at. refl)) (no-rules p (λ n at. refl)) in
      let no = one-false in
      omega arith
  each-by c.Reference =
      let p = same_constraint c.Reference in
      let all = total p 0 0 0 0 0 (no-types p (λ n at. refl)) (no-wheres p (λ n at. refl)) (no-uniques p (λ n at. refl)) (no-inverses p (λ n at. refl)) (no-rules p (λ n at. refl)) in
      let no = one-false in
      omega arith
  each-by (c.Type number place) =
      let p = same_constraint (c.Type number place) in
      let of_types = among p c.Type number place (same-place number place) (λ n at. other-number number n place at) (at_type schema) (length schema.types) schema.type_order orders.types
      (none-past (λ (x : DefinedType). length x.domain_rules) schema.types number) in
      let all = total p _ 0 0 0 0 of_types (no-wheres p (λ n at. refl)) (no-uniques p (λ n at. refl)) (no-inverses p (λ n at. refl)) (no-rules p (λ n at. refl)) in
      let entry = ap one (entry-by place (λ (x : DefinedType). length x.domain_rules) (slice_get schema.types number)) in
      let no = one-false in
      omega arith
  each-by (c.Where number place) =
      let p = same_constraint (c.Where number place) in
      let of_entities = among p c.Where number place (same-place number place) (λ n at. other-number number n place at) (at_entity schema (where_rules schema)) (length schema.entities) schema.entity_order
      orders.entities (none-past (where_rules schema) schema.entities number) in
      let all = total p 0 _ 0 0 0 (no-types p (λ n at. refl)) of_entities (no-uniques p (λ n at. refl)) (no-inverses p (λ n at. refl)) (no-rules p (λ n at. refl)) in
      let entry = ap one (entry-by place (where_rules schema) (slice_get schema.entities number)) in
      let no = one-false in
      omega arith
  each-by (c.Unique number place) =
      let p = same_constraint (c.Unique number place) in
      let of_entities = among p c.Unique number place (same-place number place) (λ n at. other-number number n place at) (at_entity schema (unique_rules schema)) (length schema.entities) schema.entity_order
      orders.entities (none-past (unique_rules schema) schema.entities number) in
      let all = total p 0 0 _ 0 0 (no-types p (λ n at. refl)) (no-wheres p (λ n at. refl)) of_entities (no-inverses p (λ n at. refl)) (no-rules p (λ n at. refl)) in
      let entry = ap one (entry-by place (unique_rules schema) (slice_get schema.entities number)) in
      let no = one-false in
      omega arith
  each-by (c.Inverse number place) =
      let p = same_constraint (c.Inverse number place) in
      let of_entities = among p c.Inverse number place (same-place number place) (λ n at. other-number number n place at) (at_entity schema (inverse_rules schema)) (length schema.entities)
      schema.entity_order orders.entities (none-past (inverse_rules schema) schema.entities number) in
      let all = total p 0 0 0 _ 0 (no-types p (λ n at. refl)) (no-wheres p (λ n at. refl)) (no-uniques p (λ n at. refl)) of_entities (no-rules p (λ n at. refl)) in
      let entry = ap one (entry-by place (inverse_rules schema) (slice_get schema.entities number)) in
      let no = one-false in
      omega arith
  each-by (c.Rule number place) =
      let p = same_constraint (c.Rule number place) in
      let of_global = among p c.Rule number place (same-place number place) (λ n at. other-number number n place at) (at_rule schema) (length schema.rules) schema.rule_order orders.rules
      (none-past (λ (x : GlobalRule). length x.domain_rules) schema.rules number) in
      let all = total p 0 0 0 0 _ (no-types p (λ n at. refl)) (no-wheres p (λ n at. refl)) (no-uniques p (λ n at. refl)) (no-inverses p (λ n at. refl)) of_global in
      let entry = ap one (entry-by place (λ (x : GlobalRule). length x.domain_rules) (slice_get schema.rules number)) in
      let no = one-false in
      omega arith

-- ---- how many entries there are

length-map : {A B : Type 0} (f : A → B) (xs : List A) → length (map f xs) ≡ length xs
length-map f [] = refl
length-map f (x ∷ xs) = ap suc (length-map f xs)

length-order : (made : ℕ → ℕ → Constraint) (count : ℕ → ℕ) (ns : List ℕ) → length (in_order made count ns) ≡ sum_by count ns
length-order made count [] = refl
length-order made count (n ∷ ns) =
    let first = length-map-range_with_len (made n) 0 (count n) in
    let rest = length-order made count ns in
    let all = length-append (of_rules made count n) (in_order made count ns) in
    let sum = sum_by-cons count n ns in
    omega arith

module _ {A : Type 0} (count : A → ℕ) where
  -- of the elements from a place on
  sum-from : (g : ℕ → ℕ) (a : ℕ) (xs : List A) → ((k : ℕ) → g (a + k) ≡ option_map_or count (slice_get xs k) 0) → sum_by g (range_with_len a (length xs)) ≡ sum_by count xs
  sum-from g a [] same = refl
  sum-from g a (x ∷ xs) same =
      let here : g a ≡ count x = ap g (omega arith) ∙ same 0 in
      let behind : (k : ℕ) → g (a + 1 + k) ≡ option_map_or count (slice_get xs k) 0 = λ k. ap g (omega arith) ∙ same (suc k) in
      let rest = sum-from g (a + 1) xs behind in
      let all = sum_by-cons g a (range_with_len (a + 1) (length xs)) in
      let sum = sum_by-cons count x xs in
      omega arith

  sum-order : (xs : List A) (ns : List ℕ) → AreAllBelow (length xs) ns → sum_by (λ n. option_map_or count (slice_get xs n) 0) ns ≡ sum_by count xs
  sum-order xs ns order =
      sum_by-IsPermutation (λ n. option_map_or count (slice_get xs n) 0) (range_with_len 0 (length xs)) ns order
      ∙ sum-from (λ n. option_map_or count (slice_get xs n) 0) 0 xs (λ k. ap (λ n. option_map_or count (slice_get xs n) 0) (omega arith))

sum-three : {A : Type 0} (f g h : A → ℕ) (xs : List A) → sum_by (λ x. f x + g x + h x) xs ≡ sum_by f xs + sum_by g xs + sum_by h xs
sum-three f g h [] = refl
sum-three f g h (x ∷ xs) =
    let rest = sum-three f g h xs in
    let all = sum_by-cons (λ x. f x + g x + h x) x xs in
    let first = sum_by-cons f x xs in
    let second = sum_by-cons g x xs in
    let third = sum_by-cons h x xs in
    omega arith

module _ (schema : Schema) (population : List Instance) (orders : HasOrders schema) where
  abbrev to_wheres : List Constraint
  to_wheres = in_order c.Type (at_type schema) schema.type_order ++ in_order c.Where (at_entity schema (where_rules schema)) schema.entity_order

  abbrev to_uniques : List Constraint
  to_uniques = to_wheres ++ in_order c.Unique (at_entity schema (unique_rules schema)) schema.entity_order

  abbrev to_inverses : List Constraint
  to_inverses = to_uniques ++ in_order c.Inverse (at_entity schema (inverse_rules schema)) schema.entity_order

  count-rules : length (of_all_rules schema) ≡ count_of_rules schema
  count-rules =
      let a = length-append to_inverses (in_order c.Rule (at_rule schema) schema.rule_order) in
      let b = length-append to_uniques (in_order c.Inverse (at_entity schema (inverse_rules schema)) schema.entity_order) in
      let d = length-append to_wheres (in_order c.Unique (at_entity schema (unique_rules schema)) schema.entity_order) in
      let e = length-append (in_order c.Type (at_type schema) schema.type_order) (in_order c.Where (at_entity schema (where_rules schema)) schema.entity_order) in
      let types = length-order c.Type (at_type schema) schema.type_order ∙ sum-order (λ (x : DefinedType). length x.domain_rules) schema.types schema.type_order orders.types in
      let wheres = length-order c.Where (at_entity schema (where_rules schema)) schema.entity_order ∙ sum-order (where_rules schema) schema.entities schema.entity_order orders.entities in
      let uniques = length-order c.Unique (at_entity schema (unique_rules schema)) schema.entity_order ∙ sum-order (unique_rules schema) schema.entities schema.entity_order orders.entities in
      let inverses = length-order c.Inverse (at_entity schema (inverse_rules schema)) schema.entity_order ∙ sum-order (inverse_rules schema) schema.entities schema.entity_order orders.entities in
      let rules = length-order c.Rule (at_rule schema) schema.rule_order ∙ sum-order (λ (x : GlobalRule). length x.domain_rules) schema.rules schema.rule_order orders.rules in
      let entities = sum-three (where_rules schema) (unique_rules schema) (inverse_rules schema) schema.entities in
      omega arith

  pub count-of : length (report schema population).checks ≡ 3 + count_of_rules schema
  count-of =
      let all = sym (length-map (λ (check : Check). check.constraint) (report schema population).checks) ∙ ap length (entries-of schema population) in
      let rules = count-rules in
      omega arith
