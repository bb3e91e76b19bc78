-- Where the declarations of an attribute let nothing be tried, nothing is.
use Rattle.std.proofs.Common.{◌≡◌, ℕ, zero, suc, ◌-◌, ◌+◌, ◌<◌, ◌≤◌, ◌&&◌, ◌||◌, ◌==◌, Bool, true, false, List, [], ◌∷◌, ◌++◌, map, length, nat_lt, replicate, Option, Some, None, is_some, slice_get, slice_set, slice_index_or, refl, sym, ap, ◌∙◌, subst, arith, if◌then◌else◌}
use Rattle.std.proofs.lemmas.Bool.{eqb-true}
use Rattle.std.proofs.lemmas.List.Folds.{list_any-append}
use Rattle.std.specs.List.{filter_map, list_any}
use Rattle.std.specs.Option.{option_and_then, option_map, option_map_or}
use Rattle.ex_named.specs.declared.expression.NamedDataType.{NamedDataType, out-NamedDataType}
use Rattle.ex_named.specs.declared.reference.AttributePlace.{AttributePlace}
use Rattle.ex_named.specs.declared.reference.TypeName.{TypeName}
use Rattle.ex_named.specs.declared.reference.TypeName.TheVariants as t
use Rattle.plain_data.specs.Numbers.{is_among}
use Rattle.rp_meaning.specs.declared.schema.DefinedType.{DefinedType}
use Rattle.rp_meaning.specs.declared.schema.Entity.{Entity}
use Rattle.rp_meaning.specs.declared.schema.ExplicitAttribute.{ExplicitAttribute}
use Rattle.rp_meaning.specs.declared.schema.Redeclaration.{Redeclaration}
use Rattle.rp_meaning.specs.declared.schema.Schema.{Schema}
use Rattle.rp_meaning.specs.Bare.{aggregate_of, carried, is_indeterminate, place_of}
use Rattle.rp_meaning.specs.Faults.{allows_choice, is_type}
use Rattle.rp_meaning.specs.Populations.{Instance}
use Rattle.rp_meaning.specs.TypeRules.{chooses, element_by, element_of, element_type, elements_tried, inside_by, is_choice_of, is_tried, named, selects_to, types_by, values_tried, with_beneath, written_under}
use Rattle.rp_meaning.specs.Types.{AggregateType, End, Enumeration, Select, Written, aggregate_type, defined, end, end_of, fits}
use Rattle.rp_meaning.specs.Uses.{same_attribute, same_sort}
use Rattle.rp_rules.specs.declared.plan.Tryable.{Tryable}
use Rattle.rp_rules.specs.Plan as plan
use Rattle.rp_rules.specs.Tried.{redeclarations_of, values_at}
use Rattle.rp_rules.proofs.Declarations.{again_passes, any-declared, any-none}
use Rattle.rp_rules.proofs.Values.{Items, Part, among-if, inside-of, parted, selects-between, under-none, under-some, values-set, values-unset}
use Rattle.rp_value.specs.declared.value.Value.{Value}
use Rattle.rp_value.specs.declared.value.Value.TheFolds.{ind-Value, map-Value}
use Rattle.rp_value.specs.declared.value.Value.TheOpen.{Value-F}

-- ---- truth

pub or-left : (a b : Bool) → (a || b) ≡ false → a ≡ false
or-left true b h = h
or-left false b h = refl

pub or-right : (a b : Bool) → (a || b) ≡ false → b ≡ false
or-right true b h = absurd (cc)
or-right false b h = h

and-first : (a b : Bool) → (a && b) ≡ true → a ≡ true
and-first true b h = refl
and-first false b h = h

and-unless : (a b : Bool) → (b ≡ true → a ≡ false) → (a && b) ≡ false
and-unless true true h = h refl
and-unless true false h = refl
and-unless false b h = refl

-- ---- by a declared type

module _ (types : List DefinedType) (population : List Instance) (number : ℕ) where
  abbrev may : ℕ → Bool → NamedDataType → Bool
  may = plan.may_stand types number

  abbrev NeverTried : ℕ → Type 0
  NeverTried under = (plan.is_under types number under ≡ false) × (is_some (aggregate_type (end_of types under)) ≡ false)

  no-instance : (o : Option Instance) (other : ℕ) → option_map_or (λ i. allows_choice i (t.Defined other)) o false ≡ false
  no-instance None other = refl
  no-instance (Some i) other = refl

  choice-by : (x : Value) (under other : ℕ) (choices : List TypeName) → carried x ≡ Some under
      → (list_any (plan.may_choose types number) choices ≡ false → list_any (is_choice_of types population x) choices ≡ true → NeverTried under)
      → list_any (plan.may_choose types number) (t.Defined other ∷ choices) ≡ false → list_any (is_choice_of types population x) (t.Defined other ∷ choices) ≡ true
      → (same : Bool) → (other == under) ≡ same → NeverTried under
  choice-by x under other choices carries more none chosen true is =
      let here : plan.may_choose types number (t.Defined other) ≡ false = or-left (plan.may_choose types number (t.Defined other)) (list_any (plan.may_choose types number) choices) none in
      let same : other ≡ under = eqb-true other under is in
      let under : plan.is_under types number other ≡ false =
      or-right (plan.is_long types number other) (plan.is_under types number other) (or-left (plan.is_long types number other || plan.is_under types number other) (is_some (aggregate_type (end_of types other))) here) in
      subst NeverTried same (under, or-right (plan.is_long types number other || plan.is_under types number other) (is_some (aggregate_type (end_of types other))) here)
  choice-by x under other choices carries more none chosen false is =
      let others : list_any (plan.may_choose types number) choices ≡ false = or-right (plan.may_choose types number (t.Defined other)) (list_any (plan.may_choose types number) choices) none in
      let here : is_choice_of types population x (t.Defined other) ≡ false =
      (λ i. no-instance (option_and_then (λ place. slice_get population place) (place_of x)) other i || option_map_or (λ n. is_type n (t.Defined other)) (carries i) false) ∙ is in
      more others (ap (λ (b : Bool). b || list_any (is_choice_of types population x) choices) (sym here) ∙ chosen)

  -- the type that a value carries, once it is among the choices
  choice-of : (x : Value) (under : ℕ) (choices : List TypeName) → carried x ≡ Some under → list_any (plan.may_choose types number) choices ≡ false → list_any (is_choice_of types population x) choices ≡ true
      → NeverTried under
  choice-of x under [] carries none chosen = absurd (cc)
  choice-of x under (t.Entity entity ∷ choices) carries none chosen = absurd (cc)
  choice-of x under (t.Defined other ∷ choices) carries none chosen = choice-by x under other choices carries (choice-of x under choices carries) none chosen (other == under) refl

  carries-by : (x : Value) (under : ℕ) (o : Option DefinedType) → carried x ≡ Some under → option_map_or (λ (y : DefinedType). nat_lt 100 (length y.choices) || list_any (plan.may_choose types number) y.choices) o false ≡ false
      → option_map_or (λ (y : DefinedType). list_any (is_choice_of types population x) y.choices) o false ≡ true → NeverTried under
  carries-by x under None carries none chosen = absurd (cc)
  carries-by x under (Some y) carries none chosen = choice-of x under y.choices carries (or-right (nat_lt 100 (length y.choices)) (list_any (plan.may_choose types number) y.choices) none) chosen

  -- ---- a value itself

  under-is : (from : ℕ) (is_named : Bool) (x : Value) (o : Option ℕ) → carried x ≡ o → (is_some o ≡ true → is_named ≡ true) → (is_named && plan.may_carry types number from) ≡ false
      → is_among (option_map_or (with_beneath types population) (written_under types population from x) []) number ≡ false
  under-is from is_named x None carries on none = under-none types population from number x carries
  under-is from is_named x (Some under) carries on none =
      let never : plan.may_carry types number from ≡ false = ap (λ (b : Bool). b && plan.may_carry types number from) (sym (on refl)) ∙ none in
      under-some types population from number under x carries
      ∙ and-unless (is_among (with_beneath types population under) number) (chooses types population x from) (λ chosen. (carries-by x under (slice_get types from) carries never chosen).0)

  in-select : (from : ℕ) (is_named : Bool) (x : Value) → (is_some (carried x) ≡ true → is_named ≡ true) → (from == number || plan.is_between types number from || is_named && plan.may_carry types number from) ≡ false
      → is_among (from ∷ selects_to types population from x ++ option_map_or (with_beneath types population) (written_under types population from x) []) number ≡ false
  in-select from is_named x on none =
      let carry = or-right (from == number || plan.is_between types number from) (is_named && plan.may_carry types number from) none in
      let others = or-left (from == number || plan.is_between types number from) (is_named && plan.may_carry types number from) none in
      let itself = or-left (from == number) (plan.is_between types number from) others in
      let between = or-right (from == number) (plan.is_between types number from) others in
      let selects : is_among (selects_to types population from x) number ≡ false = selects-between types population from x number ∙ ap (λ (b : Bool). b && chooses types population x number) between in
      (λ i. itself i || list_any-append (λ n. n == number) (selects_to types population from x) (option_map_or (with_beneath types population) (written_under types population from x) []) i)
      ∙ (λ i. selects i || under-is from is_named x (carried x) refl on carry i)

  untried-by : (e : End) (o : Option ℕ) (is_named : Bool) (data_type : NamedDataType) (x y : Value) → (is_some (carried x) ≡ true → is_named ≡ true) → plan.may_be_by types number e o is_named ≡ false
      → is_among (types_by types population e o data_type x y) number ≡ false
  untried-by (Enumeration n) None is_named data_type x y on none = refl
  untried-by (Select choices) None is_named data_type x y on none = refl
  untried-by (Written written) None is_named data_type x y on none = refl
  untried-by (Enumeration n) (Some from) is_named data_type x y on none =
      among-if (fits types data_type y) (with_beneath types population from) number ∙ ap (λ (b : Bool). b && fits types data_type y) none
  untried-by (Written written) (Some from) is_named data_type x y on none =
      among-if (fits types data_type y) (with_beneath types population from) number ∙ ap (λ (b : Bool). b && fits types data_type y) none
  untried-by (Select choices) (Some from) is_named data_type x y on none = in-select from is_named x on none

  -- ---- the elements of a value

  none-inside : (o : Option AggregateType) (passes : NamedDataType → Bool) → is_some o ≡ false → option_map_or passes (option_map (λ (a : AggregateType). a.element) o) false ≡ false
  none-inside None passes is = refl
  none-inside (Some a) passes is = absurd (cc)

  end-defined : (under : ℕ) → end types (defined under) ≡ end_of types under
  unfolding out-NamedDataType denote.Hole.Carrier.out
  end-defined under = refl

  under-inside : (passes : NamedDataType → Bool) (x : Value) (o : Option ℕ) (chosen : Bool) → ((under : ℕ) → o ≡ Some under → chosen ≡ true → is_some (aggregate_type (end_of types under)) ≡ false)
      → option_map_or passes (option_and_then (λ under. element_of types population (defined under)) (if chosen then o else None)) false ≡ false
  under-inside passes x o false none = refl
  under-inside passes x None true none = refl
  under-inside passes x (Some under) true none =
      none-inside (aggregate_type (end types (defined under))) passes (ap (λ (e : End). is_some (aggregate_type e)) (end-defined under) ∙ none under refl refl)

  fits-inside : (passes : NamedDataType → Bool) (o : Option NamedDataType) (b : Bool) → option_map_or passes o false ≡ false → option_map_or passes (if b then o else None) false ≡ false
  fits-inside passes o true none = none
  fits-inside passes o false none = refl

  inside-by : (e : End) (o : Option ℕ) (is_named : Bool) (passes : NamedDataType → Bool) (data_type : NamedDataType) (x y : Value) → (is_some (carried x) ≡ true → is_named ≡ true)
      → plan.may_be_by types number e o is_named ≡ false → option_map_or passes (element_of types population data_type) false ≡ false → option_map_or passes (element_by types population e o data_type x y) false ≡ false
  inside-by (Enumeration n) o is_named passes data_type x y on none inside = fits-inside passes (element_of types population data_type) (fits types data_type y) inside
  inside-by (Written written) o is_named passes data_type x y on none inside = fits-inside passes (element_of types population data_type) (fits types data_type y) inside
  inside-by (Select choices) None is_named passes data_type x y on none inside = fits-inside passes (element_of types population data_type) (fits types data_type y) inside
  inside-by (Select choices) (Some from) is_named passes data_type x y on none inside =
      let carry = or-right (from == number || plan.is_between types number from) (is_named && plan.may_carry types number from) none in
      under-inside passes x (carried x) (chooses types population x from) (λ under carries chosen.
      let it_is : is_named ≡ true = on (ap is_some carries) in
      let never : plan.may_carry types number from ≡ false = ap (λ (b : Bool). b && plan.may_carry types number from) (sym it_is) ∙ carry in
      (carries-by x under (slice_get types from) carries never chosen).1)

  -- ---- by all declarations

  -- what lets nothing be tried, however deep it was looked
  abbrev pub Idle : Bool → List NamedDataType → Type 0
  Idle is_named declared = (depth : ℕ) × (list_any (may depth is_named) declared ≡ false)

  untried-all : (depth : ℕ) (is_named : Bool) (declared : List NamedDataType) (x y : Value) → (is_some (carried x) ≡ true → is_named ≡ true) → list_any (may depth is_named) declared ≡ false
      → is_tried types population number declared x y ≡ false
  unfolding plan.may_stand
  untried-all depth is_named [] x y on none = refl
  untried-all zero is_named (d ∷ declared) x y on none = absurd (cc)
  untried-all (suc depth) is_named (d ∷ declared) x y on none =
      let here = or-left (may (suc depth) is_named d) (list_any (may (suc depth) is_named) declared) none in
      let be = or-left (plan.may_be_by types number (end types d) (named d) is_named) (option_map_or (may depth true) (element_of types [] d) false) here in
      λ i. untried-by (end types d) (named d) is_named d x y on be i || untried-all (suc depth) is_named declared x y on (or-right (may (suc depth) is_named d) (list_any (may (suc depth) is_named) declared) none) i

  more-inside : (passes : NamedDataType → Bool) (f : NamedDataType → Option NamedDataType) (d : NamedDataType) (declared : List NamedDataType) (o : Option NamedDataType) → f d ≡ o → option_map_or passes o false ≡ false
      → list_any passes (filter_map f declared) ≡ false → list_any passes (filter_map f (d ∷ declared)) ≡ false
  more-inside passes f d declared None is none others = rw is others
  more-inside passes f d declared (Some e) is none others = rw (is, none) others

  deeper : (depth : ℕ) (is_named : Bool) (declared : List NamedDataType) (x y : Value) → (is_some (carried x) ≡ true → is_named ≡ true) → list_any (may (suc depth) is_named) declared ≡ false
      → list_any (may depth true) (filter_map (element_type types population x y) declared) ≡ false
  unfolding plan.may_stand
  deeper depth is_named [] x y on none = refl
  deeper depth is_named (d ∷ declared) x y on none =
      let here = or-left (may (suc depth) is_named d) (list_any (may (suc depth) is_named) declared) none in
      let be = or-left (plan.may_be_by types number (end types d) (named d) is_named) (option_map_or (may depth true) (element_of types [] d) false) here in
      let inside = or-right (plan.may_be_by types number (end types d) (named d) is_named) (option_map_or (may depth true) (element_of types [] d) false) here in
      more-inside (may depth true) (element_type types population x y) d declared (element_type types population x y d) refl (inside-by (end types d) (named d) is_named (may depth true) d x y on be inside)
      (deeper depth is_named declared x y on (or-right (may (suc depth) is_named d) (list_any (may (suc depth) is_named) declared) none))

  idle-inside : (is_named : Bool) (declared : List NamedDataType) (x y : Value) → (is_some (carried x) ≡ true → is_named ≡ true) → Idle is_named declared → Idle true (filter_map (element_type types population x y) declared)
  unfolding plan.may_stand
  idle-inside is_named [] x y on idle = (zero, refl)
  idle-inside is_named (d ∷ declared) x y on (zero, none) = absurd (cc)
  idle-inside is_named (d ∷ declared) x y on (suc depth, none) = (depth, deeper depth is_named (d ∷ declared) x y on none)

  -- ---- in a value

  abbrev Silent : Value → Type 0
  Silent x = (declared : List NamedDataType) (o : Items types population number) → Idle true declared → (parted types population number x).inside declared o ≡ []

  set-silent : (x y : Value) (is_named : Bool) (declared : List NamedDataType) → Silent x → (is_some (carried x) ≡ true → is_named ≡ true) → Idle is_named declared → (b : Bool) → is_indeterminate y ≡ b
      → values_at types population number declared x y ≡ []
  set-silent x y is_named declared silent on idle true is = values-unset types population number declared x y is
  set-silent x y is_named declared silent on idle false is =
      values-set types population number declared x y (aggregate_of y) is refl
      ∙ (λ i. (if untried-all idle.0 is_named declared x y on idle.1 i then y ∷ [] else []) ++ silent (filter_map (element_type types population x y) declared) (aggregate_of y) (idle-inside is_named declared x y on idle) i)

  abbrev Shut : Type 0
  Shut = (x : Value) × Silent x

  elements-silent : (ps : List Shut) (ys : List Value) (declared : List NamedDataType) → Idle true declared → elements_tried types population number declared (map (parted types population number) (map (λ p. p.0) ps)) ys ≡ []
  unfolding values_tried
  elements-silent [] ys declared idle = refl
  elements-silent (p ∷ ps) [] declared idle = refl
  elements-silent (p ∷ ps) (y ∷ ys) declared idle =
      λ i. set-silent p.0 y true declared p.1 (λ _. refl) idle (is_indeterminate y) refl i ++ elements-silent ps ys declared idle i

  layer-silent : (y : Value-F Shut) (declared : List NamedDataType) (o : Items types population number) → Idle true declared
      → inside_by types population number (map-Value Value (Part types population number) (parted types population number) (map-Value Shut Value (λ p. p.0) y)) declared o ≡ []
  layer-silent Value-F.Indet declared o idle = refl
  layer-silent (Value-F.Int n) declared o idle = refl
  layer-silent (Value-F.Dec d) declared o idle = refl
  layer-silent (Value-F.Str text) declared o idle = refl
  layer-silent (Value-F.Bin bits) declared o idle = refl
  layer-silent (Value-F.Log x) declared o idle = refl
  layer-silent (Value-F.Item n place) declared o idle = refl
  layer-silent (Value-F.Inst name) declared o idle = refl
  layer-silent (Value-F.Agg kind elements) declared None idle = refl
  layer-silent (Value-F.Agg kind elements) declared (Some a) idle = elements-silent elements.items a.1.items declared idle
  layer-silent (Value-F.Named n p) declared o idle = p.1 declared o idle

  silent : (x : Value) → Silent x
  silent = ind-Value Silent (λ x y is declared o idle.
      inside-of types population number x declared o
      ∙ subst (λ z. inside_by types population number (map-Value Value (Part types population number) (parted types population number) z) declared o ≡ []) is (layer-silent y declared o idle))

  pub values-none : (x y : Value) (depth : ℕ) (is_named : Bool) (declared : List NamedDataType) → (is_some (carried x) ≡ true → is_named ≡ true) → list_any (may depth is_named) declared ≡ false
      → values_at types population number declared x y ≡ []
  values-none x y depth is_named declared on none = set-silent x y is_named declared (silent x) on (depth, none) (is_indeterminate y) refl

-- ---- what may be tried

named-alone : (b : Bool) → (b && true) ≡ false → b ≡ false
named-alone true none = none
named-alone false none = refl

pub on-neither : (p : Tryable) (b : Bool) → (p.bare || p.named && b) ≡ false → plan.on_named p b ≡ false
on-neither p true none = named-alone p.named (or-right p.bare (p.named && true) none)
on-neither p false none = or-left p.bare (p.named && false) none

-- ---- what a plan is made of

on-either : (p q : Tryable) (b : Bool) → plan.on_named (plan.either p q) b ≡ false → (plan.on_named p b ≡ false) × (plan.on_named q b ≡ false)
on-either p q true none = (or-left p.named q.named none, or-right p.named q.named none)
on-either p q false none = (or-left p.bare q.bare none, or-right p.bare q.bare none)

set-keeps : (found : List Tryable) (m n : ℕ) (w : Tryable) (b : Bool) → (plan.on_named w b ≡ false → plan.on_named (plan.at_entity found m) b ≡ false)
    → plan.on_named (plan.at_entity (slice_set found m w) n) b ≡ false → plan.on_named (plan.at_entity found n) b ≡ false
set-keeps [] m n w b low none = none
set-keeps (q ∷ found) zero zero w b low none = low none
set-keeps (q ∷ found) zero (suc n) w b low none = none
set-keeps (q ∷ found) (suc m) zero w b low none = none
set-keeps (q ∷ found) (suc m) (suc n) w b low none = set-keeps found m n w b low none

set-covers : (found : List Tryable) (m : ℕ) (w : Tryable) (b : Bool) → plan.on_named (plan.at_entity (slice_set found m w) m) b ≡ false → plan.on_named w b ≡ false
set-covers [] m w true none = absurd (cc)
set-covers [] m w false none = absurd (cc)
set-covers (q ∷ found) zero w b none = none
set-covers (q ∷ found) (suc m) w b none = set-covers found m w b none

module _ (types : List DefinedType) (number : ℕ) where
  abbrev may_at : Bool → NamedDataType → Bool
  may_at = plan.may_stand types number 8

  on-tryable : (d : NamedDataType) (b : Bool) → plan.on_named (plan.tryable types number d) b ≡ may_at b d
  on-tryable d true = refl
  on-tryable d false = refl

  put-keeps : (found : List Tryable) (m n : ℕ) (p : Tryable) (b : Bool) → plan.on_named (plan.at_entity (plan.put found m p) n) b ≡ false → plan.on_named (plan.at_entity found n) b ≡ false
  put-keeps found m n p b none = set-keeps found m n (plan.either (plan.at_entity found m) p) b (λ h. (on-either (plan.at_entity found m) p b h).0) none

  put-covers : (found : List Tryable) (m : ℕ) (p : Tryable) (b : Bool) → plan.on_named (plan.at_entity (plan.put found m p) m) b ≡ false → plan.on_named p b ≡ false
  put-covers found m p b none = (on-either (plan.at_entity found m) p b (set-covers found m (plan.either (plan.at_entity found m) p) b none)).1

  all-keeps : (found : List Tryable) (rs : List Redeclaration) (n : ℕ) (b : Bool) → plan.on_named (plan.at_entity (plan.put_all types number found rs) n) b ≡ false → plan.on_named (plan.at_entity found n) b ≡ false
  all-keeps found [] n b none = none
  all-keeps found (r ∷ rs) n b none =
      put-keeps found r.attribute.entity n (plan.tryable types number r.declaration.data_type) b (all-keeps (plan.put found r.attribute.entity (plan.tryable types number r.declaration.data_type)) rs n b none)

  of-keeps : (found : List Tryable) (es : List Entity) (n : ℕ) (b : Bool) → plan.on_named (plan.at_entity (plan.put_of types number found es) n) b ≡ false → plan.on_named (plan.at_entity found n) b ≡ false
  of-keeps found [] n b none = none
  of-keeps found (e ∷ es) n b none = all-keeps found e.redeclarations n b (of-keeps (plan.put_all types number found e.redeclarations) es n b none)

  same-entity : (a : AttributePlace) (r : Redeclaration) → same_attribute r.attribute a ≡ true → r.attribute.entity ≡ a.entity
  same-entity a r same = eqb-true r.attribute.entity a.entity (and-first (r.attribute.entity == a.entity) (same_sort r.attribute.sort a.sort) (and-first (r.attribute.entity == a.entity && same_sort r.attribute.sort a.sort) (r.attribute.place == a.place) same))

  one-covers : (found : List Tryable) (a : AttributePlace) (r : Redeclaration) (b same : Bool) → same_attribute r.attribute a ≡ same
      → plan.on_named (plan.at_entity (plan.put found r.attribute.entity (plan.tryable types number r.declaration.data_type)) a.entity) b ≡ false → again_passes (may_at b) a r ≡ false
  one-covers found a r b false is none = ap (λ (c : Bool). c && may_at b r.declaration.data_type) is
  one-covers found a r b true is none =
      let at : plan.on_named (plan.at_entity (plan.put found r.attribute.entity (plan.tryable types number r.declaration.data_type)) r.attribute.entity) b ≡ false =
      ap (λ (n : ℕ). plan.on_named (plan.at_entity (plan.put found r.attribute.entity (plan.tryable types number r.declaration.data_type)) n) b) (same-entity a r is) ∙ none in
      ap (λ (c : Bool). c && may_at b r.declaration.data_type) is
      ∙ sym (on-tryable r.declaration.data_type b) ∙ put-covers found r.attribute.entity (plan.tryable types number r.declaration.data_type) b at

  all-covers : (found : List Tryable) (rs : List Redeclaration) (a : AttributePlace) (b : Bool) → plan.on_named (plan.at_entity (plan.put_all types number found rs) a.entity) b ≡ false
      → list_any (again_passes (may_at b) a) rs ≡ false
  all-covers found [] a b none = refl
  all-covers found (r ∷ rs) a b none =
      let next = plan.put found r.attribute.entity (plan.tryable types number r.declaration.data_type) in
      λ i. one-covers found a r b (same_attribute r.attribute a) refl (all-keeps next rs a.entity b none) i || all-covers next rs a b none i

  of-covers : (found : List Tryable) (es : List Entity) (n : ℕ) (a : AttributePlace) (b : Bool) → plan.on_named (plan.at_entity (plan.put_of types number found es) a.entity) b ≡ false
      → list_any (again_passes (may_at b) a) (option_map_or (λ (e : Entity). e.redeclarations) (slice_get es n) []) ≡ false
  of-covers found [] n a b none = refl
  of-covers found (e ∷ es) zero a b none = all-covers found e.redeclarations a b (of-keeps (plan.put_all types number found e.redeclarations) es a.entity b none)
  of-covers found (e ∷ es) (suc n) a b none = of-covers (plan.put_all types number found e.redeclarations) es n a b none

  -- ---- by own declarations

  abbrev may_by : Bool → ExplicitAttribute → Bool
  may_by b x = may_at b x.declaration.data_type

  map-covers : (xs : List ExplicitAttribute) (at : ℕ) (b : Bool) → plan.on_named (slice_index_or (map (plan.by_declaration types number) xs) at plan.nothing) b ≡ false → option_map_or (may_by b) (slice_get xs at) false ≡ false
  map-covers [] at b none = refl
  map-covers (x ∷ xs) zero b none = sym (on-tryable x.declaration.data_type b) ∙ none
  map-covers (x ∷ xs) (suc at) b none = map-covers xs at b none

  rows-cover : (es : List Entity) (n at : ℕ) (b : Bool)
      → plan.on_named (option_map_or (λ (row : List Tryable). slice_index_or row at plan.nothing) (slice_get (map (λ (e : Entity). plan.own types number e.explicit) es) n) plan.nothing) b ≡ false
      → option_map_or (may_by b) (option_and_then (λ (e : Entity). slice_get e.explicit at) (slice_get es n)) false ≡ false
  rows-cover [] n at b none = refl
  rows-cover (e ∷ es) zero at b none = map-covers e.explicit at b none
  rows-cover (e ∷ es) (suc n) at b none = rows-cover es n at b none

pub plan-tells : (schema : Schema) (number : ℕ) (again : List Tryable) (own : List (List Tryable)) → again ≡ plan.put_of schema.types number (replicate (length schema.entities) plan.nothing) schema.entities
    → own ≡ map (λ (e : Entity). plan.own schema.types number e.explicit) schema.entities → plan.Tells schema number (record { again = again; own = own })
plan-tells schema number again own is-again is-own a entities b none =
    let both = on-either (plan.own_at own a) (plan.at_entity again a.entity) b none in
    let own-none = ap (λ (rows : List (List Tryable)). plan.on_named (plan.own_at rows a) b) (sym is-own) ∙ both.0 in
    let again-none = ap (λ (found : List Tryable). plan.on_named (plan.at_entity found a.entity) b) (sym is-again) ∙ both.1 in
    any-declared (plan.may_stand schema.types number 8 b) schema entities a
    ∙ (λ i. rows-cover schema.types number schema.entities a.entity a.place b own-none i
    || any-none (λ entity. list_any (again_passes (plan.may_stand schema.types number 8 b) a) (redeclarations_of schema entity)) (λ entity. of-covers schema.types number (replicate (length schema.entities) plan.nothing) schema.entities entity a b again-none) entities i)

pub untold : (schema : Schema) (number : ℕ) → plan.Tells schema number plan.no_plan
untold schema number a entities true none = absurd (cc)
untold schema number a entities false none = absurd (cc)

-- ---- aggregate by aggregate

module _ (types : List DefinedType) (number depth : ℕ) (is_named : Bool) (d : NamedDataType) where
  stand-step : depth < 8
      → plan.may_stand types number (8 - depth) is_named d
      ≡ (plan.may_be_by types number (end types d) (named d) is_named || option_map_or (plan.may_stand types number (8 - (depth + 1)) true) (element_of types [] d) false)
  unfolding plan.may_stand
  stand-step h =
      let e : 8 - depth ≡ suc (8 - (depth + 1)) = omega arith in
      ap (λ (n : ℕ). plan.may_stand types number n is_named d) e

  pub stand-itself : depth < 8 → plan.may_be_by types number (end types d) (named d) is_named ≡ true → plan.may_stand types number (8 - depth) is_named d ≡ true
  stand-itself h be = stand-step h ∙ ap (λ (b : Bool). b || option_map_or (plan.may_stand types number (8 - (depth + 1)) true) (element_of types [] d) false) be

  stand-else : depth < 8 → plan.may_be_by types number (end types d) (named d) is_named ≡ false → (o : Option NamedDataType) → element_of types [] d ≡ o
      → plan.may_stand types number (8 - depth) is_named d ≡ option_map_or (plan.may_stand types number (8 - (depth + 1)) true) o false
  stand-else h be o is = stand-step h ∙ (λ i. be i || option_map_or (plan.may_stand types number (8 - (depth + 1)) true) (is i) false)

  pub stand-nowhere : depth < 8 → plan.may_be_by types number (end types d) (named d) is_named ≡ false → element_of types [] d ≡ None → plan.may_stand types number (8 - depth) is_named d ≡ false
  stand-nowhere h be is = stand-else h be None is

  pub stand-deeper : depth < 8 → plan.may_be_by types number (end types d) (named d) is_named ≡ false → (e : NamedDataType) → element_of types [] d ≡ Some e
      → plan.may_stand types number (8 - depth) is_named d ≡ plan.may_stand types number (8 - (depth + 1)) true e
  stand-deeper h be e is = stand-else h be (Some e) is

  pub stand-end : 8 ≤ depth → plan.may_stand types number (8 - depth) is_named d ≡ true
  unfolding plan.may_stand
  stand-end h =
      let e : 8 - depth ≡ 0 = omega arith in
      ap (λ (n : ℕ). plan.may_stand types number n is_named d) e
