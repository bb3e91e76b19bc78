-- The values on which the rules of a type are tried, variant by variant.
use Rattle.std.proofs.Common.{◌≡◌, ℕ, pos, ◌+◌, ◌<◌, ◌≤◌, Bool, true, false, ◌&&◌, ◌==◌, List, [], ◌∷◌, ◌++◌, map, filter, Option, Some, None, length, drop, get_or, slice_get, refl, sym, ap, ◌∙◌, subst, if◌then◌else◌, append-nil}
use Rattle.std.proofs.lemmas.Bool.{eqb-true}
use Rattle.std.specs.List.{filter_map}
use Rattle.std.specs.Option.{option_map_or}
use Rattle.ex_named.specs.declared.expression.NamedDataType.{NamedDataType}
use Rattle.plain_data.specs.Numbers.{is_among}
use Rattle.rp_meaning.specs.declared.schema.DefinedType.{DefinedType}
use Rattle.rp_meaning.specs.Bare.{aggregate_of, carried, is_indeterminate}
use Rattle.rp_meaning.specs.Populations.{Instance}
use Rattle.rp_meaning.specs.TypeRules.{Trying, chooses, selects_to, elements_tried, element_type, inside_by, trying_by, values_tried, with_beneath, written_under}
use Rattle.rp_operators.proofs.Sights as sights
use Rattle.rp_rules.specs.Tried.{elements_at, inside_at, itself_at, values_at}
use Rattle.rp_rules.proofs.Steps.{drop-got, drop-none, drop-past, drop-read}
use Rattle.rp_value.specs.Elements.{Elements}
use Rattle.rp_value.specs.declared.value.AggregateKind.{AggregateKind}
use Rattle.rp_value.specs.declared.value.AggregateKind.TheVariants as k
use Rattle.rp_value.specs.declared.value.Value.{Value, out-Value}
use Rattle.rp_value.specs.declared.value.Value.TheFolds.{fold-Value, fold-roll-Value, ind-Value, map-Value}
use Rattle.rp_value.specs.declared.value.Value.TheOpen.{Value-F}
use Rattle.rp_value.specs.declared.value.Value.TheVariants as v
use Rattle.rp_value.specs.declared.value.Value.TheViews.{roll-Value, roll-out-Value}

-- ---- types among others

and-true : (b : Bool) → b ≡ (b && true)
and-true true = refl
and-true false = refl

and-false : (b : Bool) → false ≡ (b && false)
and-false true = refl
and-false false = refl

-- only where something holds
pub among-if : (b : Bool) (xs : List ℕ) (n : ℕ) → is_among (if b then xs else []) n ≡ (is_among xs n && b)
among-if true xs n = and-true (is_among xs n)
among-if false xs n = and-false (is_among xs n)

kept-by : (passes : ℕ → Bool) (x n : ℕ) (xs : List ℕ) (same kept : Bool) → (x == n) ≡ same → passes x ≡ kept → (same ≡ true → passes n ≡ kept) → is_among (filter passes xs) n ≡ (is_among xs n && passes n)
    → is_among (filter passes (x ∷ xs)) n ≡ (is_among (x ∷ xs) n && passes n)
kept-by passes x n xs true true is so this more = rw (so, is, this refl) refl
kept-by passes x n xs true false is so this more = rw (so, is, this refl) (more ∙ rw (this refl) (sym (and-false (is_among xs n))))
kept-by passes x n xs false true is so this more = rw (so, is) more
kept-by passes x n xs false false is so this more = rw (so, is) more

-- among those that pass
pub among-kept : (passes : ℕ → Bool) (xs : List ℕ) (n : ℕ) → is_among (filter passes xs) n ≡ (is_among xs n && passes n)
among-kept passes [] n = refl
among-kept passes (x ∷ xs) n = kept-by passes x n xs (x == n) (passes x) refl refl (λ h. ap passes (sym (eqb-true x n h))) (among-kept passes xs n)

between-by : (o : Option DefinedType) (passes : ℕ → Bool) (n : ℕ)
    → is_among (option_map_or (λ (y : DefinedType). filter passes y.selects) o []) n ≡ (is_among (option_map_or (λ (y : DefinedType). y.selects) o []) n && passes n)
between-by None passes n = refl
between-by (Some y) passes n = among-kept passes y.selects n

-- a SELECT on a way to what a value is written as
pub selects-between : (types : List DefinedType) (population : List Instance) (from : ℕ) (x : Value) (n : ℕ)
    → is_among (selects_to types population from x) n ≡ (is_among (option_map_or (λ y. y.selects) (slice_get types from) []) n && chooses types population x n)
selects-between types population from x n = between-by (slice_get types from) (chooses types population x) n

pub ruleset between = (selects-between)

-- the type under which a value is written

under-by : (f : ℕ → List ℕ) (b : Bool) (o : Option ℕ) (under n : ℕ) → o ≡ Some under → is_among (option_map_or f (if b then o else None) []) n ≡ (is_among (f under) n && b)
under-by f true o under n is = rw is (and-true (is_among (f under) n))
under-by f false o under n is = and-false (is_among (f under) n)

none-by : (f : ℕ → List ℕ) (b : Bool) (o : Option ℕ) (n : ℕ) → o ≡ None → is_among (option_map_or f (if b then o else None) []) n ≡ false
none-by f true o n is = rw is refl
none-by f false o n is = refl

pub under-some : (types : List DefinedType) (population : List Instance) (from n under : ℕ) (x : Value) → carried x ≡ Some under
    → is_among (option_map_or (with_beneath types population) (written_under types population from x) []) n ≡ (is_among (with_beneath types population under) n && chooses types population x from)
under-some types population from n under x is = under-by (with_beneath types population) (chooses types population x from) (carried x) under n is

pub under-none : (types : List DefinedType) (population : List Instance) (from n : ℕ) (x : Value) → carried x ≡ None
    → is_among (option_map_or (with_beneath types population) (written_under types population from x) []) n ≡ false
under-none types population from n x is = none-by (with_beneath types population) (chooses types population x from) (carried x) n is

if-none : (b : Bool) (o : Option ℕ) → o ≡ None → (if b then o else None) ≡ None
if-none true o is = is
if-none false o is = refl

pub unwritten : (types : List DefinedType) (population : List Instance) (from : ℕ) (x : Value) → carried x ≡ None → written_under types population from x ≡ None
unwritten types population from x is = if-none (chooses types population x from) (carried x) is

pub ruleset written = (under-some, under-none, unwritten)

-- ---- parts of values

module _ (types : List DefinedType) (population : List Instance) (number : ℕ) where
  abbrev pub Part : Type 0
  Part = Trying types population number

  abbrev pub parted : Value → Part
  parted = fold-Value Part (trying_by types population number)

  abbrev kept : Part → Value
  kept t = t.itself

  keeps : (y : Value-F Part) → kept (trying_by types population number y) ≡ roll-Value (map-Value Part Value kept y)
  keeps y = refl

  itself : (x : Value) → (parted x).itself ≡ x
  itself = sights.itself kept (trying_by types population number) keeps

  abbrev pub Items : Type 0
  Items = Option (AggregateKind × Elements Value)

  pub inside-of : (x : Value-F Value) (declared : List NamedDataType) (o : Items) → (parted (roll-Value x)).inside declared o ≡ inside_by types population number (map-Value Value Part parted x) declared o
  inside-of x declared o = ap (λ (t : Part). t.inside declared o) (fold-roll-Value Part (trying_by types population number) x)

  -- ---- where the value that is read is no aggregate, nothing is in it

  abbrev Nothing : Value → Type 0
  Nothing x = (declared : List NamedDataType) → (parted x).inside declared None ≡ []

  abbrev Empty : Type 0
  Empty = (x : Value) × Nothing x

  layer-nothing : (y : Value-F Empty) (declared : List NamedDataType) → inside_by types population number (map-Value Value Part parted (map-Value Empty Value (λ p. p.0) y)) declared None ≡ []
  layer-nothing Value-F.Indet declared = refl
  layer-nothing (Value-F.Int n) declared = refl
  layer-nothing (Value-F.Dec d) declared = refl
  layer-nothing (Value-F.Str text) declared = refl
  layer-nothing (Value-F.Bin bits) declared = refl
  layer-nothing (Value-F.Log x) declared = refl
  layer-nothing (Value-F.Item n place) declared = refl
  layer-nothing (Value-F.Inst name) declared = refl
  layer-nothing (Value-F.Agg kind elements) declared = refl
  layer-nothing (Value-F.Named n p) declared = p.1 declared

  nothing : (x : Value) → Nothing x
  nothing = ind-Value Nothing (λ x y is declared.
      ap (λ (t : Part). t.inside declared None) (fold-roll-Value Part (trying_by types population number) x)
      ∙ subst (λ z. inside_by types population number (map-Value Value Part parted z) declared None ≡ []) is (layer-nothing y declared))

  -- ---- of an aggregate the elements alone are looked at

  abbrev of_items : List Value → Items
  of_items items = Some (k.List, record { low = pos 1; items = items })

  abbrev Alike : Value → Type 0
  Alike x = (declared : List NamedDataType) (kind : AggregateKind) (elements : Elements Value) → (parted x).inside declared (Some (kind, elements)) ≡ (parted x).inside declared (of_items elements.items)

  abbrev Same : Type 0
  Same = (x : Value) × Alike x

  layer-alike : (y : Value-F Same) (declared : List NamedDataType) (kind : AggregateKind) (elements : Elements Value)
      → inside_by types population number (map-Value Value Part parted (map-Value Same Value (λ p. p.0) y)) declared (Some (kind, elements))
      ≡ inside_by types population number (map-Value Value Part parted (map-Value Same Value (λ p. p.0) y)) declared (of_items elements.items)
  layer-alike Value-F.Indet declared kind elements = refl
  layer-alike (Value-F.Int n) declared kind elements = refl
  layer-alike (Value-F.Dec d) declared kind elements = refl
  layer-alike (Value-F.Str text) declared kind elements = refl
  layer-alike (Value-F.Bin bits) declared kind elements = refl
  layer-alike (Value-F.Log x) declared kind elements = refl
  layer-alike (Value-F.Item n place) declared kind elements = refl
  layer-alike (Value-F.Inst name) declared kind elements = refl
  layer-alike (Value-F.Agg other xs) declared kind elements = refl
  layer-alike (Value-F.Named n p) declared kind elements = p.1 declared kind elements

  alike : (x : Value) → Alike x
  alike = ind-Value Alike (λ x y is declared kind elements.
      ap (λ (t : Part). t.inside declared (Some (kind, elements))) (fold-roll-Value Part (trying_by types population number) x)
      ∙ subst (λ z. inside_by types population number (map-Value Value Part parted z) declared (Some (kind, elements)) ≡ inside_by types population number (map-Value Value Part parted z) declared (of_items elements.items)) is (layer-alike y declared kind elements)
      ∙ sym (ap (λ (t : Part). t.inside declared (of_items elements.items)) (fold-roll-Value Part (trying_by types population number) x)))

  -- ---- of a value

  pub values-unset : (declared : List NamedDataType) (x read : Value) → is_indeterminate read ≡ true → values_at types population number declared x read ≡ []
  unfolding values_tried
  values-unset declared x read is = rw is refl

  pub values-set : (declared : List NamedDataType) (x read : Value) (o : Items) → is_indeterminate read ≡ false → aggregate_of read ≡ o
      → values_at types population number declared x read ≡ itself_at types population number declared x read ++ (parted x).inside (filter_map (element_type types population x read) declared) o
  unfolding values_tried
  values-set declared x read o is so =
      (rw is refl)
      ∙ (λ i. itself_at types population number declared (itself x i) read ++ (parted x).inside (filter_map (element_type types population (itself x i) read) declared) (so i))

  pub values-scalar : (declared : List NamedDataType) (x read : Value) → is_indeterminate read ≡ false → aggregate_of read ≡ None → values_at types population number declared x read ≡ itself_at types population number declared x read
  values-scalar declared x read is so =
      values-set declared x read None is so
      ∙ ap (λ (xs : List Value). itself_at types population number declared x read ++ xs) (nothing x (filter_map (element_type types population x read) declared))
      ∙ append-nil (itself_at types population number declared x read)

  pub values-aggregate : (declared : List NamedDataType) (x read : Value) (kind : AggregateKind) (elements : Elements Value) → is_indeterminate read ≡ false → aggregate_of read ≡ Some (kind, elements)
      → values_at types population number declared x read
      ≡ itself_at types population number declared x read ++ inside_at types population number (filter_map (element_type types population x read) declared) x elements.items
  unfolding inside_at
  values-aggregate declared x read kind elements is so =
      values-set declared x read (Some (kind, elements)) is so
      ∙ ap (λ (xs : List Value). itself_at types population number declared x read ++ xs) (alike x (filter_map (element_type types population x read) declared) kind elements)

  -- ---- of elements

  elements-are : (declared : List NamedDataType) (xs ys : List Value) → elements_tried types population number declared (map parted xs) ys ≡ elements_at types population number declared xs ys
  unfolding values_tried
  elements-are declared [] ys = refl
  elements-are declared (x ∷ xs) [] = refl
  elements-are declared (x ∷ xs) (y ∷ ys) = ap (λ (zs : List Value). values_at types population number declared x y ++ zs) (elements-are declared xs ys)

  rolled : (declared : List NamedDataType) (items : List Value) (y : Value-F Value) → inside_at types population number declared (roll-Value y) items ≡ inside_by types population number (map-Value Value Part parted y) declared (of_items items)
  unfolding inside_at
  rolled declared items y = ap (λ (t : Part). t.inside declared (of_items items)) (fold-roll-Value Part (trying_by types population number) y)

  pub inside-Agg : (declared : List NamedDataType) (items : List Value) (x : Value) (kind : AggregateKind) (xs : Elements Value) → x ≡ v.Agg kind xs
      → elements_at types population number declared xs.items items ≡ inside_at types population number declared x items
  inside-Agg declared items x kind xs is =
      sym (elements-are declared xs.items items) ∙ sym (rolled declared items (Value-F.Agg kind xs)) ∙ ap (λ (x : Value). inside_at types population number declared x items) (v.rolls-Agg kind xs ∙ sym is)

  pub inside-Named : (declared : List NamedDataType) (items : List Value) (x : Value) (n : ℕ) (y : Value) → x ≡ v.Named n y
      → inside_at types population number declared y items ≡ inside_at types population number declared x items
  unfolding inside_at
  inside-Named declared items x n y is = sym (rolled declared items (Value-F.Named n y)) ∙ ap (λ (x : Value). inside_at types population number declared x items) (v.rolls-Named n y ∙ sym is)

  scalar : (declared : List NamedDataType) (items : List Value) (y : Value-F Value) → ((kind : AggregateKind) (xs : Elements Value) → roll-Value y ≡ v.Agg kind xs → ⊥) → ((n : ℕ) (z : Value) → roll-Value y ≡ v.Named n z → ⊥)
      → inside_at types population number declared (roll-Value y) items ≡ []
  scalar declared items Value-F.Indet other never = rolled declared items Value-F.Indet
  scalar declared items (Value-F.Int n) other never = rolled declared items (Value-F.Int n)
  scalar declared items (Value-F.Dec d) other never = rolled declared items (Value-F.Dec d)
  scalar declared items (Value-F.Str text) other never = rolled declared items (Value-F.Str text)
  scalar declared items (Value-F.Bin bits) other never = rolled declared items (Value-F.Bin bits)
  scalar declared items (Value-F.Log x) other never = rolled declared items (Value-F.Log x)
  scalar declared items (Value-F.Item n place) other never = rolled declared items (Value-F.Item n place)
  scalar declared items (Value-F.Inst place) other never = rolled declared items (Value-F.Inst place)
  scalar declared items (Value-F.Agg kind xs) other never = absurd (other kind xs (v.rolls-Agg kind xs))
  scalar declared items (Value-F.Named n x) other never = absurd (never n x (v.rolls-Named n x))

  pub inside-scalar : (declared : List NamedDataType) (items : List Value) (x : Value) → ((kind : AggregateKind) (xs : Elements Value) → x ≡ v.Agg kind xs → ⊥) → ((n : ℕ) (y : Value) → x ≡ v.Named n y → ⊥)
      → inside_at types population number declared x items ≡ []
  inside-scalar declared items x other never =
      ap (λ (x : Value). inside_at types population number declared x items) (sym (roll-out-Value x))
      ∙ scalar declared items (out-Value x) (λ kind xs is. other kind xs (sym (roll-out-Value x) ∙ is)) (λ n y is. never n y (sym (roll-out-Value x) ∙ is))

  -- ---- element by element

  pub elements-step : (declared : List NamedDataType) (written read : List Value) (i : ℕ) (x y : Value) → i < length written → x ≡ get_or written i x → slice_get read i ≡ Some y
      → elements_at types population number declared (drop i written) (drop i read) ≡ values_at types population number declared x y ++ elements_at types population number declared (drop (i + 1) written) (drop (i + 1) read)
  elements-step declared written read i x y h is got = λ k. elements_at types population number declared (drop-read written i x h is k) (drop-got read i y got k)

  elements-none : (declared : List NamedDataType) (xs : List Value) → elements_at types population number declared xs [] ≡ []
  elements-none declared [] = refl
  elements-none declared (x ∷ xs) = refl

  pub elements-end : (declared : List NamedDataType) (written read : List Value) (i : ℕ) → slice_get read i ≡ None → elements_at types population number declared (drop i written) (drop i read) ≡ []
  elements-end declared written read i none = ap (elements_at types population number declared (drop i written)) (drop-none read i none) ∙ elements-none declared (drop i written)

  pub elements-past : (declared : List NamedDataType) (written read : List Value) (i : ℕ) → length written ≤ i → elements_at types population number declared (drop i written) (drop i read) ≡ []
  elements-past declared written read i h = ap (λ (xs : List Value). elements_at types population number declared xs (drop i read)) (drop-past written i h)

pub ruleset parts = (values-unset, values-scalar, values-aggregate, inside-Agg, inside-Named, inside-scalar, elements-end, elements-past)
