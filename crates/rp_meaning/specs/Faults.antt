-- Which values of attributes violate what their declarations ask for: that they are set, that bounds and widths hold and nothing
-- stands twice where it may not (ISO 10303-11:1994, 8.1, 8.2), and that references lead to instances that are allowed.
use Rattle.std.specs.Prelude.{ℕ, ◌+◌, ◌==◌, ◌&&◌, ◌||◌, not, nat_lt, Bool, true, false, List, [], ◌∷◌, ◌++◌, map, filter, length, Option, Some, None, slice_get, if◌then◌else◌}
use Rattle.std.specs.List.{list_any, flat_map}
use Rattle.std.specs.Option.{is_some, option_and_then, option_map_or}
use Rattle.std.specs.Fmt.{char_count}
use Rattle.ex_named.specs.declared.expression.NamedDataType.{NamedDataType, NamedDataType-F, out-NamedDataType}
use Rattle.ex_named.specs.declared.reference.AttributePlace.{AttributePlace}
use Rattle.ex_named.specs.declared.reference.TypeName.{TypeName}
use Rattle.ex_named.specs.declared.reference.TypeName.TheVariants as t
use Rattle.ex_tree.specs.declared.data_type.SimpleType.{SimpleType}
use Rattle.ex_tree.specs.declared.data_type.SimpleType.TheVariants as s
use Rattle.ex_tree.specs.declared.data_type.Width.{Width}
use Rattle.rp_value.specs.Elements.{Elements}
use Rattle.rp_operations.specs.Operations.{set_union}
use Rattle.rp_value.specs.declared.value.Value.{Value}
use Rattle.rp_value.specs.declared.value.Value.TheFolds.{fold-Value, map-Value}
use Rattle.rp_value.specs.declared.value.Value.TheOpen.{Value-F}
use Rattle.rp_value.specs.declared.value.Value.TheViews.{roll-Value}
use Rattle.rp_meaning.specs.declared.schema.DefinedType.{DefinedType}
use Rattle.rp_meaning.specs.declared.schema.Explicit.{Explicit}
use Rattle.rp_meaning.specs.declared.schema.Schema.{Schema}
use Rattle.rp_meaning.specs.Attributes.{derivation_in, entity_at, explicit_derivations}
use Rattle.rp_meaning.specs.Bare.{is_indeterminate}
use Rattle.rp_meaning.specs.Outcomes.{holds_count}
use Rattle.rp_meaning.specs.Populations.{Instance, Stored, is_of}
use Rattle.rp_meaning.specs.Reading.{present}
use Rattle.rp_meaning.specs.Types.{End, Select, Written, aggregate_type, end, end_of}
use Rattle.rp_meaning.specs.Uses.{same_attribute}

-- ---- what types ask of values

-- whether an element isn't set that has to be
abbrev pub lacks_element : NamedDataType-F NamedDataType → List Value → Bool
lacks_element (NamedDataType-F.Array bounds optional unique element) items = not optional && list_any is_indeterminate items
lacks_element (NamedDataType-F.List bounds unique element) items = list_any is_indeterminate items
lacks_element (NamedDataType-F.Bag bounds element) items = list_any is_indeterminate items
lacks_element (NamedDataType-F.Set bounds element) items = list_any is_indeterminate items
lacks_element _ items = false

abbrev pub has_twice : List Value → Bool
has_twice items = nat_lt (length (set_union [] items)) (length items)

-- An ARRAY has an element for each of its indexes. A SET, and what is UNIQUE, has none twice.
abbrev pub breaks_bounds : NamedDataType-F NamedDataType → List Value → Bool
breaks_bounds (NamedDataType-F.Array bounds optional unique element) items = not (length items + bounds.low == bounds.high + 1) || unique && has_twice items
breaks_bounds (NamedDataType-F.List bounds unique element) items = not (holds_count bounds (length items)) || unique && has_twice items
breaks_bounds (NamedDataType-F.Bag bounds element) items = not (holds_count bounds (length items))
breaks_bounds (NamedDataType-F.Set bounds element) items = not (holds_count bounds (length items)) || has_twice items
breaks_bounds _ items = false

abbrev pub breaks_width : Option Width → ℕ → Bool
breaks_width None n = false
breaks_width (Some width) n = nat_lt width.length n || width.fixed && nat_lt n width.length

abbrev pub breaks_simple : SimpleType → Value-F Value → Bool
breaks_simple (s.String width) (Value-F.Str text) = breaks_width width (char_count text)
breaks_simple (s.Binary width) (Value-F.Bin bits) = breaks_width width (length bits)
breaks_simple _ x = false

-- What is asked: of the elements of an aggregate by its type, and of what is no aggregate by a simple type.
pub record Test : Type 0 where
  pub of_elements : NamedDataType-F NamedDataType → List Value → Bool
  pub of_simple : SimpleType → Value-F Value → Bool

abbrev pub that_all_is_set : Test
that_all_is_set = record { of_elements = lacks_element; of_simple = λ simple x. false }

-- references that leave the population equal nothing
abbrev pub that_bounds_hold : ℕ → Test
that_bounds_hold count = record { of_elements = λ data_type items. breaks_bounds data_type (map (present count) items); of_simple = breaks_simple }

abbrev pub elements_by : Test → End → List Value → Bool
elements_by test (Written data_type) items = test.of_elements (out-NamedDataType data_type) items
elements_by test _ items = false

abbrev pub simple_by : Test → NamedDataType-F NamedDataType → Value-F Value → Bool
simple_by test (NamedDataType-F.Simple simple) x = test.of_simple simple x
simple_by test _ x = false

abbrev pub scalar_by : Test → End → Value-F Value → Bool
scalar_by test (Written data_type) x = simple_by test (out-NamedDataType data_type) x
scalar_by test _ x = false

abbrev pub is_type : ℕ → TypeName → Bool
is_type number (t.Defined other) = other == number
is_type number (t.Entity entity) = false

-- ---- which instances types allow

abbrev pub allows_choice : Instance → TypeName → Bool
allows_choice i (t.Entity entity) = is_of i entity
allows_choice i (t.Defined number) = false

abbrev pub allows_written : Instance → NamedDataType-F NamedDataType → Bool
allows_written i (NamedDataType-F.Named (t.Entity entity)) = is_of i entity
allows_written i _ = false

abbrev pub allows : Instance → End → Bool
allows i (Select choices) = list_any (allows_choice i) choices
allows i (Written data_type) = allows_written i (out-NamedDataType data_type)
allows i _ = false

module _ (types : List DefinedType) where
  -- A value, and whether it is at fault by a type. In a SELECT the type is asked under which the value is written, if the SELECT chooses
  -- from it.
  pub record Tested : Type 0 where
    pub itself : Value
    pub is_faulty : End → Bool

  module _ (test : Test) where
    abbrev pub named_by : ℕ → Tested → End → Bool
    named_by number x (Select choices) = list_any (is_type number) choices && x.is_faulty (end_of types number)
    named_by number x e = x.is_faulty e

    abbrev pub any_element : Elements Tested → End → Bool
    any_element xs e = option_map_or (λ a. list_any (λ x. x.is_faulty (end types a.element)) xs.items) (aggregate_type e) false

    abbrev pub faulty_by : Value-F Tested → End → Bool
    faulty_by (Value-F.Agg kind xs) e = elements_by test e (map (λ x. x.itself) xs.items) || any_element xs e
    faulty_by (Value-F.Named number x) e = named_by number x e
    faulty_by x e = scalar_by test e (map-Value Tested Value (λ y. y.itself) x)

    abbrev pub tested_by : Value-F Tested → Tested
    tested_by x = record { itself = roll-Value (map-Value Tested Value (λ y. y.itself) x); is_faulty = faulty_by x }

    -- whether something in a value doesn't pass the test, by a declared type
    unfoldable pub is_faulty_by : NamedDataType → Value → Bool
    is_faulty_by data_type x = (fold-Value Tested tested_by x).is_faulty (end types data_type)

  -- ---- references

  -- whether a value holds an instance, and whether a reference in it is none that a type allows
  pub record Referring : Type 0 where
    pub holds_instance : Bool
    pub is_astray : End → Bool

  abbrev pub allows_at : Option Instance → End → Bool
  allows_at None e = false
  allows_at (Some i) e = allows i e

  abbrev pub astray_under : ℕ → Referring → End → Bool
  astray_under number x (Select choices) = if list_any (is_type number) choices then x.is_astray (end_of types number) else x.holds_instance
  astray_under number x e = x.is_astray e

  abbrev pub astray_elements : Elements Referring → End → Bool
  astray_elements xs e = option_map_or (λ a. list_any (λ x. x.is_astray (end types a.element)) xs.items) (aggregate_type e) (list_any (λ x. x.holds_instance) xs.items)

  module _ (population : List Instance) where
    abbrev pub referring_by : Value-F Referring → Referring
    referring_by (Value-F.Inst place) = record { holds_instance = true; is_astray = λ e. not (allows_at (slice_get population place) e) }
    referring_by (Value-F.Agg kind xs) = record { holds_instance = list_any (λ x. x.holds_instance) xs.items; is_astray = astray_elements xs }
    referring_by (Value-F.Named number x) = record { holds_instance = x.holds_instance; is_astray = astray_under number x }
    referring_by _ = record { holds_instance = false; is_astray = λ e. false }

    -- whether a reference in a value leaves the population, or has no place by a declared type
    unfoldable pub is_astray_by : NamedDataType → Value → Bool
    is_astray_by data_type x = (fold-Value Referring referring_by x).is_astray (end types data_type)

-- ---- attributes of a population

-- an attribute that an instance of a population has
pub record Held : Type 0 where
  pub place : ℕ
  pub instance : Instance
  pub value : Stored

abbrev pub held_of : ℕ → Instance → List Held
held_of place i = map (λ x. record { place = place; instance = i; value = x }) i.values

-- those of instances, the first of which stands at this place
unfoldable pub held_from : ℕ → List Instance → List Held
held_from place [] = []
held_from place (i ∷ others) = held_of place i ++ held_from (place + 1) others

module _ (schema : Schema) where
  -- what is redeclared in DERIVE by an entity of the instance isn't checked
  abbrev pub is_checked : Held → Bool
  is_checked h = not (is_some (derivation_in schema (explicit_derivations schema h.value.attribute) h.instance))

  abbrev pub checked_of : List Instance → List Held
  checked_of population = filter is_checked (held_from 0 population)

  abbrev pub own_declaration : AttributePlace → List Explicit
  own_declaration a = option_map_or (λ x. x.declaration ∷ []) (option_and_then (λ e. slice_get e.explicit a.place) (entity_at schema a.entity)) []

  abbrev pub redeclared_by : AttributePlace → ℕ → List Explicit
  redeclared_by a entity = option_map_or (λ e. map (λ x. x.declaration) (filter (λ x. same_attribute x.attribute a) e.redeclarations)) (entity_at schema entity) []

  -- how an attribute is declared, and redeclared by the entities of the instance
  abbrev pub declarations : Held → List Explicit
  declarations h = own_declaration h.value.attribute ++ flat_map (redeclared_by h.value.attribute) h.instance.entities

  abbrev pub is_unset : Explicit → Value → Bool
  is_unset x value = not x.is_optional && is_indeterminate value || is_faulty_by schema.types that_all_is_set x.data_type value

  -- ---- the three checks

  abbrev pub violates_by : (Explicit → Value → Bool) → Held → Bool
  violates_by is_fault h = list_any (λ x. is_fault x h.value.written) (declarations h)

  abbrev pub unset : Held → Bool
  unset = violates_by is_unset

  abbrev pub out_of_bounds : List Instance → Held → Bool
  out_of_bounds population = violates_by (λ x value. is_faulty_by schema.types (that_bounds_hold (length population)) x.data_type value)

  abbrev pub astray : List Instance → Held → Bool
  astray population = violates_by (λ x value. is_astray_by schema.types population x.data_type value)
