-- On which values the rules of a defined type are tried (ISO 10303-11:1994, 9.1 and 9.2.2): on what is declared, or written, as of
-- the type, or of a type that renames it, or of a member of a SELECT.
use Rattle.std.specs.Prelude.{ℕ, ◌||◌, Bool, false, List, [], ◌∷◌, ◌++◌, filter, Option, Some, None, slice_get, if◌then◌else◌}
use Rattle.std.specs.List.{list_any, filter_map}
use Rattle.std.specs.Option.{option_and_then, option_map, option_map_or}
use Rattle.plain_data.specs.Numbers.{is_among}
use Rattle.ex_named.specs.declared.expression.NamedDataType.{NamedDataType, NamedDataType-F, out-NamedDataType}
use Rattle.ex_named.specs.declared.reference.TypeName.{TypeName}
use Rattle.ex_named.specs.declared.reference.TypeName.TheVariants as t
use Rattle.rp_value.specs.Elements.{Elements}
use Rattle.rp_value.specs.declared.value.AggregateKind.{AggregateKind}
use Rattle.rp_value.specs.declared.value.Value.{Value}
use Rattle.rp_value.specs.declared.value.Value.TheFolds.{fold-Value, map-Value}
use Rattle.rp_value.specs.declared.value.Value.TheOpen.{Value-F}
use Rattle.rp_value.specs.declared.value.Value.TheViews.{roll-Value}
use Rattle.rp_meaning.specs.declared.schema.DefinedType.{DefinedType}
use Rattle.rp_meaning.specs.Bare.{aggregate_of, carried, is_indeterminate, place_of}
use Rattle.rp_meaning.specs.Faults.{allows_choice, is_type}
use Rattle.rp_meaning.specs.Populations.{Instance}
use Rattle.rp_meaning.specs.Types.{End, Select, aggregate_type, defined, end, fits}

abbrev pub named_in : NamedDataType-F NamedDataType → Option ℕ
named_in (NamedDataType-F.Named (t.Defined number)) = Some number
named_in _ = None

-- the defined type that is named
abbrev pub named : NamedDataType → Option ℕ
named data_type = named_in (out-NamedDataType data_type)

module _ (types : List DefinedType) (population : List Instance) where
  -- ---- in a SELECT

  -- what a value is written as: an instance of some entities, or under a defined type
  abbrev pub is_choice_of : Value → TypeName → Bool
  is_choice_of x choice = option_map_or (λ i. allows_choice i choice) (option_and_then (λ place. slice_get population place) (place_of x)) false
      || option_map_or (λ number. is_type number choice) (carried x) false

  abbrev pub chooses : Value → ℕ → Bool
  chooses x number = option_map_or (λ y. list_any (is_choice_of x) y.choices) (slice_get types number) false

  -- the SELECTs on any way from a SELECT to what a value is written as
  abbrev pub selects_to : ℕ → Value → List ℕ
  selects_to number x = option_map_or (λ y. filter (chooses x) y.selects) (slice_get types number) []

  -- ---- by a declaration

  -- a defined type, and those beneath it
  abbrev pub with_beneath : ℕ → List ℕ
  with_beneath number = number ∷ option_map_or (λ y. y.beneath) (slice_get types number) []

  -- in a SELECT that chooses it, the type under which a value is written
  abbrev pub written_under : ℕ → Value → Option ℕ
  written_under number x = if chooses x number then carried x else None

  -- The defined types whose rules are tried on a value, as it is written, by a declaration with a SELECT.
  abbrev pub types_in_select : ℕ → Value → List ℕ
  types_in_select number x = number ∷ selects_to number x ++ option_map_or with_beneath (written_under number x) []

  abbrev pub types_by : End → Option ℕ → NamedDataType → Value → Value → List ℕ
  types_by (Select choices) (Some number) data_type written read = types_in_select number written
  types_by _ (Some number) data_type written read = if fits types data_type read then with_beneath number else []
  types_by _ None data_type written read = []

  -- by a declaration with any type, of a value as it is written and as it is read
  abbrev pub types_tried : NamedDataType → Value → Value → List ℕ
  types_tried data_type written read = types_by (end types data_type) (named data_type) data_type written read

  -- the type with which the elements of a value are declared
  abbrev pub element_of : NamedDataType → Option NamedDataType
  element_of data_type = option_map (λ a. a.element) (aggregate_type (end types data_type))

  abbrev pub element_by : End → Option ℕ → NamedDataType → Value → Value → Option NamedDataType
  element_by (Select choices) (Some number) data_type written read = option_and_then (λ under. element_of (defined under)) (written_under number written)
  element_by _ _ data_type written read = if fits types data_type read then element_of data_type else None

  abbrev pub element_type : Value → Value → NamedDataType → Option NamedDataType
  element_type written read data_type = element_by (end types data_type) (named data_type) data_type written read

  module _ (number : ℕ) where
    -- A value as it is written, and those in it, as they are read, on which the rules of the type are tried by declarations with these types.
    pub record Trying : Type 0 where
      pub itself : Value
      pub inside : List NamedDataType → Option (AggregateKind × Elements Value) → List Value

    abbrev pub is_tried : List NamedDataType → Value → Value → Bool
    is_tried declared written read = list_any (λ data_type. is_among (types_tried data_type written read) number) declared

    -- from the left, an aggregate before its elements
    abbrev pub tried_in : List NamedDataType → Trying → Value → List Value
    tried_in declared x read =
        if is_indeterminate read then []
        else (if is_tried declared x.itself read then read ∷ [] else []) ++ x.inside (filter_map (element_type x.itself read) declared) (aggregate_of read)

    abbrev pub elements_tried : List NamedDataType → List Trying → List Value → List Value
    elements_tried declared (x ∷ written) (y ∷ read) = tried_in declared x y ++ elements_tried declared written read
    elements_tried declared _ _ = []

    abbrev pub inside_by : Value-F Trying → List NamedDataType → Option (AggregateKind × Elements Value) → List Value
    inside_by (Value-F.Agg kind xs) declared (Some a) = elements_tried declared xs.items a.1.items
    inside_by (Value-F.Named name x) declared a = x.inside declared a
    inside_by _ declared a = []

    abbrev pub trying_by : Value-F Trying → Trying
    trying_by x = record { itself = roll-Value (map-Value Trying Value (λ y. y.itself) x); inside = inside_by x }

    -- the values in an attribute on which the rules of the type are tried
    unfoldable pub values_tried : List NamedDataType → Value → Value → List Value
    values_tried declared written read = tried_in declared (fold-Value Trying trying_by written) read
