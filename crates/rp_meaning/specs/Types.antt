-- What values become by the types with which attributes, variables, parameters, results and constants are declared
-- (ISO 10303-11:1994, clause 8 and 13.3).
use Rattle.std.specs.Prelude.{ℕ, ℤ, pos, Bool, true, false, not, ◌==◌, ◌||◌, ◌^◌, nat_lt, List, [], map, Option, Some, None, if◌then◌else◌, slice_get}
use Rattle.std.specs.List.{list_any}
use Rattle.std.specs.Option.{option_and_then, option_map_or}
use Rattle.ex_tree.specs.declared.data_type.SimpleType.{SimpleType}
use Rattle.ex_tree.specs.declared.data_type.SimpleType.TheVariants as s
use Rattle.ex_named.specs.declared.expression.NamedDataType.{NamedDataType, NamedDataType-F, out-NamedDataType}
use Rattle.ex_named.specs.declared.expression.NamedDataType.TheVariants as d
use Rattle.ex_named.specs.declared.reference.TypeName.{TypeName}
use Rattle.ex_named.specs.declared.reference.TypeName.TheVariants as t
use Rattle.rp_value.specs.Elements.{Elements}
use Rattle.rp_operations.specs.Operations.{set_union}
use Rattle.rp_value.specs.declared.value.AggregateKind.{AggregateKind}
use Rattle.rp_value.specs.declared.value.AggregateKind.TheVariants as k
use Rattle.rp_value.specs.declared.value.Value.{Value, out-Value}
use Rattle.rp_value.specs.declared.value.Value.TheFolds.{fold-Value, map-Value}
use Rattle.rp_value.specs.declared.value.Value.TheOpen.{Value-F}
use Rattle.rp_value.specs.declared.value.Value.TheVariants as v
use Rattle.rp_value.specs.declared.value.Value.TheViews.{roll-Value}
use Rattle.rp_meaning.specs.declared.schema.DefinedType.{DefinedType}
use Rattle.rp_meaning.specs.declared.schema.Underlying.{Underlying}
use Rattle.rp_meaning.specs.declared.schema.Underlying.TheVariants as u
use Rattle.rp_meaning.specs.Bare.{bare, carried, is_indeterminate}

-- A type behind all names: an enumeration, by the number of the type that declares it, a SELECT, by what it chooses from, or a type
-- that is written out.
pub data End : Type 0 where
  Enumeration : ℕ → End
  Select : List TypeName → End
  Written : NamedDataType → End

abbrev pub end_by : DefinedType → Underlying → End
end_by x (u.Enumeration number) = Enumeration number
end_by x u.Select = Select x.choices
end_by x (u.Data data_type) = Written data_type

abbrev pub defined : ℕ → NamedDataType
defined number = d.Named (t.Defined number)

-- ---- kinds

abbrev pub is_of_simple : SimpleType → Value-F Value → Bool
is_of_simple s.Integer (Value-F.Int n) = true
is_of_simple s.Real (Value-F.Int n) = true
is_of_simple s.Real (Value-F.Dec x) = true
is_of_simple s.Number (Value-F.Int n) = true
is_of_simple s.Number (Value-F.Dec x) = true
is_of_simple (s.String width) (Value-F.Str text) = true
is_of_simple (s.Binary width) (Value-F.Bin bits) = true
is_of_simple s.Boolean (Value-F.Log x) = true
is_of_simple s.Logical (Value-F.Log x) = true
is_of_simple _ _ = false

abbrev pub is_instance : Value-F Value → Bool
is_instance (Value-F.Inst place) = true
is_instance _ = false

abbrev pub is_aggregate : Value-F Value → Bool
is_aggregate (Value-F.Agg kind elements) = true
is_aggregate _ = false

abbrev pub is_item_of : ℕ → Value-F Value → Bool
is_item_of number (Value-F.Item enumeration place) = enumeration == number
is_item_of number _ = false

-- whether a value is of the kind of a type that is written out; of instances and of aggregates each is
abbrev pub is_of_written : NamedDataType-F NamedDataType → Value-F Value → Bool
is_of_written (NamedDataType-F.Simple simple) x = is_of_simple simple x
is_of_written (NamedDataType-F.Named (t.Entity entity)) x = is_instance x
is_of_written (NamedDataType-F.Named (t.Defined number)) x = false
is_of_written NamedDataType-F.Generic x = true
is_of_written _ x = is_aggregate x

-- ---- types of aggregates

-- The kind and the first index that a type of aggregates says, and the type of its elements. AGGREGATE says no kind.
pub record AggregateType : Type 0 where
  pub kind : Option (AggregateKind × ℤ)
  pub element : NamedDataType

-- an index is a value of INTEGER
abbrev pub array_from : ℕ → NamedDataType → Option AggregateType
array_from low element = if nat_lt low (2 ^ 63) then Some (record { kind = Some (k.Array, pos low); element = element }) else None

abbrev pub aggregate_by : NamedDataType-F NamedDataType → Option AggregateType
aggregate_by (NamedDataType-F.Array bounds optional unique element) = array_from bounds.low element
aggregate_by (NamedDataType-F.List bounds unique element) = Some (record { kind = Some (k.List, pos 1); element = element })
aggregate_by (NamedDataType-F.Bag bounds element) = Some (record { kind = Some (k.Bag, pos 1); element = element })
aggregate_by (NamedDataType-F.Set bounds element) = Some (record { kind = Some (k.Set, pos 1); element = element })
aggregate_by (NamedDataType-F.Aggregate element) = Some (record { kind = None; element = element })
aggregate_by _ = None

abbrev pub aggregate_type : End → Option AggregateType
aggregate_type (Written data_type) = aggregate_by (out-NamedDataType data_type)
aggregate_type _ = None

-- of a SET each element stays once
abbrev pub of_kind : AggregateKind × ℤ → List Value → Value
of_kind (k.Set, low) items = v.Agg k.Set (record { low = low; items = set_union [] items })
of_kind (kind, low) items = v.Agg kind (record { low = low; items = items })

-- an initialiser takes the kind of the type; what has a kind keeps it
abbrev pub as_aggregate : Option (AggregateKind × ℤ) → AggregateKind → ℤ → List Value → Value
as_aggregate (Some declared) k.Initializer low items = of_kind declared items
as_aggregate _ kind low items = v.Agg kind (record { low = low; items = items })

module _ (types : List DefinedType) where
  unfoldable pub end_of : ℕ → End
  end_of number = option_map_or (λ x. end_by x x.underlying) (slice_get types number) (Written (defined number))

  abbrev pub end_in : NamedDataType → NamedDataType-F NamedDataType → End
  end_in data_type (NamedDataType-F.Named (t.Defined number)) = end_of number
  end_in data_type _ = Written data_type

  abbrev pub end : NamedDataType → End
  end data_type = end_in data_type (out-NamedDataType data_type)

  -- ---- kinds

  -- of a type that is no SELECT
  abbrev pub is_of_end : End → Value-F Value → Bool
  is_of_end (Enumeration number) x = is_item_of number x
  is_of_end (Select choices) x = false
  is_of_end (Written data_type) x = is_of_written (out-NamedDataType data_type) x

  abbrev pub is_of_choice : Value-F Value → TypeName → Bool
  is_of_choice x (t.Entity entity) = is_instance x
  is_of_choice x (t.Defined number) = is_of_end (end_of number) x

  abbrev pub is_of_kind : End → Value-F Value → Bool
  is_of_kind (Select choices) x = list_any (is_of_choice x) choices
  is_of_kind e x = is_of_end e x

  -- whether a value, other than `?`, is of the kind of a type. INTEGER goes with REAL.
  unfoldable pub fits : NamedDataType → Value → Bool
  fits data_type x = is_of_kind (end data_type) (out-Value (bare x))

  -- ---- the types that values carry

  -- A value that is read through a defined type carries that one alone, but none through an enumeration's own type, and through a SELECT
  -- what it carries already.
  abbrev pub named_by : ℕ → End → Value → Value
  named_by number (Enumeration declaring) x = if declaring == number then bare x else v.Named number (bare x)
  named_by number (Select choices) x = x
  named_by number (Written data_type) x = v.Named number (bare x)

  -- so it does through a type that is written out
  abbrev pub named_in : NamedDataType-F NamedDataType → Value → Value
  named_in (NamedDataType-F.Named (t.Defined number)) x = named_by number (end_of number) x
  named_in _ x = x

  -- what says the type of the elements in a value: in a SELECT the defined type that the value carries
  abbrev pub inner_by : End → Option ℕ → Option AggregateType
  inner_by (Select choices) own = option_and_then (λ number. aggregate_type (end_of number)) own
  inner_by e own = aggregate_type e

  -- a value, and what it is once a type says what stands in it; all else it keeps
  pub record Part : Type 0 where
    pub itself : Value
    pub inside : Option AggregateType → Value

  abbrev pub part_under : NamedDataType → Part → Value
  part_under data_type p = named_in (out-NamedDataType data_type) (p.inside (inner_by (end data_type) (carried p.itself)))

  -- an element that doesn't fit stays as it is
  abbrev pub element_under : NamedDataType → Part → Value
  element_under data_type p = if is_indeterminate p.itself || not (fits data_type p.itself) then p.itself else part_under data_type p

  abbrev pub elements_under : Option AggregateType → AggregateKind → Elements Part → Value
  elements_under None kind xs = v.Agg kind (record { low = xs.low; items = map (λ p. p.itself) xs.items })
  elements_under (Some a) kind xs = as_aggregate a.kind kind xs.low (map (element_under a.element) xs.items)

  abbrev pub inside_by : Value-F Part → Option AggregateType → Value
  inside_by (Value-F.Agg kind xs) declared = elements_under declared kind xs
  inside_by (Value-F.Named n p) declared = v.Named n (p.inside declared)
  inside_by x declared = roll-Value (map-Value Part Value (λ p. p.itself) x)

  abbrev pub part_by : Value-F Part → Part
  part_by x = record { itself = roll-Value (map-Value Part Value (λ p. p.itself) x); inside = inside_by x }

  unfoldable pub part : Value → Part
  part = fold-Value Part part_by

  -- a value once it is declared with a type: `?` where its kind doesn't fit
  unfoldable pub given : NamedDataType → Value → Value
  given data_type x = if is_indeterminate x || not (fits data_type x) then v.Indet else part_under data_type (part x)
