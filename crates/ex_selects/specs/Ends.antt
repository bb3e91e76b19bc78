-- What declared types are in the end, behind all names (ISO 10303-11:1994, clauses 8 and 9.1), and what SELECTs choose from.
use Rattle.std.specs.Prelude.{ℕ, pos, ℤ, Bool, true, false, not, ◌^◌, nat_lt, if◌then◌else◌, List, [], filter, Option, Some, None, slice_get}
use Rattle.std.specs.List.{filter_map, list_any}
use Rattle.std.specs.Option.{option_map_or}
use Rattle.plain_data.specs.Numbers.{numbered}
use Rattle.ex_tree.specs.declared.data_type.SimpleType.{SimpleType}
use Rattle.ex_named.specs.declared.declaration.NamedType.{NamedType}
use Rattle.ex_named.specs.declared.declaration.NamedUnderlying.{NamedUnderlying}
use Rattle.ex_named.specs.declared.declaration.NamedUnderlying.TheVariants as u
use Rattle.ex_named.specs.declared.expression.NamedDataType.{NamedDataType, NamedDataType-F, out-NamedDataType}
use Rattle.ex_named.specs.declared.reference.TypeName.{TypeName}
use Rattle.ex_named.specs.declared.reference.TypeName.TheVariants as t
use Rattle.ex_renamings.specs.Renamings.{end, is_select}
use Rattle.graphs.specs.Graphs.{family}
use Rattle.rp_value.specs.declared.value.AggregateKind.{AggregateKind}
use Rattle.rp_value.specs.declared.value.AggregateKind.TheVariants as aggregate

-- A type behind all names: a simple type, instances, an aggregate with the index of its first element and its elements' type,
-- the enumeration or the SELECT of this number. Nothing is what files write no value of.
pub data Base : Type 0 where
  Plain : SimpleType → Base
  Instance : Base
  Aggregate : AggregateKind → ℤ → NamedDataType → Base
  Enumeration : ℕ → Base
  Select : ℕ → Base
  Nothing : Base

-- A type as a value is read by it: the defined type whose name may stand before the value, and what it is in the end.
pub record Target : Type 0 where
  pub name : Option ℕ
  pub base : Base

-- an index is a value of INTEGER
abbrev pub array_from : ℕ → NamedDataType → Base
array_from low element = if nat_lt low (2 ^ 63) then Aggregate aggregate.Array (pos low) element else Nothing

-- a type that is no defined one; elements of a LIST, a BAG and a SET count from 1
abbrev pub base_by_form : NamedDataType-F NamedDataType → Base
base_by_form (NamedDataType-F.Simple simple) = Plain simple
base_by_form (NamedDataType-F.Named (t.Entity entity)) = Instance
base_by_form (NamedDataType-F.Named (t.Defined number)) = Nothing
base_by_form (NamedDataType-F.Array bounds optional unique element) = array_from bounds.low element
base_by_form (NamedDataType-F.List bounds unique element) = Aggregate aggregate.List (pos 1) element
base_by_form (NamedDataType-F.Bag bounds element) = Aggregate aggregate.Bag (pos 1) element
base_by_form (NamedDataType-F.Set bounds element) = Aggregate aggregate.Set (pos 1) element
base_by_form (NamedDataType-F.Aggregate element) = Nothing
base_by_form NamedDataType-F.Generic = Nothing

abbrev pub base_by : ℕ → NamedUnderlying → Base
base_by number (u.Enumeration items) = Enumeration number
base_by number (u.Select members) = Select number
base_by number (u.Data data_type) = base_by_form (out-NamedDataType data_type)

-- a SELECT has its own name alone, and not that of one that it renames
abbrev pub beneath : Target → Target
beneath x = elim (x.base) [ Select number ↦ record { name = None; base = x.base } | _ ↦ x ]

-- ---- what SELECTs list

abbrev pub defined : TypeName → Option ℕ
defined (t.Entity entity) = None
defined (t.Defined number) = Some number

abbrev pub is_entity : TypeName → Bool
is_entity (t.Entity entity) = true
is_entity (t.Defined number) = false

abbrev pub members_by : NamedUnderlying → List TypeName
members_by (u.Select members) = members
members_by _ = []

module _ (types : List NamedType) where
  abbrev pub base_at : ℕ → Base
  base_at number = option_map_or (λ x. base_by number x.underlying) (slice_get types number) Nothing

  abbrev pub base_of : ℕ → Base
  base_of number = base_at (end types number)

  abbrev pub target_by : NamedDataType-F NamedDataType → Target
  target_by (NamedDataType-F.Named (t.Defined number)) = record { name = Some number; base = base_of number }
  target_by form = record { name = None; base = base_by_form form }

  unfoldable pub target : NamedDataType → Target
  target data_type = target_by (out-NamedDataType data_type)

  abbrev pub inside_by : ℕ → NamedUnderlying → Target
  inside_by number (u.Data data_type) = beneath (target data_type)
  inside_by number underlying = record { name = None; base = base_by number underlying }

  -- what stands behind the name of a defined type: the type that its declaration says
  unfoldable pub inside : ℕ → Target
  inside number = option_map_or (λ x. inside_by number x.underlying) (slice_get types number) (record { name = None; base = Nothing })

  -- ---- what SELECTs choose from

  -- the members of the SELECT that a type is; a type that is no SELECT has none
  abbrev pub members : ℕ → List TypeName
  members number = option_map_or (λ x. members_by x.underlying) (slice_get types (end types number)) []

  -- of each type the defined types among its members
  unfoldable pub selection : List (List ℕ)
  selection = numbered (λ number x. filter_map defined (members number)) types

  -- the defined types that a value of a SELECT may be of, those of a SELECT in it in its place, each once
  unfoldable pub choices : ℕ → List ℕ
  choices number = filter (λ k. not (is_select types k)) (family selection number)

  -- whether it, or a SELECT in it, lists an entity
  unfoldable pub chooses_instances : ℕ → Bool
  chooses_instances number = list_any (λ k. list_any is_entity (members k)) (family selection number)
