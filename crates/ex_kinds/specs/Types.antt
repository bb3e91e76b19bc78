-- What the defined types of a schema stand for, and what a value may be in the end.
use Rattle.std.specs.Prelude.{ℕ, zero, suc, Bool, true, false, ◌||◌, ◌&&◌, ◌==◌, nat_lt, length, is_some, List, [], ◌∷◌, map, filter, Option, Some, None, slice_index_or}
use Rattle.std.specs.List.{list_any, flat_map, filter_map}
use Rattle.plain_data.specs.Numbers.{numbered}
use Rattle.ex_named.specs.declared.declaration.NamedType.{NamedType}
use Rattle.ex_named.specs.declared.declaration.NamedUnderlying.{NamedUnderlying}
use Rattle.ex_named.specs.declared.declaration.NamedUnderlying.TheVariants as u
use Rattle.graphs.specs.Graphs.{family}
use Rattle.ex_kinds.specs.declared.kind.ValueKind.{ValueKind}
use Rattle.ex_kinds.specs.declared.kind.Sort.{Sort}
use Rattle.ex_kinds.specs.declared.kind.Sort.TheVariants as k
use Rattle.ex_kinds.specs.declared.kind.PlainSort.{PlainSort}
use Rattle.ex_kinds.specs.declared.kind.PlainSort.TheVariants as p
use Rattle.ex_kinds.specs.Kinds.{Kinds, itself, of_name, of_type, shallower}
use Rattle.ex_renamings.specs.Leading.{is_marked, leading}

-- ---- defined types

-- what a value of a defined type may be by its declaration: an enumeration is a kind of its own
abbrev pub of_underlying : ℕ → NamedUnderlying → Kinds
of_underlying n (u.Enumeration items) = itself (k.Enumeration n) ∷ []
of_underlying n (u.Select members) = map of_name members
of_underlying n (u.Data data_type) = of_type data_type

-- of each defined type what its declaration says
unfoldable pub of_types : List NamedType → List Kinds
of_types = numbered (λ n x. of_underlying n x.underlying)

abbrev pub defined_of : Sort → Option ℕ
defined_of (k.Defined n) = Some n
defined_of _ = None

abbrev pub alternative_at : ℕ → Sort → Option ℕ
alternative_at zero sort = defined_of sort
alternative_at (suc depth) sort = None

-- the type that the value itself is of
abbrev pub alternative : ValueKind → Option ℕ
alternative kind = alternative_at kind.depth kind.sort

-- the type that the value or its elements, at any depth, are of
abbrev pub mentioned : ValueKind → Option ℕ
mentioned kind = defined_of kind.sort

-- of each type the types that it is, by renaming or by selection
abbrev pub alternatives : List Kinds → List (List ℕ)
alternatives types = map (filter_map alternative) types

-- of each type the types that it is or that its elements are, at any depth
abbrev pub held : List Kinds → List (List ℕ)
held types = map (filter_map mentioned) types

abbrev pub is_instance : Sort → Bool
is_instance (k.Entity n) = true
is_instance k.Instance = true
is_instance k.Generic = true
is_instance _ = false

abbrev pub stays : Option ℕ → Bool
stays None = true
stays (Some n) = false

-- whether one that is of no defined type itself passes
abbrev pub declares : (ValueKind → Bool) → Kinds → Bool
declares test = list_any (λ kind. stays (alternative kind) && test kind)

-- whether it has elements
abbrev pub has_elements : ValueKind → Bool
has_elements kind = is_some (shallower kind)

-- whether one of them is an instance of an entity
abbrev pub has_instance : Kinds → Bool
has_instance = list_any (λ kind. is_instance kind.sort)

-- those that are of no defined type themselves
abbrev pub own : Kinds → Kinds
own = filter (λ kind. stays (alternative kind))

module _ (types : List Kinds) where
  abbrev pub declared : ℕ → Kinds
  declared n = slice_index_or types n []

  -- ---- what a value may be in the end

  abbrev pub meanings_by : ValueKind → Option ℕ → Kinds
  meanings_by kind None = kind ∷ []
  meanings_by kind (Some n) = flat_map (λ m. own (declared m)) (family (alternatives types) n)

  abbrev pub meanings : ValueKind → Kinds
  meanings kind = meanings_by kind (alternative kind)

  -- the kinds, where each defined type that the value itself may be of stands for what it is
  unfoldable pub plain : Kinds → Kinds
  plain = flat_map meanings

  -- ---- instances of entities at any depth

  abbrev pub declared_instance : ℕ → Bool
  declared_instance n = has_instance (declared n)

  abbrev pub type_holds_instance : Option ℕ → Bool
  type_holds_instance None = false
  type_holds_instance (Some n) = list_any declared_instance (family (held types) n)

  abbrev pub kind_holds_instance : ValueKind → Bool
  kind_holds_instance kind = is_instance kind.sort || type_holds_instance (mentioned kind)

  -- of which types a value may hold an instance of an entity at any depth
  unfoldable pub holding : List Bool
  holding = leading (held types) (map has_instance types)

  -- whether a value may hold an instance of an entity at any depth
  unfoldable pub may_hold_instance : Kinds → Bool
  may_hold_instance = list_any kind_holds_instance

-- ---- tests on what a value may be in the end

-- whether a value may hold an instance of an entity at any depth, given the types that do
abbrev pub holds_at : List Bool → Sort → Option ℕ → Bool
holds_at marks sort None = is_instance sort
holds_at marks sort (Some n) = is_marked marks n

abbrev pub holds_by : List Bool → ValueKind → Bool
holds_by marks kind = holds_at marks kind.sort (mentioned kind)

-- the sorts in their order
abbrev pub all_sorts : List PlainSort
all_sorts = p.Integer ∷ p.Real ∷ p.String ∷ p.Binary ∷ p.Logical ∷ p.Enumeration ∷ p.Instance ∷ p.Aggregate ∷ p.Generic ∷ []

module _ (types : List Kinds) where
  -- whether a type, or one that it is by renaming or by selection, declares a kind that passes
  unfoldable pub meeting : (ValueKind → Bool) → List Bool
  meeting test = leading (alternatives types) (map (declares test) types)

  -- whether one of what a kind stands for passes
  unfoldable pub some_meaning : (ValueKind → Bool) → ValueKind → Bool
  some_meaning test kind = list_any test (meanings types kind)

  -- whether one of what kinds stand for passes
  unfoldable pub some_plain : (ValueKind → Bool) → Kinds → Bool
  some_plain test kinds = list_any test (plain types kinds)

-- ---- what is possible

-- Which kinds a value may be of, defined types aside, and the types of its enumerations.
pub record Possible : Type 0 where
  pub integer : Bool
  pub real : Bool
  pub string : Bool
  pub binary : Bool
  pub logical : Bool
  pub instance : Bool
  pub aggregate : Bool
  pub generic : Bool
  pub enumerations : List ℕ

abbrev pub is_sort : PlainSort → Sort → Bool
is_sort p.Integer k.Integer = true
is_sort p.Real k.Real = true
is_sort p.String k.String = true
is_sort p.Binary k.Binary = true
is_sort p.Logical k.Logical = true
is_sort p.Enumeration (k.Enumeration n) = true
is_sort p.Instance (k.Entity n) = true
is_sort p.Instance k.Instance = true
is_sort p.Aggregate k.Aggregate = true
is_sort p.Generic k.Generic = true
is_sort _ _ = false

-- whether the value itself is of the sort
abbrev pub is_value : PlainSort → ValueKind → Bool
is_value sort kind = (kind.depth == zero) && is_sort sort kind.sort

abbrev pub enumeration_at : ℕ → Sort → Option ℕ
enumeration_at zero (k.Enumeration n) = Some n
enumeration_at _ _ = None

-- the enumeration that the value itself is of
abbrev pub enumeration : ValueKind → Option ℕ
enumeration kind = enumeration_at kind.depth kind.sort

-- what the value itself may be, of these kinds, which are plain
unfoldable pub possible : Kinds → Possible
possible kinds = record {
  integer = list_any (is_value p.Integer) kinds;
  real = list_any (is_value p.Real) kinds;
  string = list_any (is_value p.String) kinds;
  binary = list_any (is_value p.Binary) kinds;
  logical = list_any (is_value p.Logical) kinds;
  instance = list_any (is_value p.Instance) kinds;
  aggregate = list_any (is_value p.Aggregate) kinds;
  generic = list_any (is_value p.Generic) kinds;
  enumerations = filter_map enumeration kinds;
}

-- whether a value of the sort is possible
abbrev pub can_be : Possible → PlainSort → Bool
can_be found p.Integer = found.integer
can_be found p.Real = found.real
can_be found p.String = found.string
can_be found p.Binary = found.binary
can_be found p.Logical = found.logical
can_be found p.Enumeration = nat_lt zero (length found.enumerations)
can_be found p.Instance = found.instance
can_be found p.Aggregate = found.aggregate
can_be found p.Generic = found.generic
