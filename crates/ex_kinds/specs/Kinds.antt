-- What a value may be: the kinds of a declared type (ISO 10303-11:1994, clause 8).
-- A list of kinds stands for a set. `?` has none. Of an aggregate it says that it is one, and, one deeper, what its
-- elements may be.
use Rattle.std.specs.Prelude.{ℕ, zero, suc, Bool, true, false, ◌==◌, ◌&&◌, List, [], ◌∷◌, ◌++◌, map, filter, Option, Some, None, if◌then◌else◌}
use Rattle.std.specs.List.{list_any, filter_map}
use Rattle.ex_tree.specs.declared.data_type.SimpleType.{SimpleType}
use Rattle.ex_tree.specs.declared.data_type.SimpleType.TheVariants as s
use Rattle.ex_named.specs.declared.expression.NamedDataType.{NamedDataType}
use Rattle.ex_named.specs.declared.expression.NamedDataType.TheFolds.{fold-NamedDataType}
use Rattle.ex_named.specs.declared.expression.NamedDataType.TheOpen.{NamedDataType-F}
use Rattle.ex_named.specs.declared.reference.TypeName.{TypeName}
use Rattle.ex_named.specs.declared.reference.TypeName.TheVariants as t
use Rattle.ex_kinds.specs.declared.kind.ValueKind.{ValueKind}
use Rattle.ex_kinds.specs.declared.kind.Sort.{Sort}
use Rattle.ex_kinds.specs.declared.kind.Sort.TheVariants as k

abbrev pub Kinds : Type 0
Kinds = List ValueKind

-- what the value itself may be
abbrev pub itself : Sort → ValueKind
itself sort = record { depth = zero; sort = sort }

-- what the elements of an aggregate may be
abbrev pub deeper : ValueKind → ValueKind
deeper kind = record { depth = suc kind.depth; sort = kind.sort }

abbrev pub aggregate_of : Kinds → Kinds
aggregate_of elements = itself k.Aggregate ∷ map deeper elements

-- ---- of declared types

-- NUMBER is either of two, and BOOLEAN is LOGICAL without UNKNOWN
abbrev pub of_simple : SimpleType → Kinds
of_simple (s.Binary width) = itself k.Binary ∷ []
of_simple s.Boolean = itself k.Logical ∷ []
of_simple s.Integer = itself k.Integer ∷ []
of_simple s.Logical = itself k.Logical ∷ []
of_simple s.Number = itself k.Integer ∷ itself k.Real ∷ []
of_simple s.Real = itself k.Real ∷ []
of_simple (s.String width) = itself k.String ∷ []

abbrev pub of_name : TypeName → ValueKind
of_name (t.Entity n) = itself (k.Entity n)
of_name (t.Defined n) = itself (k.Defined n)

abbrev pub of_layer : NamedDataType-F Kinds → Kinds
of_layer (NamedDataType-F.Simple simple) = of_simple simple
of_layer (NamedDataType-F.Named name) = of_name name ∷ []
of_layer (NamedDataType-F.Array bounds optional unique element) = aggregate_of element
of_layer (NamedDataType-F.List bounds unique element) = aggregate_of element
of_layer (NamedDataType-F.Bag bounds element) = aggregate_of element
of_layer (NamedDataType-F.Set bounds element) = aggregate_of element
of_layer (NamedDataType-F.Aggregate element) = aggregate_of element
of_layer NamedDataType-F.Generic = itself k.Generic ∷ []

-- what a value of a declared type may be
unfoldable pub of_type : NamedDataType → Kinds
of_type = fold-NamedDataType Kinds of_layer

-- ---- sets

abbrev pub same_sort : Sort → Sort → Bool
same_sort k.Integer k.Integer = true
same_sort k.Real k.Real = true
same_sort k.String k.String = true
same_sort k.Binary k.Binary = true
same_sort k.Logical k.Logical = true
same_sort k.Aggregate k.Aggregate = true
same_sort (k.Enumeration m) (k.Enumeration n) = m == n
same_sort (k.Defined m) (k.Defined n) = m == n
same_sort (k.Entity m) (k.Entity n) = m == n
same_sort k.Instance k.Instance = true
same_sort k.Generic k.Generic = true
same_sort _ _ = false

abbrev pub same : ValueKind → ValueKind → Bool
same a b = (a.depth == b.depth) && same_sort a.sort b.sort

abbrev pub with_kind : Kinds → ValueKind → Kinds
with_kind kinds kind = if list_any (λ other. same other kind) kinds then kinds else kinds ++ kind ∷ []

-- those of the first, and those of the second that are not yet there
abbrev pub joined : Kinds → Kinds → Kinds
joined kinds [] = kinds
joined kinds (kind ∷ others) = joined (with_kind kinds kind) others

-- ---- elements

abbrev pub shallower_at : ℕ → Sort → Option ValueKind
shallower_at (suc depth) sort = Some (record { depth = depth; sort = sort })
shallower_at zero k.Generic = Some (itself k.Generic)
shallower_at zero _ = None

abbrev pub shallower : ValueKind → Option ValueKind
shallower kind = shallower_at kind.depth kind.sort

-- what the elements may be, where it is an aggregate
abbrev pub elements : Kinds → Kinds
elements kinds = joined [] (filter_map shallower kinds)

abbrev pub is_element_at : ℕ → Sort → Bool
is_element_at zero k.Aggregate = false
is_element_at zero _ = true
is_element_at (suc depth) _ = false

-- what it may be where it is no aggregate
abbrev pub apart : Kinds → Kinds
apart = filter (λ kind. is_element_at kind.depth kind.sort)
