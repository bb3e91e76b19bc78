-- Defined types by the values of a file that they take.
use Rattle.std.specs.Prelude.{ℕ, Bool, true, false, List, slice_index_or}
use Rattle.plain_data.specs.Numbers.{numbered}
use Rattle.ex_tree.specs.declared.data_type.SimpleType.{SimpleType}
use Rattle.ex_tree.specs.declared.data_type.SimpleType.TheVariants as s
use Rattle.ex_named.specs.declared.declaration.NamedType.{NamedType}
use Rattle.ex_selects.specs.declared.sorts.Class.{Class}
use Rattle.ex_selects.specs.declared.sorts.Class.TheVariants as c
use Rattle.ex_selects.specs.declared.sorts.Sort.{Sort}
use Rattle.ex_selects.specs.declared.sorts.Sort.TheVariants as sort
use Rattle.ex_selects.specs.Ends.{Base, Plain, Instance, Aggregate, Enumeration, Select, Nothing, base_of}

abbrev pub of_simple : SimpleType → Sort
of_simple s.Integer = sort.Integer
of_simple s.Number = sort.Number
of_simple s.Real = sort.Real
of_simple (s.String width) = sort.Text
of_simple (s.Binary width) = sort.Binary
of_simple s.Boolean = sort.Item
of_simple s.Logical = sort.Item

-- what a type takes that is no SELECT
abbrev pub of_base : Base → Sort
of_base (Plain simple) = of_simple simple
of_base (Enumeration number) = sort.Item
of_base (Aggregate kind low element) = sort.List
of_base Instance = sort.Nothing
of_base (Select number) = sort.Nothing
of_base Nothing = sort.Nothing

abbrev pub sort_of : List NamedType → ℕ → Sort
sort_of types number = of_base (base_of types number)

unfoldable pub all_sorts : List NamedType → List Sort
all_sorts types = numbered (λ number x. sort_of types number) types

abbrev pub sort_at : List Sort → ℕ → Sort
sort_at sorts number = slice_index_or sorts number sort.Nothing

abbrev pub is_of : Class → Sort → Bool
is_of c.Plain sort.Integer = true
is_of c.Plain sort.Number = true
is_of c.Plain sort.Real = true
is_of c.Plain sort.Text = true
is_of c.Plain sort.Binary = true
is_of c.Items sort.Item = true
is_of c.Lists sort.List = true
is_of _ _ = false
