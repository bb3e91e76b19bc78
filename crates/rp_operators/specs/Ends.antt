-- Declared types, as the code has them.
use Rattle.std.specs.Prelude.{Bool, true, false, pos, List, [], map, not, ◌||◌, Option, Some, None, if◌then◌else◌}
use Rattle.ex_named.specs.declared.expression.NamedDataType.{NamedDataType, NamedDataType-F, out-NamedDataType}
use Rattle.ex_named.specs.declared.reference.TypeName.TheVariants as t
use Rattle.rp_meaning.specs.Bare.{carried, is_indeterminate}
use Rattle.rp_meaning.specs.Types as types
use Rattle.rp_meaning.specs.declared.schema.DefinedType.{DefinedType}
use Rattle.rp_operators.specs.declared.ends.AggregateType.{AggregateType}
use Rattle.rp_operators.specs.declared.ends.End.{End}
use Rattle.rp_operators.specs.declared.ends.End.TheVariants as e
use Rattle.rp_value.specs.Elements.{Elements}
use Rattle.rp_value.specs.declared.value.AggregateKind.{AggregateKind}
use Rattle.rp_value.specs.declared.value.AggregateKind.TheVariants as k
use Rattle.rp_value.specs.declared.value.Value.{Value}
use Rattle.rp_value.specs.declared.value.Value.TheOpen.{Value-F}
use Rattle.rp_value.specs.declared.value.Value.TheVariants as v

abbrev pub end_behind : End → types.End
end_behind (e.Enumeration number) = types.Enumeration number
end_behind (e.Select choices) = types.Select choices.now
end_behind (e.Written data_type) = types.Written data_type.now
end_behind (e.Absent number) = types.Written (types.defined number)

abbrev pub aggregate_type_behind : AggregateType → types.AggregateType
aggregate_type_behind a = record { kind = a.kind; element = a.element.now }

module _ (defined : List DefinedType) where
  -- a value once the type of the elements in it is said
  abbrev pub inside : Option types.AggregateType → Value → Value
  inside declared x = (types.part defined x).inside declared

  -- a value of the kind of a type, as it is read through that
  abbrev pub under : NamedDataType → Value → Value
  under data_type x = types.named_in defined (out-NamedDataType data_type) (inside (types.inner_by defined (types.end defined data_type) (carried x)) x)

  -- an element that doesn't fit stays as it is
  abbrev pub element_under : NamedDataType → Value → Value
  element_under data_type x = if is_indeterminate x || not (types.fits defined data_type x) then x else under data_type x

  abbrev pub elements_under : Option types.AggregateType → AggregateKind → Elements Value → Value
  elements_under None kind xs = v.Agg kind xs
  elements_under (Some a) kind xs = types.as_aggregate a.kind kind xs.low (map (element_under a.element) xs.items)

-- whether a type without a name takes a value without one that is not `?`
abbrev pub takes : NamedDataType-F NamedDataType → Value-F Value → Bool
takes (NamedDataType-F.Simple simple) x = types.is_of_simple simple x
takes (NamedDataType-F.Named (t.Entity entity)) x = types.is_instance x
takes NamedDataType-F.Generic x = true
takes _ x = false

-- a type takes all aggregates, or none
abbrev pub an_aggregate : Value-F Value
an_aggregate = Value-F.Agg k.List (record { low = pos 1; items = [] })
