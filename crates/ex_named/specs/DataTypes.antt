-- Types with their names bound.
use Rattle.ex_tree.specs.declared.data_type.DataType.{DataType}
use Rattle.ex_tree.specs.declared.data_type.DataType.TheFolds.{fold-DataType}
use Rattle.ex_tree.specs.declared.data_type.DataType.TheOpen.{DataType-F}
use Rattle.ex_named.specs.declared.expression.NamedDataType.{NamedDataType}
use Rattle.ex_named.specs.declared.expression.NamedDataType.TheVariants as n
use Rattle.std.specs.Prelude.{Ok}
use Rattle.ex_named.specs.Outcomes.{Outcome, given}
use Rattle.ex_named.specs.Scopes.{Declarations, type_name}

module _ (schema : Declarations) where
  -- a type, given its elements' types
  abbrev pub data_type_layer : DataType-F (Outcome NamedDataType) → Outcome NamedDataType
  data_type_layer (DataType-F.Simple simple) = Ok (n.Simple simple)
  data_type_layer (DataType-F.Named name) = given n.Named (type_name schema name)
  data_type_layer (DataType-F.Array bounds optional unique element) = given (n.Array bounds optional unique) element
  data_type_layer (DataType-F.List bounds unique element) = given (n.List bounds unique) element
  data_type_layer (DataType-F.Bag bounds element) = given (n.Bag bounds) element
  data_type_layer (DataType-F.Set bounds element) = given (n.Set bounds) element
  data_type_layer (DataType-F.Aggregate element) = given n.Aggregate element
  data_type_layer DataType-F.Generic = Ok n.Generic

  unfoldable pub data_type : DataType → Outcome NamedDataType
  data_type = fold-DataType (Outcome NamedDataType) data_type_layer
