-- Types of attributes, constants, variables, parameters and results (ISO 10303-11:1994, clause 8).
use Rattle.std.specs.Prelude.{ℕ, zero, suc, ◌-◌, Bool, true, false, Option, Some, None, if◌then◌else◌}
use Rattle.text_forms.specs.Forms.{◌>>=◌, ◌>>◌, ◌<$>◌, pure}
use Rattle.ex_tree.specs.declared.kind.TokenKind.{TokenKind}
use Rattle.ex_tree.specs.declared.kind.TokenKind.TheVariants as k
use Rattle.ex_tree.specs.declared.data_type.Width.{Width}
use Rattle.ex_tree.specs.declared.data_type.Bounds.{Bounds}
use Rattle.ex_tree.specs.declared.data_type.ArrayBounds.{ArrayBounds}
use Rattle.ex_tree.specs.declared.data_type.SimpleType.{SimpleType}
use Rattle.ex_tree.specs.declared.data_type.SimpleType.TheVariants as simple
use Rattle.ex_tree.specs.declared.data_type.DataType.{DataType}
use Rattle.ex_tree.specs.declared.data_type.DataType.TheVariants as t
use Rattle.ex_forms.specs.Input.{Parser, sees, next_is, peek, expect, enter, eat, optional, refuse, name, whole}

-- ---- widths and bounds, where so many levels are left

-- `(length)` or `(length) FIXED`
unfoldable pub width_spec : ℕ → Parser Width
width_spec levels = do
  enter levels k.OpenParenthesis
  length ← whole
  expect k.CloseParenthesis
  fixed ← eat k.Fixed
  pure (record { length = length; fixed = fixed })

unfoldable pub width : ℕ → Parser (Option Width)
width levels = optional (sees k.OpenParenthesis) (width_spec levels)

-- `[low:high]`
unfoldable pub array_bound_spec : ℕ → Parser ArrayBounds
array_bound_spec levels = do
  enter levels k.OpenBracket
  low ← whole
  expect k.Colon
  high ← whole
  expect k.CloseBracket
  pure (record { low = low; high = high })

-- a whole number, or none where `?` stands
unfoldable pub high_bound : Parser (Option ℕ)
high_bound = do
  is_unlimited ← eat k.QuestionMark
  if is_unlimited then pure None else (Some <$> whole)

-- `[low:high]` or `[low:?]`
unfoldable pub bound_spec : ℕ → Parser Bounds
bound_spec levels = do
  enter levels k.OpenBracket
  low ← whole
  expect k.Colon
  high ← high_bound
  expect k.CloseBracket
  pure (record { low = low; high = high })

-- `[0:?]`
abbrev pub any_count : Bounds
any_count = record { low = 0; high = None }

unfoldable pub optional_bounds : ℕ → Parser Bounds
optional_bounds levels = do
  are_there ← next_is k.OpenBracket
  if are_there then bound_spec levels else pure any_count

-- ---- types that hold no other type

-- the type whose only token is this word
abbrev pub word : TokenKind → SimpleType → Parser SimpleType
word k simple_type = expect k >> pure simple_type

abbrev pub simple_type_by : ℕ → TokenKind → Parser SimpleType
simple_type_by levels k.Binary = expect k.Binary >> (simple.Binary <$> width levels)
simple_type_by levels k.Boolean = word k.Boolean simple.Boolean
simple_type_by levels k.Integer = word k.Integer simple.Integer
simple_type_by levels k.Logical = word k.Logical simple.Logical
simple_type_by levels k.Number = word k.Number simple.Number
simple_type_by levels k.Real = word k.Real simple.Real
simple_type_by levels k.String = expect k.String >> (simple.String <$> width levels)
simple_type_by levels _ = refuse

unfoldable pub simple_types : ℕ → Parser SimpleType
simple_types levels = peek >>= simple_type_by levels

-- `: label`, of which nothing is kept
unfoldable pub optional_label : Parser (Unit {0})
optional_label = do
  is_there ← eat k.Colon
  if is_there then (expect k.Identifier >> pure tt) else pure tt

unfoldable pub generic_type : Parser DataType
generic_type = do
  expect k.Generic
  optional_label
  pure t.Generic

-- ---- aggregates: so many levels are left, and `element_type` reads a type one level down

module _ (levels : ℕ) (element_type : Parser DataType) where
  unfoldable pub array_type : Parser DataType
  array_type = do
    enter levels k.Array
    bounds ← array_bound_spec (levels - 1)
    expect k.Of
    is_optional ← eat k.Optional
    is_unique ← eat k.Unique
    element ← element_type
    pure (t.Array bounds is_optional is_unique element)

  unfoldable pub list_type : Parser DataType
  list_type = do
    enter levels k.List
    bounds ← optional_bounds (levels - 1)
    expect k.Of
    is_unique ← eat k.Unique
    element ← element_type
    pure (t.List bounds is_unique element)

  unfoldable pub bag_type : Parser DataType
  bag_type = do
    enter levels k.Bag
    bounds ← optional_bounds (levels - 1)
    expect k.Of
    element ← element_type
    pure (t.Bag bounds element)

  unfoldable pub set_type : Parser DataType
  set_type = do
    enter levels k.Set
    bounds ← optional_bounds (levels - 1)
    expect k.Of
    element ← element_type
    pure (t.Set bounds element)

  unfoldable pub aggregate_type : Parser DataType
  aggregate_type = do
    enter levels k.Aggregate
    optional_label
    expect k.Of
    element ← element_type
    pure (t.Aggregate element)

  -- The flag says whether AGGREGATE and GENERIC may stand.
  abbrev pub data_type_by : Bool → TokenKind → Parser DataType
  data_type_by general k.Array = array_type
  data_type_by general k.List = list_type
  data_type_by general k.Bag = bag_type
  data_type_by general k.Set = set_type
  data_type_by general k.Aggregate = if general then aggregate_type else refuse
  data_type_by general k.Generic = if general then generic_type else refuse
  data_type_by general k.Identifier = t.Named <$> name
  data_type_by general _ = t.Simple <$> simple_types levels

  unfoldable pub data_type_over : Bool → Parser DataType
  data_type_over general = peek >>= data_type_by general

-- ---- types at any depth

unfoldable pub data_type : Bool → ℕ → Parser DataType
data_type general zero = data_type_over zero refuse general
data_type general (suc n) = data_type_over (suc n) (data_type general n) general

-- the type one level down
abbrev pub below : Bool → ℕ → Parser DataType
below general zero = refuse
below general (suc n) = data_type general n

-- of attributes, constants, variables and defined types
abbrev pub base_type : ℕ → Parser DataType
base_type = data_type false

-- of parameters and results
abbrev pub parameter_type : ℕ → Parser DataType
parameter_type = data_type true
