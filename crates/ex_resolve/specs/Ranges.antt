-- The numbers of a schema whose names are bound: each is that of one of its declarations, or of a variable that is open.
use Rattle.std.specs.Prelude.{ℕ, zero, suc, Bool, true, ◌&&◌, nat_lt, IsTrue, List, ◌++◌, length, map, filter, Option, Some, None, slice_index_or}
use Rattle.std.specs.List.{list_all, flat_map}
use Rattle.ex_named.specs.declared.declaration.NamedAttribute.{NamedAttribute}
use Rattle.ex_named.specs.declared.declaration.NamedAttribute.TheVariants as na
use Rattle.ex_named.specs.declared.declaration.NamedConstant.{NamedConstant}
use Rattle.ex_named.specs.declared.declaration.NamedDerived.{NamedDerived}
use Rattle.ex_named.specs.declared.declaration.NamedDomainRule.{NamedDomainRule}
use Rattle.ex_named.specs.declared.declaration.NamedEntity.{NamedEntity}
use Rattle.ex_named.specs.declared.declaration.NamedExplicit.{NamedExplicit}
use Rattle.ex_named.specs.declared.declaration.NamedFunction.{NamedFunction}
use Rattle.ex_named.specs.declared.declaration.NamedInverse.{NamedInverse}
use Rattle.ex_named.specs.declared.declaration.NamedLocal.{NamedLocal}
use Rattle.ex_named.specs.declared.declaration.NamedRule.{NamedRule}
use Rattle.ex_named.specs.declared.declaration.NamedSchema.{NamedSchema}
use Rattle.ex_named.specs.declared.declaration.NamedSupertype.{NamedSupertype}
use Rattle.ex_named.specs.declared.declaration.NamedSupertype.TheFolds.{fold-NamedSupertype}
use Rattle.ex_named.specs.declared.declaration.NamedSupertype.TheOpen.{NamedSupertype-F}
use Rattle.ex_named.specs.declared.declaration.NamedType.{NamedType}
use Rattle.ex_named.specs.declared.declaration.NamedUnderlying.{NamedUnderlying}
use Rattle.ex_named.specs.declared.declaration.NamedUnderlying.TheVariants as u
use Rattle.ex_named.specs.declared.declaration.NamedUniqueRule.{NamedUniqueRule}
use Rattle.ex_named.specs.declared.expression.NamedDataType.{NamedDataType}
use Rattle.ex_named.specs.declared.expression.NamedDataType.TheFolds.{fold-NamedDataType}
use Rattle.ex_named.specs.declared.expression.NamedDataType.TheOpen.{NamedDataType-F}
use Rattle.ex_named.specs.declared.expression.NamedExpression.{NamedExpression}
use Rattle.ex_named.specs.declared.expression.NamedExpression.TheFolds.{fold-NamedExpression}
use Rattle.ex_named.specs.declared.expression.NamedExpression.TheOpen.{NamedExpression-F, NamedQualifier-F, NamedInterval-F, NamedOperation-F, NamedQuery-F}
use Rattle.ex_named.specs.declared.statement.NamedIncrement.{NamedIncrement}
use Rattle.ex_named.specs.declared.statement.NamedRepeatControl.{NamedRepeatControl}
use Rattle.ex_named.specs.declared.statement.NamedStatement.{NamedStatement}
use Rattle.ex_named.specs.declared.statement.NamedStatement.TheFolds.{fold-NamedStatement}
use Rattle.ex_named.specs.declared.statement.NamedStatement.TheOpen.{NamedStatement-F, NamedCaseAction-F, NamedCase-F}
use Rattle.ex_named.specs.declared.reference.AttributeMeaning.{AttributeMeaning}
use Rattle.ex_named.specs.declared.reference.AttributeMeaning.TheVariants as m
use Rattle.ex_named.specs.declared.reference.AttributePlace.{AttributePlace}
use Rattle.ex_named.specs.declared.reference.AttributeSort.{AttributeSort}
use Rattle.ex_named.specs.declared.reference.AttributeSort.TheVariants.{Explicit, Derived, Inverse}
use Rattle.ex_named.specs.declared.reference.AttributeUse.{AttributeUse}
use Rattle.ex_named.specs.declared.reference.EnumerationItem.{EnumerationItem}
use Rattle.ex_named.specs.declared.reference.TypeName.{TypeName}
use Rattle.ex_named.specs.declared.reference.TypeName.TheVariants as t
use Rattle.ex_resolve.specs.Schemas.{is_own}

-- Which numbers are those of a declaration.
pub record Range : Type 0 where
  pub constant : ℕ → Bool
  pub type : ℕ → Bool
  pub entity : ℕ → Bool
  pub function : ℕ → Bool
  pub item : EnumerationItem → Bool
  pub attribute : AttributePlace → Bool

-- ---- what a schema declares

-- how many items a type has
abbrev pub item_count : NamedUnderlying → ℕ
item_count (u.Enumeration items) = length items
item_count (u.Select members) = zero
item_count (u.Data data_type) = zero

-- how many attributes an entity declares so: a redeclared one is none of its own
abbrev pub attribute_count : AttributeSort → NamedEntity → ℕ
attribute_count Explicit e = length (flat_map (λ x. filter is_own x.attributes) e.explicit)
attribute_count Derived e = length (filter (λ x. is_own x.attribute) e.derived)
attribute_count Inverse e = length e.inverse

-- a type or an entity that isn't there has no items or attributes
abbrev pub range_of : NamedSchema → Range
range_of schema = record {
  constant = λ k. nat_lt k (length schema.constants);
  type = λ k. nat_lt k (length schema.types);
  entity = λ k. nat_lt k (length schema.entities);
  function = λ k. nat_lt k (length schema.functions);
  item = λ i. nat_lt i.place (slice_index_or (map (λ x. item_count x.underlying) schema.types) i.type_number zero);
  attribute = λ a. nat_lt a.place (slice_index_or (map (attribute_count a.sort) schema.entities) a.entity zero);
}

-- ---- whether all numbers of a tree are in range

abbrev pub optional : {A : Type 0} → (A → Bool) → Option A → Bool
optional test None = true
optional test (Some a) = test a

-- where so many variables are open
abbrev pub InOpen : Type 0
InOpen = ℕ → Bool

abbrev pub all : List InOpen → InOpen
all parts = λ n. list_all (λ part. part n) parts

module _ (r : Range) where
  abbrev pub type_name : TypeName → Bool
  type_name (t.Entity k) = r.entity k
  type_name (t.Defined k) = r.type k

  abbrev pub meaning : AttributeMeaning → Bool
  meaning (m.One place) = r.attribute place
  meaning m.Several = true

  abbrev pub attribute_use : AttributeUse → Bool
  attribute_use x = meaning x.meaning

  abbrev pub data_type_layer : NamedDataType-F Bool → Bool
  data_type_layer (NamedDataType-F.Simple simple) = true
  data_type_layer (NamedDataType-F.Named name) = type_name name
  data_type_layer (NamedDataType-F.Array bounds optional unique element) = element
  data_type_layer (NamedDataType-F.List bounds unique element) = element
  data_type_layer (NamedDataType-F.Bag bounds element) = element
  data_type_layer (NamedDataType-F.Set bounds element) = element
  data_type_layer (NamedDataType-F.Aggregate element) = element
  data_type_layer NamedDataType-F.Generic = true

  unfoldable pub data_type : NamedDataType → Bool
  data_type = fold-NamedDataType Bool data_type_layer

  -- ---- expressions

  abbrev pub expression_layer : NamedExpression-F InOpen InOpen InOpen InOpen InOpen → InOpen
  expression_layer (NamedExpression-F.Literal value) = λ n. true
  expression_layer NamedExpression-F.Itself = λ n. true
  expression_layer NamedExpression-F.Indeterminate = λ n. true
  expression_layer (NamedExpression-F.Variable slot) = λ n. nat_lt slot n
  expression_layer (NamedExpression-F.«NamedExpression::Attribute» name) = λ n. attribute_use name
  expression_layer (NamedExpression-F.Constant number) = λ n. r.constant number
  expression_layer (NamedExpression-F.Population entity) = λ n. r.entity entity
  expression_layer (NamedExpression-F.Item item) = λ n. r.item item
  expression_layer (NamedExpression-F.AmbiguousItem at) = λ n. true
  expression_layer (NamedExpression-F.Call function at arguments) = λ n. r.function function && all arguments n
  expression_layer (NamedExpression-F.BuiltIn word at arguments) = all arguments
  expression_layer (NamedExpression-F.Qualified base qualifiers) = λ n. base n && all qualifiers n
  expression_layer (NamedExpression-F.Unary operator at operand) = operand
  expression_layer (NamedExpression-F.Chain left operations) = λ n. left n && all operations n
  expression_layer (NamedExpression-F.Interval interval) = interval
  expression_layer (NamedExpression-F.Query query) = query
  expression_layer (NamedExpression-F.Initializer elements) = all elements

  abbrev pub qualifier_layer : NamedQualifier-F InOpen InOpen InOpen InOpen InOpen → InOpen
  qualifier_layer (NamedQualifier-F.«NamedQualifier::Attribute» at name) = λ n. true
  qualifier_layer (NamedQualifier-F.Group at entity) = λ n. r.entity entity
  qualifier_layer (NamedQualifier-F.Index at index) = index
  qualifier_layer (NamedQualifier-F.Range at low high) = λ n. low n && high n

  abbrev pub interval_layer : NamedInterval-F InOpen InOpen InOpen InOpen InOpen → InOpen
  interval_layer i = λ n. i.low n && i.item n && i.high n

  abbrev pub operation_layer : NamedOperation-F InOpen InOpen InOpen InOpen InOpen → InOpen
  operation_layer o = o.right

  -- the variable stands in the condition alone
  abbrev pub query_layer : NamedQuery-F InOpen InOpen InOpen InOpen InOpen → InOpen
  query_layer q = λ n. q.source n && q.condition (suc n)

  unfoldable pub expression : NamedExpression → InOpen
  expression = fold-NamedExpression InOpen InOpen InOpen InOpen InOpen expression_layer qualifier_layer interval_layer operation_layer query_layer

  -- ---- statements

  unfoldable pub increment : ℕ → NamedIncrement → Bool
  increment n i = expression i.first n && expression i.last n && optional (λ x. expression x n) i.step

  -- how many variables are open in a REPEAT
  abbrev pub in_turn : ℕ → Option NamedIncrement → ℕ
  in_turn n None = n
  in_turn n (Some i) = suc n

  unfoldable pub repeat_control : ℕ → NamedRepeatControl → Bool
  repeat_control n c = optional (increment n) c.increment && optional (λ x. expression x (in_turn n c.increment)) c.while_condition
      && optional (λ x. expression x (in_turn n c.increment)) c.until_condition

  abbrev pub statement_layer : NamedStatement-F InOpen InOpen InOpen → InOpen
  statement_layer NamedStatement-F.Null = λ n. true
  statement_layer (NamedStatement-F.Assignment slot at value) = λ n. nat_lt slot n && expression value n
  statement_layer (NamedStatement-F.Case case) = case
  statement_layer (NamedStatement-F.Compound statements) = all statements
  statement_layer NamedStatement-F.Escape = λ n. true
  statement_layer (NamedStatement-F.If test then_part else_part) = λ n. expression test n && all then_part n && all else_part n
  statement_layer (NamedStatement-F.Repeat control statements) = λ n. repeat_control n control && all statements (in_turn n control.increment)
  statement_layer (NamedStatement-F.Return at value) = expression value
  statement_layer NamedStatement-F.Skip = λ n. true

  abbrev pub case_action_layer : NamedCaseAction-F InOpen InOpen InOpen → InOpen
  case_action_layer action = λ n. list_all (λ x. expression x n) action.labels && action.statement n

  abbrev pub case_layer : NamedCase-F InOpen InOpen InOpen → InOpen
  case_layer case = λ n. expression case.selector n && all case.actions n && optional (λ part. part n) case.otherwise

  unfoldable pub statement : NamedStatement → InOpen
  statement = fold-NamedStatement InOpen InOpen InOpen statement_layer case_layer case_action_layer

  -- ---- declarations

  unfoldable pub constant : NamedConstant → Bool
  constant c = data_type c.data_type && expression c.value zero

  -- where so many variables are open
  abbrev pub domain_rules : ℕ → List NamedDomainRule → Bool
  domain_rules n = list_all (λ x. expression x.condition n)

  abbrev pub underlying : NamedUnderlying → Bool
  underlying (u.Enumeration items) = true
  underlying (u.Select members) = list_all type_name members
  underlying (u.Data x) = data_type x

  unfoldable pub type : NamedType → Bool
  type x = underlying x.underlying && domain_rules zero x.domain_rules

  abbrev pub attribute : NamedAttribute → Bool
  attribute (na.Own name) = true
  attribute (na.Redeclared x) = r.entity x.entity && attribute_use x.attribute

  unfoldable pub explicit : NamedExplicit → Bool
  explicit x = list_all attribute x.attributes && data_type x.data_type

  unfoldable pub derived : NamedDerived → Bool
  derived x = attribute x.attribute && data_type x.data_type && expression x.value zero

  unfoldable pub inverse : NamedInverse → Bool
  inverse x = r.entity x.entity && attribute_use x.attribute

  unfoldable pub unique_rule : NamedUniqueRule → Bool
  unique_rule x = list_all attribute_use x.attributes

  abbrev pub supertype_layer : NamedSupertype-F Bool → Bool
  supertype_layer (NamedSupertype-F.Entity entity at) = r.entity entity
  supertype_layer (NamedSupertype-F.OneOf parts) = list_all (λ part. part) parts
  supertype_layer (NamedSupertype-F.And parts) = list_all (λ part. part) parts
  supertype_layer (NamedSupertype-F.AndOr parts) = list_all (λ part. part) parts

  unfoldable pub supertype : NamedSupertype → Bool
  supertype = fold-NamedSupertype Bool supertype_layer

  unfoldable pub entity : NamedEntity → Bool
  entity e = optional supertype e.constraint && list_all r.entity e.supertypes && list_all explicit e.explicit && list_all derived e.derived
      && list_all inverse e.inverse && list_all unique_rule e.unique_rules && domain_rules zero e.domain_rules

  -- ---- functions and rules: parameters and locals are open in the statements

  abbrev pub local : ℕ → NamedLocal → Bool
  local n l = data_type l.data_type && optional (λ x. expression x n) l.value

  -- the variables that are open in a function's statements
  abbrev pub function_variables : NamedFunction → ℕ
  function_variables f = length (flat_map (λ p. p.names) f.parameters ++ flat_map (λ l. l.names) f.locals)

  unfoldable pub function : NamedFunction → Bool
  function f = list_all (λ p. data_type p.data_type) f.parameters && data_type f.result && list_all (local (function_variables f)) f.locals
      && list_all (λ x. statement x (function_variables f)) f.statements

  abbrev pub rule_variables : NamedRule → ℕ
  rule_variables x = length (flat_map (λ l. l.names) x.locals)

  unfoldable pub rule : NamedRule → Bool
  rule x = list_all r.entity x.entities && list_all (local (rule_variables x)) x.locals && list_all (λ s. statement s (rule_variables x)) x.statements
      && domain_rules (rule_variables x) x.domain_rules

-- All numbers of a schema are in range.
pub record InRange (schema : NamedSchema) : Type 0 where
  pub constants : IsTrue (list_all (constant (range_of schema)) schema.constants)
  pub types : IsTrue (list_all (type (range_of schema)) schema.types)
  pub entities : IsTrue (list_all (entity (range_of schema)) schema.entities)
  pub functions : IsTrue (list_all (function (range_of schema)) schema.functions)
  pub rules : IsTrue (list_all (rule (range_of schema)) schema.rules)
