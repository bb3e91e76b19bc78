-- Whether each attribute that a schema uses by its name alone means one declaration (ISO 10303-11:1994, clause 10).
use Rattle.std.specs.Prelude.{◌≡◌, Bool, true, false, ◌&&◌, List, Option, Some, None}
use Rattle.std.specs.List.{list_all}
use Rattle.ex_named.specs.declared.declaration.NamedAttribute.{NamedAttribute}
use Rattle.ex_named.specs.declared.declaration.NamedAttribute.TheVariants as na
use Rattle.ex_named.specs.declared.declaration.NamedConstant.{NamedConstant}
use Rattle.ex_named.specs.declared.declaration.NamedDomainRule.{NamedDomainRule}
use Rattle.ex_named.specs.declared.declaration.NamedEntity.{NamedEntity}
use Rattle.ex_named.specs.declared.declaration.NamedFunction.{NamedFunction}
use Rattle.ex_named.specs.declared.declaration.NamedLocal.{NamedLocal}
use Rattle.ex_named.specs.declared.declaration.NamedRule.{NamedRule}
use Rattle.ex_named.specs.declared.declaration.NamedSchema.{NamedSchema}
use Rattle.ex_named.specs.declared.declaration.NamedType.{NamedType}
use Rattle.ex_named.specs.declared.expression.NamedExpression.{NamedExpression}
use Rattle.ex_named.specs.declared.expression.NamedExpression.TheFolds.{fold-NamedExpression, fold-NamedInterval, fold-NamedOperation, fold-NamedQualifier, fold-NamedQuery}
use Rattle.ex_named.specs.declared.expression.NamedExpression.TheOpen.{NamedExpression-F, NamedQualifier-F, NamedInterval-F, NamedOperation-F, NamedQuery-F}
use Rattle.ex_named.specs.declared.expression.NamedInterval.{NamedInterval}
use Rattle.ex_named.specs.declared.expression.NamedOperation.{NamedOperation}
use Rattle.ex_named.specs.declared.expression.NamedQualifier.{NamedQualifier}
use Rattle.ex_named.specs.declared.expression.NamedQuery.{NamedQuery}
use Rattle.ex_named.specs.declared.reference.AttributeMeaning.{AttributeMeaning}
use Rattle.ex_named.specs.declared.reference.AttributeMeaning.TheVariants as m
use Rattle.ex_named.specs.declared.reference.AttributeUse.{AttributeUse}
use Rattle.ex_named.specs.declared.statement.NamedCase.{NamedCase}
use Rattle.ex_named.specs.declared.statement.NamedCaseAction.{NamedCaseAction}
use Rattle.ex_named.specs.declared.statement.NamedIncrement.{NamedIncrement}
use Rattle.ex_named.specs.declared.statement.NamedRepeatControl.{NamedRepeatControl}
use Rattle.ex_named.specs.declared.statement.NamedStatement.{NamedStatement}
use Rattle.ex_named.specs.declared.statement.NamedStatement.TheFolds.{fold-NamedCase, fold-NamedCaseAction, fold-NamedStatement}
use Rattle.ex_named.specs.declared.statement.NamedStatement.TheOpen.{NamedStatement-F, NamedCaseAction-F, NamedCase-F}

abbrev pub is_one : AttributeMeaning → Bool
is_one (m.One place) = true
is_one m.Several = false

-- the name means one declaration
abbrev pub means_one : AttributeUse → Bool
means_one name = is_one name.meaning

abbrev pub all : List Bool → Bool
all = list_all (λ part. part)

-- ---- each that stands in an expression

abbrev pub expression_layer : NamedExpression-F Bool Bool Bool Bool Bool → Bool
expression_layer (NamedExpression-F.«NamedExpression::Attribute» name) = means_one name
expression_layer (NamedExpression-F.Call function at arguments) = all arguments
expression_layer (NamedExpression-F.BuiltIn word at arguments) = all arguments
expression_layer (NamedExpression-F.Qualified base qualifiers) = base && all qualifiers
expression_layer (NamedExpression-F.Unary operator at operand) = operand
expression_layer (NamedExpression-F.Chain left operations) = left && all operations
expression_layer (NamedExpression-F.Interval interval) = interval
expression_layer (NamedExpression-F.Query query) = query
expression_layer (NamedExpression-F.Initializer elements) = all elements
expression_layer _ = true

abbrev pub qualifier_layer : NamedQualifier-F Bool Bool Bool Bool Bool → Bool
qualifier_layer (NamedQualifier-F.Index at index) = index
qualifier_layer (NamedQualifier-F.Range at low high) = low && high
qualifier_layer _ = true

abbrev pub interval_layer : NamedInterval-F Bool Bool Bool Bool Bool → Bool
interval_layer i = i.low && i.item && i.high

abbrev pub operation_layer : NamedOperation-F Bool Bool Bool Bool Bool → Bool
operation_layer o = o.right

abbrev pub query_layer : NamedQuery-F Bool Bool Bool Bool Bool → Bool
query_layer q = q.source && q.condition

unfoldable pub expression : NamedExpression → Bool
expression = fold-NamedExpression Bool Bool Bool Bool Bool expression_layer qualifier_layer interval_layer operation_layer query_layer

unfoldable pub qualifier : NamedQualifier → Bool
qualifier = fold-NamedQualifier Bool Bool Bool Bool Bool expression_layer qualifier_layer interval_layer operation_layer query_layer

unfoldable pub interval : NamedInterval → Bool
interval = fold-NamedInterval Bool Bool Bool Bool Bool expression_layer qualifier_layer interval_layer operation_layer query_layer

unfoldable pub operation : NamedOperation → Bool
operation = fold-NamedOperation Bool Bool Bool Bool Bool expression_layer qualifier_layer interval_layer operation_layer query_layer

unfoldable pub query : NamedQuery → Bool
query = fold-NamedQuery Bool Bool Bool Bool Bool expression_layer qualifier_layer interval_layer operation_layer query_layer

-- ---- in a statement

abbrev pub optional : {A : Type 0} → (A → Bool) → Option A → Bool
optional test None = true
optional test (Some x) = test x

abbrev pub increment : NamedIncrement → Bool
increment i = expression i.first && expression i.last && optional expression i.step

abbrev pub repeat_control : NamedRepeatControl → Bool
repeat_control c = optional increment c.increment && optional expression c.while_condition && optional expression c.until_condition

abbrev pub statement_layer : NamedStatement-F Bool Bool Bool → Bool
statement_layer (NamedStatement-F.Assignment slot at value) = expression value
statement_layer (NamedStatement-F.Case case) = case
statement_layer (NamedStatement-F.Compound statements) = all statements
statement_layer (NamedStatement-F.If test then_part else_part) = expression test && all then_part && all else_part
statement_layer (NamedStatement-F.Repeat control statements) = repeat_control control && all statements
statement_layer (NamedStatement-F.Return at value) = expression value
statement_layer _ = true

abbrev pub case_action_layer : NamedCaseAction-F Bool Bool Bool → Bool
case_action_layer action = list_all expression action.labels && action.statement

abbrev pub case_layer : NamedCase-F Bool Bool Bool → Bool
case_layer case = expression case.selector && all case.actions && optional (λ part. part) case.otherwise

unfoldable pub statement : NamedStatement → Bool
statement = fold-NamedStatement Bool Bool Bool statement_layer case_layer case_action_layer

unfoldable pub case : NamedCase → Bool
case = fold-NamedCase Bool Bool Bool statement_layer case_layer case_action_layer

unfoldable pub case_action : NamedCaseAction → Bool
case_action = fold-NamedCaseAction Bool Bool Bool statement_layer case_layer case_action_layer

-- ---- each that an entity uses

abbrev pub domain_rules : List NamedDomainRule → Bool
domain_rules = list_all (λ x. expression x.condition)

abbrev pub attribute : NamedAttribute → Bool
attribute (na.Own name) = true
attribute (na.Redeclared r) = means_one r.attribute

-- what it redeclares, derives, inverts, lists in UNIQUE, and uses in the expressions of DERIVE and WHERE
abbrev pub entity : NamedEntity → Bool
entity e = list_all (λ x. list_all attribute x.attributes) e.explicit && list_all (λ x. attribute x.attribute && expression x.value) e.derived
    && list_all (λ x. means_one x.attribute) e.inverse && list_all (λ x. list_all means_one x.attributes) e.unique_rules
    && domain_rules e.domain_rules

-- ---- each that another declaration uses

abbrev pub constant : NamedConstant → Bool
constant x = expression x.value

abbrev pub defined_type : NamedType → Bool
defined_type x = domain_rules x.domain_rules

abbrev pub local : NamedLocal → Bool
local x = optional expression x.value

abbrev pub function : NamedFunction → Bool
function x = list_all local x.locals && list_all statement x.statements

abbrev pub rule : NamedRule → Bool
rule x = list_all local x.locals && list_all statement x.statements && domain_rules x.domain_rules

-- ---- each of a schema

pub record AttributesMeanOne (s : NamedSchema) : Type 0 where
  pub constants : list_all constant s.constants ≡ true
  pub types : list_all defined_type s.types ≡ true
  pub entities : list_all entity s.entities ≡ true
  pub functions : list_all function s.functions ≡ true
  pub rules : list_all rule s.rules ≡ true
