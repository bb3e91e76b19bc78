-- What the trees in an expression stand for.
use Rattle.std.specs.Prelude.{ℕ, List, Option, map}
use Rattle.ex_tree.specs.declared.expression.Expression.{Expression}
use Rattle.ex_tree.specs.declared.expression.Interval.{Interval}
use Rattle.ex_tree.specs.declared.expression.Name.{Name}
use Rattle.ex_tree.specs.declared.expression.Operation.{Operation}
use Rattle.ex_tree.specs.declared.expression.Qualifier.{Qualifier}
use Rattle.ex_tree.specs.declared.expression.Query.{Query}
use Rattle.ex_tree.specs.declared.expression.UnaryOperator.{UnaryOperator}
use Rattle.ex_tree.specs.declared.expression.Expression.TheFolds.{fold-Qualifier, fold-Interval, fold-Operation, fold-Query}
use Rattle.ex_named.specs.declared.expression.NamedExpression.{NamedExpression}
use Rattle.ex_named.specs.declared.expression.NamedExpression.TheVariants as e
use Rattle.ex_named.specs.declared.expression.NamedOperation.{NamedOperation}
use Rattle.ex_named.specs.declared.expression.NamedQualifier.{NamedQualifier}
use Rattle.ex_named.specs.Outcomes.{Outcome, given, both, each}
use Rattle.ex_named.specs.Scopes.{Declarations, Scope, function}
use Rattle.ex_named.specs.Expressions as x
use Rattle.ex_named.specs.Expressions.{Bound, BoundQualifier, BoundInterval, BoundOperation, BoundQuery, expression_layer, qualifier_layer, interval_layer, operation_layer, query_layer}

-- a value, and what is taken of it
abbrev pub taken_of : Outcome NamedExpression → Outcome (List NamedQualifier) → Outcome NamedExpression
taken_of base taken = given (λ p. e.Qualified p.0 p.1) (both base taken)

module _ (schema : Declarations) where
  unfoldable pub bound_qualifier : Qualifier → BoundQualifier
  bound_qualifier = fold-Qualifier Bound BoundQualifier BoundInterval BoundOperation BoundQuery
      (expression_layer schema) (qualifier_layer schema) (interval_layer schema) (operation_layer schema) (query_layer schema)

  unfoldable pub bound_interval : Interval → BoundInterval
  bound_interval = fold-Interval Bound BoundQualifier BoundInterval BoundOperation BoundQuery
      (expression_layer schema) (qualifier_layer schema) (interval_layer schema) (operation_layer schema) (query_layer schema)

  unfoldable pub bound_operation : Operation → BoundOperation
  bound_operation = fold-Operation Bound BoundQualifier BoundInterval BoundOperation BoundQuery
      (expression_layer schema) (qualifier_layer schema) (interval_layer schema) (operation_layer schema) (query_layer schema)

  unfoldable pub bound_query : Query → BoundQuery
  bound_query = fold-Query Bound BoundQualifier BoundInterval BoundOperation BoundQuery
      (expression_layer schema) (qualifier_layer schema) (interval_layer schema) (operation_layer schema) (query_layer schema)

  -- ---- what they stand for in a scope

  abbrev pub qualifier : Scope → Qualifier → Outcome NamedQualifier
  qualifier s q = (bound_qualifier q).in_scope s

  abbrev pub interval : Scope → Interval → Outcome NamedExpression
  interval s i = given e.Interval (bound_interval i s)

  abbrev pub operation : Scope → Operation → Outcome NamedOperation
  operation s o = bound_operation o s

  abbrev pub query : Scope → Query → Outcome NamedExpression
  query s q = given e.Query (bound_query q s)

  abbrev pub expressions : Scope → List Expression → Outcome (List NamedExpression)
  expressions s list = x.expressions schema s (map (x.bound_expression schema) list)

  abbrev pub qualifiers : Scope → List Qualifier → Outcome (List NamedQualifier)
  qualifiers s list = x.qualifiers schema s (map bound_qualifier list)

  abbrev pub operations : Scope → List Operation → Outcome (List NamedOperation)
  operations s list = each (λ o. o s) (map bound_operation list)

  abbrev pub call : Scope → Name → List Expression → Outcome NamedExpression
  call s n arguments = given (λ p. e.Call p.0 n.at p.1) (both (function schema s n) (expressions s arguments))

  -- `base.qualifiers`
  abbrev pub qualified : Scope → Expression → List Qualifier → Outcome NamedExpression
  qualified s base taken = x.qualified schema s (x.bound_expression schema base) (map bound_qualifier taken)

  -- the item, if `base.first` is the name of a type and an item of it
  abbrev pub item : Scope → Expression → Qualifier → Outcome (Option NamedExpression)
  item s base first = x.first_item schema s (x.bound_expression schema base).alone (bound_qualifier first).attribute

  -- an operator before its operand
  abbrev pub unary : Scope → UnaryOperator → ℕ → Expression → Outcome NamedExpression
  unary s operator at operand = given (e.Unary operator at) (x.expression schema s operand)

  -- operators of one level
  abbrev pub chain : Scope → Expression → List Operation → Outcome NamedExpression
  chain s left list = given (λ p. e.Chain p.0 p.1) (both (x.expression schema s left) (operations s list))
