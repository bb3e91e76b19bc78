-- The trees in an expression and in a statement, as they are evaluated.
use Rattle.std.specs.Prelude.{List}
use Rattle.ex_named.specs.declared.expression.NamedDataType.{NamedDataType}
use Rattle.ex_named.specs.declared.expression.NamedExpression.{NamedExpression}
use Rattle.ex_named.specs.declared.expression.NamedExpression.TheFolds.{fold-NamedQualifier, fold-NamedInterval, fold-NamedOperation, fold-NamedQuery}
use Rattle.ex_named.specs.declared.expression.NamedInterval.{NamedInterval}
use Rattle.ex_named.specs.declared.expression.NamedOperation.{NamedOperation}
use Rattle.ex_named.specs.declared.expression.NamedQualifier.{NamedQualifier}
use Rattle.ex_named.specs.declared.expression.NamedQuery.{NamedQuery}
use Rattle.ex_named.specs.declared.statement.NamedCase.{NamedCase}
use Rattle.ex_named.specs.declared.statement.NamedCaseAction.{NamedCaseAction}
use Rattle.ex_named.specs.declared.statement.NamedStatement.TheFolds.{fold-NamedCase, fold-NamedCaseAction}
use Rattle.ex_typing.specs.Expressions.{TypingScope}
use Rattle.rp_code.specs.declared.tree.Expression.{Expression}
use Rattle.rp_meaning.specs.CompiledExpressions.{Declared, CompiledExpression, CompiledQualifier, CompiledInterval, CompiledOperation, CompiledQuery, expression_layer, qualifier_layer, interval_layer, operation_layer, query_layer}
use Rattle.rp_meaning.specs.CompiledStatements.{CompiledStatement, CompiledCaseAction, statement_layer, case_layer, case_action_layer}

module _ (schema : Declared) where
  unfoldable pub compiled_qualifier : NamedQualifier → CompiledQualifier
  compiled_qualifier = fold-NamedQualifier CompiledExpression CompiledQualifier CompiledInterval CompiledOperation CompiledQuery
      (expression_layer schema) (qualifier_layer schema) (interval_layer schema) (operation_layer schema) (query_layer schema)

  unfoldable pub compiled_interval : NamedInterval → CompiledInterval
  compiled_interval = fold-NamedInterval CompiledExpression CompiledQualifier CompiledInterval CompiledOperation CompiledQuery
      (expression_layer schema) (qualifier_layer schema) (interval_layer schema) (operation_layer schema) (query_layer schema)

  unfoldable pub compiled_operation : NamedOperation → CompiledOperation
  compiled_operation = fold-NamedOperation CompiledExpression CompiledQualifier CompiledInterval CompiledOperation CompiledQuery
      (expression_layer schema) (qualifier_layer schema) (interval_layer schema) (operation_layer schema) (query_layer schema)

  unfoldable pub compiled_query : NamedQuery → CompiledQuery
  compiled_query = fold-NamedQuery CompiledExpression CompiledQualifier CompiledInterval CompiledOperation CompiledQuery
      (expression_layer schema) (qualifier_layer schema) (interval_layer schema) (operation_layer schema) (query_layer schema)

module _ (expression : TypingScope → NamedExpression → Expression) (types : List NamedDataType) where
  unfoldable pub compiled_case : NamedCase → CompiledStatement
  compiled_case = fold-NamedCase CompiledStatement CompiledStatement CompiledCaseAction (statement_layer expression types) (case_layer expression types) (case_action_layer expression types)

  unfoldable pub compiled_case_action : NamedCaseAction → CompiledCaseAction
  compiled_case_action = fold-NamedCaseAction CompiledStatement CompiledStatement CompiledCaseAction (statement_layer expression types) (case_layer expression types) (case_action_layer expression types)
