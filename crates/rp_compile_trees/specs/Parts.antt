-- What the parts of expressions and of statements are compiled to.
use Rattle.std.specs.Prelude.{List, [], map, Option, option_map}
use Rattle.ex_kinds.specs.declared.typed.Typed.{Typed}
use Rattle.ex_kinds.specs.Kinds.{Kinds}
use Rattle.ex_named.specs.declared.expression.NamedDataType.{NamedDataType}
use Rattle.ex_named.specs.declared.expression.NamedExpression.{NamedExpression}
use Rattle.ex_named.specs.declared.expression.NamedInterval.{NamedInterval}
use Rattle.ex_named.specs.declared.expression.NamedOperation.{NamedOperation}
use Rattle.ex_named.specs.declared.expression.NamedQualifier.{NamedQualifier}
use Rattle.ex_named.specs.declared.expression.NamedQuery.{NamedQuery}
use Rattle.ex_named.specs.declared.statement.NamedCase.{NamedCase}
use Rattle.ex_named.specs.declared.statement.NamedCaseAction.{NamedCaseAction}
use Rattle.ex_named.specs.declared.statement.NamedIncrement.{NamedIncrement}
use Rattle.ex_named.specs.declared.statement.NamedRepeatControl.{NamedRepeatControl}
use Rattle.ex_named.specs.declared.statement.NamedStatement.{NamedStatement}
use Rattle.ex_operators.specs.Taken.{elements_of}
use Rattle.ex_typing.specs.Expressions.{TypingScope}
use Rattle.ex_typing_statements.specs.Statements.{in_turn}
use Rattle.rp_code.specs.declared.tree.CaseAction.{CaseAction}
use Rattle.rp_code.specs.declared.tree.Control.{Control}
use Rattle.rp_code.specs.declared.tree.Expression.{Expression}
use Rattle.rp_code.specs.declared.tree.Increment.{Increment}
use Rattle.rp_code.specs.declared.tree.Interval.{Interval}
use Rattle.rp_code.specs.declared.tree.Operation.{Operation}
use Rattle.rp_code.specs.declared.tree.Qualifier.{Qualifier}
use Rattle.rp_code.specs.declared.tree.Query.{Query}
use Rattle.rp_code.specs.declared.tree.Statement.{Statement}
use Rattle.rp_code.specs.declared.tree.Statement.TheVariants as st
use Rattle.rp_meaning.specs.CompiledExpressions as expressions_of
use Rattle.rp_meaning.specs.CompiledExpressions.{Declared, compiled_expression, each, qualifiers_behind}
use Rattle.rp_meaning.specs.CompiledStatements as statements_of
use Rattle.rp_meaning.specs.CompiledStatements.{compiled_statement}
use Rattle.rp_meaning.specs.CompiledTrees.{compiled_qualifier, compiled_interval, compiled_operation, compiled_query, compiled_case, compiled_case_action}

module _ (schema : Declared) where
  -- what is said of an expression's value
  abbrev pub typed : TypingScope → NamedExpression → Typed
  typed s x = (compiled_expression schema x).typed s

  -- what the elements of an expression's value may be
  abbrev pub elements : TypingScope → NamedExpression → Kinds
  elements s x = elements_of schema.known.types (typed s x).kinds

  abbrev pub expressions : TypingScope → List NamedExpression → List Expression
  expressions s list = each s (map (compiled_expression schema) list)

  abbrev pub qualifier : TypingScope → Typed → NamedQualifier → Qualifier
  qualifier s base x = (compiled_qualifier schema x).tree s base

  -- what is said of what a qualifier takes
  abbrev pub behind : TypingScope → Typed → NamedQualifier → Typed
  behind s base x = (compiled_qualifier schema x).typed s base

  abbrev pub qualifiers : TypingScope → Typed → List NamedQualifier → List Qualifier
  qualifiers s base list = qualifiers_behind s base (map (compiled_qualifier schema) list)

  abbrev pub operation : TypingScope → NamedOperation → Operation
  operation s x = (compiled_operation schema x).tree s

  abbrev pub operations : TypingScope → List NamedOperation → List Operation
  operations s list = map (λ o. o.tree s) (map (compiled_operation schema) list)

  abbrev pub interval : TypingScope → NamedInterval → Interval
  interval s x = (compiled_interval schema x).tree s

  abbrev pub query : TypingScope → NamedQuery → Query
  query s x = (compiled_query schema x).tree s

  abbrev pub increment : TypingScope → NamedIncrement → Increment
  increment = statements_of.increment (expressions_of.expression schema) []

  abbrev pub control : TypingScope → NamedRepeatControl → Control
  control = statements_of.control (expressions_of.expression schema) []

  -- where variables are declared with these types
  module _ (types : List NamedDataType) where
    abbrev pub statement : TypingScope → NamedStatement → Statement
    statement s x = compiled_statement (expressions_of.expression schema) types x s

    abbrev pub statements : TypingScope → List NamedStatement → List Statement
    statements s list = statements_of.each (expressions_of.expression schema) types s (map (compiled_statement (expressions_of.expression schema) types) list)

    abbrev pub case_statement : TypingScope → NamedCase → Statement
    case_statement s x = compiled_case (expressions_of.expression schema) types x s

    abbrev pub case_action : TypingScope → NamedCaseAction → CaseAction
    case_action s x = compiled_case_action (expressions_of.expression schema) types x s

    abbrev pub case_actions : TypingScope → List NamedCaseAction → List CaseAction
    case_actions s list = map (λ a. a s) (map (compiled_case_action (expressions_of.expression schema) types) list)

    abbrev pub otherwise : TypingScope → Option NamedStatement → List CaseAction
    otherwise s x = statements_of.otherwise s (option_map (compiled_statement (expressions_of.expression schema) types) x)

    abbrev pub repeat : TypingScope → NamedRepeatControl → List NamedStatement → Statement
    repeat s c body = st.Repeat (control s c) (statements (in_turn s c.increment) body)
