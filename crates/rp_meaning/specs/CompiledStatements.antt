-- Statements as they are executed, by recursion on the tree (ISO 10303-11:1994, clause 13).
use Rattle.std.specs.Prelude.{List, [], ◌∷◌, ◌++◌, map, Option, Some, None, slice_index_or}
use Rattle.std.specs.Option.{option_map}
use Rattle.ex_named.specs.declared.expression.NamedDataType.{NamedDataType}
use Rattle.ex_named.specs.declared.expression.NamedDataType.TheVariants as d
use Rattle.ex_named.specs.declared.expression.NamedExpression.{NamedExpression}
use Rattle.ex_named.specs.declared.statement.NamedIncrement.{NamedIncrement}
use Rattle.ex_named.specs.declared.statement.NamedRepeatControl.{NamedRepeatControl}
use Rattle.ex_named.specs.declared.statement.NamedStatement.{NamedStatement}
use Rattle.ex_named.specs.declared.statement.NamedStatement.TheFolds.{fold-NamedStatement}
use Rattle.ex_named.specs.declared.statement.NamedStatement.TheOpen.{NamedStatement-F, NamedCaseAction-F, NamedCase-F}
use Rattle.ex_typing.specs.Expressions.{TypingScope}
use Rattle.ex_typing_statements.specs.Statements.{in_turn}
use Rattle.rp_code.specs.declared.tree.CaseAction.{CaseAction, roll-CaseAction}
use Rattle.rp_code.specs.declared.tree.Control.{Control}
use Rattle.rp_code.specs.declared.tree.Expression.{Expression}
use Rattle.rp_code.specs.declared.tree.Increment.{Increment}
use Rattle.rp_code.specs.declared.tree.Statement.{Statement}
use Rattle.rp_code.specs.declared.tree.Statement.TheVariants as st

abbrev pub CompiledStatement : Type 0
CompiledStatement = TypingScope → Statement

abbrev pub CompiledCaseAction : Type 0
CompiledCaseAction = TypingScope → CaseAction

-- the actions of a CASE that follow OTHERWISE
abbrev pub otherwise : TypingScope → Option CompiledStatement → List CaseAction
otherwise s None = []
otherwise s (Some x) = roll-CaseAction (record { labels = None; statement = x s }) ∷ []

-- what expressions are compiled to, and the declared types of the variables by their slots
module _ (expression : TypingScope → NamedExpression → Expression) (types : List NamedDataType) where
  abbrev pub each : TypingScope → List CompiledStatement → List Statement
  each s = map (λ x. x s)

  abbrev pub increment : TypingScope → NamedIncrement → Increment
  increment s i = record { first = expression s i.first; last = expression s i.last; step = option_map (expression s) i.step }

  -- the variable of an increment stands in the conditions
  abbrev pub control : TypingScope → NamedRepeatControl → Control
  control s c = record {
    increment = option_map (increment s) c.increment;
    while_condition = option_map (expression (in_turn s c.increment)) c.while_condition;
    until_condition = option_map (expression (in_turn s c.increment)) c.until_condition;
  }

  -- ---- one layer of each tree, given its parts

  abbrev pub statement_layer : NamedStatement-F CompiledStatement CompiledStatement CompiledCaseAction → CompiledStatement
  statement_layer NamedStatement-F.Null = λ s. st.Null
  statement_layer (NamedStatement-F.Assignment slot at value) = λ s. st.Assignment slot (slice_index_or types slot d.Generic) (expression s value)
  statement_layer (NamedStatement-F.Case case) = case
  statement_layer (NamedStatement-F.Compound statements) = λ s. st.Compound (each s statements)
  statement_layer NamedStatement-F.Escape = λ s. st.Escape
  statement_layer (NamedStatement-F.If test then_part else_part) = λ s. st.If (expression s test) (each s then_part) (each s else_part)
  statement_layer (NamedStatement-F.Repeat c statements) = λ s. st.Repeat (control s c) (each (in_turn s c.increment) statements)
  statement_layer (NamedStatement-F.Return at value) = λ s. st.Return (expression s value)
  statement_layer NamedStatement-F.Skip = λ s. st.Skip

  abbrev pub case_action_layer : NamedCaseAction-F CompiledStatement CompiledStatement CompiledCaseAction → CompiledCaseAction
  case_action_layer a = λ s. roll-CaseAction (record { labels = Some (map (expression s) a.labels); statement = a.statement s })

  abbrev pub case_layer : NamedCase-F CompiledStatement CompiledStatement CompiledCaseAction → CompiledStatement
  case_layer c = λ s. st.Case (expression s c.selector) (map (λ a. a s) c.actions ++ otherwise s c.otherwise)

  -- ---- whole trees

  unfoldable pub compiled_statement : NamedStatement → CompiledStatement
  compiled_statement = fold-NamedStatement CompiledStatement CompiledStatement CompiledCaseAction statement_layer case_layer case_action_layer

  abbrev pub statements : TypingScope → List NamedStatement → List Statement
  statements s = map (λ x. compiled_statement x s)
