-- Statements with their names bound, by recursion on the tree.
use Rattle.std.specs.Prelude.{List, Option, Some, None, Ok}
use Rattle.ex_tree.specs.declared.statement.Increment.{Increment}
use Rattle.ex_tree.specs.declared.statement.RepeatControl.{RepeatControl}
use Rattle.ex_tree.specs.declared.statement.Statement.{Statement}
use Rattle.ex_tree.specs.declared.statement.Statement.TheFolds.{fold-Statement}
use Rattle.ex_tree.specs.declared.statement.Statement.TheOpen.{Statement-F, CaseAction-F, Case-F}
use Rattle.ex_named.specs.declared.statement.NamedCase.{NamedCase, roll-NamedCase}
use Rattle.ex_named.specs.declared.statement.NamedCaseAction.{NamedCaseAction, roll-NamedCaseAction}
use Rattle.ex_named.specs.declared.statement.NamedIncrement.{NamedIncrement}
use Rattle.ex_named.specs.declared.statement.NamedRepeatControl.{NamedRepeatControl}
use Rattle.ex_named.specs.declared.statement.NamedStatement.{NamedStatement}
use Rattle.ex_named.specs.declared.statement.NamedStatement.TheVariants as n
use Rattle.ex_named.specs.Outcomes.{Outcome, given, both, each, optional}
use Rattle.ex_named.specs.Scopes.{Declarations, Scope, assigned, within}
use Rattle.ex_named.specs.Expressions.{expression}

abbrev pub BoundStatement : Type 0
BoundStatement = Scope → Outcome NamedStatement

abbrev pub BoundCase : Type 0
BoundCase = Scope → Outcome NamedCase

abbrev pub BoundCaseAction : Type 0
BoundCaseAction = Scope → Outcome NamedCaseAction

-- where the conditions and the statements of a REPEAT stand: its variable is in scope
abbrev pub in_turn : Scope → Option Increment → Scope
in_turn s None = s
in_turn s (Some increment) = within s increment.variable.text

module _ (schema : Declarations) where
  -- ---- what governs a REPEAT

  unfoldable pub increment : Scope → Increment → Outcome NamedIncrement
  increment s i = given (λ p. record { at = i.variable.at; first = p.0.0; last = p.0.1; step = p.1 })
      (both (both (expression schema s i.first) (expression schema s i.last)) (optional (expression schema s) i.step))

  unfoldable pub repeat_control : Scope → RepeatControl → Outcome NamedRepeatControl
  repeat_control s control = given (λ p. record { increment = p.0.0; while_condition = p.0.1; until_condition = p.1 })
      (both (both (optional (increment s) control.increment)
      (optional (expression schema (in_turn s control.increment)) control.while_condition))
      (optional (expression schema (in_turn s control.increment)) control.until_condition))

  -- ---- one layer of each tree, given what its parts stand for

  abbrev pub statements_in : Scope → List BoundStatement → Outcome (List NamedStatement)
  statements_in s = each (λ b. b s)

  abbrev pub statement_layer : Statement-F BoundStatement BoundCase BoundCaseAction → BoundStatement
  statement_layer Statement-F.Null = λ s. Ok n.Null
  statement_layer (Statement-F.Assignment variable value) = λ s. given (λ p. n.Assignment p.0 variable.at p.1) (both (assigned s variable) (expression schema s value))
  statement_layer (Statement-F.Case case) = λ s. given n.Case (case s)
  statement_layer (Statement-F.Compound statements) = λ s. given n.Compound (statements_in s statements)
  statement_layer Statement-F.Escape = λ s. Ok n.Escape
  statement_layer (Statement-F.If condition then_part else_part) = λ s. given (λ p. n.If p.0.0 p.0.1 p.1)
      (both (both (expression schema s condition) (statements_in s then_part)) (statements_in s else_part))
  statement_layer (Statement-F.Repeat control statements) = λ s. given (λ p. n.Repeat p.0 p.1)
      (both (repeat_control s control) (statements_in (in_turn s control.increment) statements))
  statement_layer (Statement-F.Return at value) = λ s. given (n.Return at) (expression schema s value)
  statement_layer Statement-F.Skip = λ s. Ok n.Skip

  abbrev pub case_action_layer : CaseAction-F BoundStatement BoundCase BoundCaseAction → BoundCaseAction
  case_action_layer action = λ s. given (λ p. roll-NamedCaseAction (record { labels = p.0; statement = p.1 }))
      (both (each (expression schema s) action.labels) (action.statement s))

  abbrev pub case_layer : Case-F BoundStatement BoundCase BoundCaseAction → BoundCase
  case_layer case = λ s. given (λ p. roll-NamedCase (record { at = case.at; selector = p.0.0; actions = p.0.1; otherwise = p.1 }))
      (both (both (expression schema s case.selector) (each (λ a. a s) case.actions)) (optional (λ b. b s) case.otherwise))

  -- ---- whole trees

  unfoldable pub bound_statement : Statement → BoundStatement
  bound_statement = fold-Statement BoundStatement BoundCase BoundCaseAction statement_layer case_layer case_action_layer

  abbrev pub statement : Scope → Statement → Outcome NamedStatement
  statement s x = bound_statement x s

  abbrev pub statements : Scope → List Statement → Outcome (List NamedStatement)
  statements s = each (statement s)
