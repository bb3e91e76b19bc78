-- The parts of statements with their names bound.
use Rattle.std.specs.Prelude.{List, map, Option}
use Rattle.ex_tree.specs.declared.expression.Expression.{Expression}
use Rattle.ex_tree.specs.declared.expression.Name.{Name}
use Rattle.ex_tree.specs.declared.statement.Case.{Case, fold-Case}
use Rattle.ex_tree.specs.declared.statement.CaseAction.{CaseAction, fold-CaseAction}
use Rattle.ex_tree.specs.declared.statement.RepeatControl.{RepeatControl}
use Rattle.ex_tree.specs.declared.statement.Statement.{Statement}
use Rattle.ex_tree.specs.declared.statement.Statement.TheShapes.{former-Case-otherwise}
use Rattle.ex_named.specs.declared.statement.NamedCaseAction.{NamedCaseAction}
use Rattle.ex_named.specs.declared.statement.NamedStatement.{NamedStatement}
use Rattle.ex_named.specs.declared.statement.NamedStatement.TheVariants as n
use Rattle.ex_named.specs.Expressions.{expression}
use Rattle.ex_named.specs.Outcomes.{Outcome, given, both, each, optional}
use Rattle.ex_named.specs.Scopes.{Declarations, Scope, assigned}
use Rattle.ex_named.specs.Statements.{BoundStatement, BoundCase, BoundCaseAction, in_turn, repeat_control, statement_layer, case_layer, case_action_layer, statements_in, bound_statement}

module _ (schema : Declarations) where
  abbrev pub assignment : Scope → Name → Expression → Outcome NamedStatement
  assignment s variable value = given (λ p. n.Assignment p.0 variable.at p.1) (both (assigned s variable) (expression schema s value))

  -- what holds several statements is made of the bound ones, as the layers have them
  abbrev pub sequence : Scope → List Statement → Outcome (List NamedStatement)
  sequence s list = statements_in schema s (map (bound_statement schema) list)

  abbrev pub repeat : Scope → RepeatControl → List Statement → Outcome NamedStatement
  repeat s control body = given (λ p. n.Repeat p.0 p.1) (both (repeat_control schema s control) (sequence (in_turn s control.increment) body))

  unfoldable pub bound_case : Case → BoundCase
  bound_case = fold-Case BoundStatement BoundCase BoundCaseAction (statement_layer schema) (case_layer schema) (case_action_layer schema)

  unfoldable pub bound_case_action : CaseAction → BoundCaseAction
  bound_case_action = fold-CaseAction BoundStatement BoundCase BoundCaseAction (statement_layer schema) (case_layer schema) (case_action_layer schema)

  abbrev pub case_actions : Scope → List CaseAction → Outcome (List NamedCaseAction)
  case_actions s list = each (λ a. a s) (map bound_case_action list)

  abbrev pub otherwise : Scope → Option Statement → Outcome (Option NamedStatement)
  otherwise s part = optional (λ b. b s) (former-Case-otherwise.map Statement BoundStatement (bound_statement schema) part)
