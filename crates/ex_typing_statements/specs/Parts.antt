-- What is told of the parts of statements.
use Rattle.std.specs.Prelude.{List, [], map, Option, Some, None}
use Rattle.ex_named.specs.declared.statement.NamedCase.{NamedCase}
use Rattle.ex_named.specs.declared.statement.NamedCaseAction.{NamedCaseAction}
use Rattle.ex_named.specs.declared.statement.NamedRepeatControl.{NamedRepeatControl}
use Rattle.ex_named.specs.declared.statement.NamedStatement.{NamedStatement}
use Rattle.ex_named.specs.declared.statement.NamedStatement.TheFolds.{fold-NamedCase, fold-NamedCaseAction}
use Rattle.ex_kinds.specs.Faults.{either}
use Rattle.ex_typing.specs.Expressions.{Known, TypingScope, TypedList}
use Rattle.ex_typing_statements.specs.Statements.{Told, TypedStatement, TypedCaseAction, statement_layer, case_layer, case_action_layer, statement, statements, repeat_control, in_turn, actions_after}

module _ (schema : Known) where
  unfoldable pub typed_case : NamedCase → TypedStatement
  typed_case = fold-NamedCase TypedStatement TypedStatement TypedCaseAction (statement_layer schema) (case_layer schema) (case_action_layer schema)

  unfoldable pub typed_case_action : NamedCaseAction → TypedCaseAction
  typed_case_action = fold-NamedCaseAction TypedStatement TypedStatement TypedCaseAction (statement_layer schema) (case_layer schema) (case_action_layer schema)

  abbrev pub case_actions : TypingScope → List NamedCaseAction → TypedList
  case_actions s list = actions_after schema s ([], None) (map typed_case_action list)

  abbrev pub otherwise : TypingScope → Option NamedStatement → Told
  otherwise s None = None
  otherwise s (Some x) = statement schema s x

  abbrev pub repeat : TypingScope → NamedRepeatControl → List NamedStatement → Told
  repeat s control body = either (repeat_control schema s control) (statements schema (in_turn s control.increment) body)
