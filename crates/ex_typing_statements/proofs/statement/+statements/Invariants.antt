use Rattle.std.proofs.Common.{◌≡◌, map, drop}
use Rattle.ex_typing_statements.specs.Parts.{typed_case_action, case_actions}
use Rattle.ex_typing_statements.specs.Statements.{typed_statement, told_after, actions_after, statements}
use Rattle.ex_typing_statements.proofs.statement.+statements.Given as goal

abbrev pub invariant-statements-loop-item : goal.invariant-statements-loop-item
invariant-statements-loop-item l = told_after l.scope l.found (map (typed_statement l.schema) (drop l.item-index l.list)) ≡ statements l.schema l.scope l.list

abbrev pub invariant-case_actions-loop-action : goal.invariant-case_actions-loop-action
invariant-case_actions-loop-action l = actions_after l.schema l.scope (l.labels, l.found) (map (typed_case_action l.schema) (drop l.action-index l.actions)) ≡ case_actions l.schema l.scope l.actions
