use Rattle.std.proofs.Common.{◌≡◌, map, drop}
use Rattle.ex_named.specs.Outcomes.{each_after}
use Rattle.ex_named.specs.Statements.{bound_statement}
use Rattle.ex_bind_statements.specs.Parts as parts
use Rattle.ex_bind_statements.proofs.statement.+statements.Given as goal

abbrev pub invariant-sequence-loop-item : goal.invariant-sequence-loop-item
invariant-sequence-loop-item l = each_after (λ b. b l.scope) l.found (map (bound_statement l.declarations) (drop l.item-index l.statements)) ≡ parts.sequence l.declarations l.scope l.statements

abbrev pub invariant-case_actions-loop-action : goal.invariant-case_actions-loop-action
invariant-case_actions-loop-action l = each_after (λ a. a l.scope) l.found (map (parts.bound_case_action l.declarations) (drop l.action-index l.actions)) ≡ parts.case_actions l.declarations l.scope l.actions
