use Rattle.std.proofs.Common.{◌≡◌, ◌+◌, ◌*◌, ◌≤◌, drop, length, max}
use Rattle.rp_code.specs.Denoted.{actions_of, statements_of}
use Rattle.rp_code.specs.Written.{Keeps}
use Rattle.rp_code.proofs.statements.+statements.Given as goal
use Rattle.rp_code.proofs.tree.Statement.TheLaws as s
use Rattle.rp_code.proofs.tree.CaseAction.TheLaws as a
use denote.Param.Weighed.{most}

-- of each list, what is written are its last ones

abbrev pub invariant-push_actions-loop-count : goal.invariant-push_actions-loop-count
invariant-push_actions-loop-count l = record {
  written : actions_of l.found ≡ drop l.count l.actions;
  within : l.count ≤ length l.actions;
  keeps : Keeps l.fn.found l.found;
}

abbrev pub decreases-push_actions-loop-count : goal.decreases-push_actions-loop-count
decreases-push_actions-loop-count l = l.count

abbrev pub invariant-push_statements-loop-count : goal.invariant-push_statements-loop-count
invariant-push_statements-loop-count l = record {
  written : statements_of l.found ≡ drop l.count l.trees;
  within : l.count ≤ length l.trees;
  keeps : Keeps l.fn.found l.found;
}

abbrev pub decreases-push_statements-loop-count : goal.decreases-push_statements-loop-count
decreases-push_statements-loop-count l = l.count

-- by the depth of the tree, where what writes a node's parts stands above lists, and lists above what writes one statement

abbrev pub decreases-push_statement : goal.decreases-push_statement
decreases-push_statement l = 4 * goal.size-push_statement l

abbrev pub decreases-push_compound : goal.decreases-push_compound
decreases-push_compound l = 4 * most s.the_size l.statements.now + 3

abbrev pub decreases-push_if : goal.decreases-push_if
decreases-push_if l = 4 * max (most s.the_size l.then_part.now) (most s.the_size l.else_part.now) + 3

abbrev pub decreases-push_repeat : goal.decreases-push_repeat
decreases-push_repeat l = 4 * most s.the_size l.body.now + 3

abbrev pub decreases-push_case : goal.decreases-push_case
decreases-push_case l = 4 * most a.the_size l.actions.now + 3

abbrev pub decreases-push_labelled : goal.decreases-push_labelled
decreases-push_labelled l = 4 * s.the_size l.statement.now + 1

abbrev pub decreases-push_otherwise : goal.decreases-push_otherwise
decreases-push_otherwise l = 4 * s.the_size l.statement.now + 1

abbrev pub decreases-push_action : goal.decreases-push_action
decreases-push_action l = 4 * a.the_size l.action.now

abbrev pub decreases-push_actions : goal.decreases-push_actions
decreases-push_actions l = 4 * most a.the_size l.actions.now + 2

abbrev pub decreases-push_next : goal.decreases-push_next
decreases-push_next l = 4 * s.the_size l.tree.now + 1

abbrev pub decreases-push_statements : goal.decreases-push_statements
decreases-push_statements l = 4 * most s.the_size l.trees.now + 2
