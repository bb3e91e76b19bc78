use Rattle.std.proofs.Common.{◌≡◌, ◌+◌, ◌*◌, ◌≤◌, drop, length, max}
use Rattle.rp_code.specs.Denoted.{expressions_of, operations_of, qualifiers_of}
use Rattle.rp_code.specs.Written.{Keeps}
use Rattle.rp_code.proofs.expressions.+expressions.Given as goal
use Rattle.rp_code.proofs.tree.Expression.TheLaws as x
use Rattle.rp_code.proofs.tree.Operation.TheLaws as o
use Rattle.rp_code.proofs.tree.Qualifier.TheLaws as q
use denote.Param.Weighed.{most}

-- of each list, what is written are its last ones

abbrev pub invariant-push_expressions-loop-count : goal.invariant-push_expressions-loop-count
invariant-push_expressions-loop-count l = record {
  written : expressions_of l.found ≡ drop l.count l.trees;
  within : l.count ≤ length l.trees;
  keeps : Keeps l.fn.found l.found;
}

abbrev pub decreases-push_expressions-loop-count : goal.decreases-push_expressions-loop-count
decreases-push_expressions-loop-count l = l.count

abbrev pub invariant-push_operations-loop-count : goal.invariant-push_operations-loop-count
invariant-push_operations-loop-count l = record {
  written : operations_of l.found ≡ drop l.count l.operations;
  within : l.count ≤ length l.operations;
  keeps : Keeps l.fn.found l.found;
}

abbrev pub decreases-push_operations-loop-count : goal.decreases-push_operations-loop-count
decreases-push_operations-loop-count l = l.count

abbrev pub invariant-push_qualifiers-loop-count : goal.invariant-push_qualifiers-loop-count
invariant-push_qualifiers-loop-count l = record {
  written : qualifiers_of l.found ≡ drop l.count l.qualifiers;
  within : l.count ≤ length l.qualifiers;
  keeps : Keeps l.fn.found l.found;
}

abbrev pub decreases-push_qualifiers-loop-count : goal.decreases-push_qualifiers-loop-count
decreases-push_qualifiers-loop-count l = l.count

-- by the depth of the tree, where what writes a node's parts stands above lists, and lists above what writes one expression

abbrev pub decreases-push_expression : goal.decreases-push_expression
decreases-push_expression l = 4 * goal.size-push_expression l

abbrev pub decreases-push_call : goal.decreases-push_call
decreases-push_call l = 4 * goal.size-push_call l + 3

abbrev pub decreases-push_built_in : goal.decreases-push_built_in
decreases-push_built_in l = 4 * goal.size-push_built_in l + 3

abbrev pub decreases-push_initializer : goal.decreases-push_initializer
decreases-push_initializer l = 4 * goal.size-push_initializer l + 3

abbrev pub decreases-push_used_in : goal.decreases-push_used_in
decreases-push_used_in l = 4 * x.the_size l.instance.now + 1

abbrev pub decreases-push_unary : goal.decreases-push_unary
decreases-push_unary l = 4 * goal.size-push_unary l + 1

abbrev pub decreases-push_qualified : goal.decreases-push_qualified
decreases-push_qualified l = 4 * max (x.the_size l.base.now) (most q.the_size l.qualifiers.now) + 3

abbrev pub decreases-push_base : goal.decreases-push_base
decreases-push_base l = 4 * x.the_size l.base.now + 1

abbrev pub decreases-push_chain : goal.decreases-push_chain
decreases-push_chain l = 4 * max (x.the_size l.first.now) (most o.the_size l.operations.now) + 3

abbrev pub decreases-push_interval : goal.decreases-push_interval
decreases-push_interval l = 4 * goal.size-push_interval l

abbrev pub decreases-push_query : goal.decreases-push_query
decreases-push_query l = 4 * goal.size-push_query l

abbrev pub decreases-push_item : goal.decreases-push_item
decreases-push_item l = 4 * goal.size-push_item l + 1

abbrev pub decreases-push_expressions : goal.decreases-push_expressions
decreases-push_expressions l = 4 * goal.size-push_expressions l + 2

abbrev pub decreases-push_operation : goal.decreases-push_operation
decreases-push_operation l = 4 * goal.size-push_operation l

abbrev pub decreases-push_right : goal.decreases-push_right
decreases-push_right l = 4 * x.the_size l.right.now + 1

abbrev pub decreases-push_operations : goal.decreases-push_operations
decreases-push_operations l = 4 * goal.size-push_operations l + 1

abbrev pub decreases-push_index : goal.decreases-push_index
decreases-push_index l = 4 * goal.size-push_index l + 1

abbrev pub decreases-push_range : goal.decreases-push_range
decreases-push_range l = 4 * max (x.the_size l.first.now) (x.the_size l.last.now) + 1

abbrev pub decreases-push_qualifier : goal.decreases-push_qualifier
decreases-push_qualifier l = 4 * goal.size-push_qualifier l

abbrev pub decreases-push_qualifiers : goal.decreases-push_qualifiers
decreases-push_qualifiers l = 4 * goal.size-push_qualifiers l + 1
