use Rattle.std.proofs.Common.{◌≡◌, ◌+◌, ◌*◌, max, drop, map}
use Rattle.ex_named.specs.Outcomes.{each_after}
use Rattle.ex_named.specs.Expressions as spec
use Rattle.ex_bind.specs.Trees as trees
use Rattle.ex_bind.proofs.expressions.+expressions.Given as goal
use Rattle.ex_tree.proofs.expression.Expression.TheLaws as x
use Rattle.ex_tree.proofs.expression.Operation.TheLaws as o
use Rattle.ex_tree.proofs.expression.Qualifier.TheLaws as q
use denote.Param.Weighed.{most}

abbrev pub invariant-expressions-loop-tree : goal.invariant-expressions-loop-tree
invariant-expressions-loop-tree l = each_after (λ b. b.in_scope l.scope) l.gathered (map (spec.bound_expression l.declarations) (drop l.tree-index l.list)) ≡ trees.expressions l.declarations l.scope l.list

abbrev pub invariant-operations-loop-tree : goal.invariant-operations-loop-tree
invariant-operations-loop-tree l = each_after (λ o. o l.scope) l.gathered (map (trees.bound_operation l.declarations) (drop l.tree-index l.list)) ≡ trees.operations l.declarations l.scope l.list

abbrev pub invariant-qualifiers-loop-tree : goal.invariant-qualifiers-loop-tree
invariant-qualifiers-loop-tree l = each_after (λ q. q.in_scope l.scope) l.gathered (map (trees.bound_qualifier l.declarations) (drop l.tree-index l.list)) ≡ trees.qualifiers l.declarations l.scope l.list

-- by the depth of the tree, where what takes several of its parts stands above lists, and lists above trees
abbrev pub decreases-expression : goal.decreases-expression
decreases-expression l = 3 * goal.size-expression l

abbrev pub decreases-expressions : goal.decreases-expressions
decreases-expressions l = 3 * goal.size-expressions l + 1

abbrev pub decreases-call : goal.decreases-call
decreases-call l = 3 * most x.the_size l.arguments.now + 2

abbrev pub decreases-qualified : goal.decreases-qualified
decreases-qualified l = 3 * max (x.the_size l.base.now) (most q.the_size l.taken.now) + 2

abbrev pub decreases-unary : goal.decreases-unary
decreases-unary l = 3 * x.the_size l.operand.now + 2

abbrev pub decreases-qualifiers : goal.decreases-qualifiers
decreases-qualifiers l = 3 * goal.size-qualifiers l + 1

abbrev pub decreases-qualifier : goal.decreases-qualifier
decreases-qualifier l = 3 * goal.size-qualifier l

abbrev pub decreases-chain : goal.decreases-chain
decreases-chain l = 3 * max (x.the_size l.left.now) (most o.the_size l.operators.now) + 2

abbrev pub decreases-operations : goal.decreases-operations
decreases-operations l = 3 * goal.size-operations l + 1

abbrev pub decreases-operation : goal.decreases-operation
decreases-operation l = 3 * goal.size-operation l

abbrev pub decreases-interval : goal.decreases-interval
decreases-interval l = 3 * goal.size-interval l

abbrev pub decreases-query : goal.decreases-query
decreases-query l = 3 * goal.size-query l
