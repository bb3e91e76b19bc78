use Rattle.std.proofs.Common.{◌≡◌, ◌+◌, ◌*◌, ◌++◌, max, drop}
use Rattle.rp_compile_trees.specs.Parts as parts
use Rattle.rp_compile_trees.proofs.trees.+trees.Given as goal
use Rattle.ex_named.proofs.expression.NamedExpression.TheLaws as x
use Rattle.ex_named.proofs.expression.NamedOperation.TheLaws as o
use Rattle.ex_named.proofs.expression.NamedQualifier.TheLaws as q
use denote.Param.Weighed.{most}

abbrev pub invariant-expressions-loop-tree : goal.invariant-expressions-loop-tree
invariant-expressions-loop-tree l = l.found ++ parts.expressions l.schema l.scope (drop l.tree-index l.list) ≡ parts.expressions l.schema l.scope l.list

abbrev pub invariant-operations-loop-tree : goal.invariant-operations-loop-tree
invariant-operations-loop-tree l = l.found ++ parts.operations l.schema l.scope (drop l.tree-index l.list) ≡ parts.operations l.schema l.scope l.list

abbrev pub invariant-qualifiers-loop-tree : goal.invariant-qualifiers-loop-tree
invariant-qualifiers-loop-tree l = l.found ++ parts.qualifiers l.schema l.scope l.typed (drop l.tree-index l.list) ≡ parts.qualifiers l.schema l.scope l.fn.base l.list

-- by the depth of the tree, where what takes several of its parts stands above lists, and lists above what takes a tree
abbrev pub decreases-expression : goal.decreases-expression
decreases-expression l = 4 * goal.size-expression l

abbrev pub decreases-boxed : goal.decreases-boxed
decreases-boxed l = 4 * goal.size-boxed l + 1

abbrev pub decreases-expressions : goal.decreases-expressions
decreases-expressions l = 4 * goal.size-expressions l + 1

abbrev pub decreases-call : goal.decreases-call
decreases-call l = 4 * goal.size-call l + 2

abbrev pub decreases-call_built_in : goal.decreases-call_built_in
decreases-call_built_in l = 4 * goal.size-call_built_in l + 2

abbrev pub decreases-initializer : goal.decreases-initializer
decreases-initializer l = 4 * goal.size-initializer l + 2

abbrev pub decreases-qualified : goal.decreases-qualified
decreases-qualified l = 4 * max (x.the_size l.base.now) (most q.the_size l.list.now) + 3

abbrev pub decreases-chain : goal.decreases-chain
decreases-chain l = 4 * max (x.the_size l.left.now) (most o.the_size l.list.now) + 2

abbrev pub decreases-qualifiers : goal.decreases-qualifiers
decreases-qualifiers l = 4 * goal.size-qualifiers l + 2

abbrev pub decreases-push_qualifier : goal.decreases-push_qualifier
decreases-push_qualifier l = 4 * q.the_size l.tree.now + 1

abbrev pub decreases-qualifier : goal.decreases-qualifier
decreases-qualifier l = 4 * goal.size-qualifier l

abbrev pub decreases-operations : goal.decreases-operations
decreases-operations l = 4 * goal.size-operations l + 1

abbrev pub decreases-interval : goal.decreases-interval
decreases-interval l = 4 * goal.size-interval l

abbrev pub decreases-query : goal.decreases-query
decreases-query l = 4 * goal.size-query l

abbrev pub decreases-condition : goal.decreases-condition
decreases-condition l = 4 * goal.size-condition l + 1
