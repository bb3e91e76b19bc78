use Rattle.std.proofs.Common.{◌≡◌, drop, map}
use Rattle.ex_typing.specs.Expressions as spec
use Rattle.ex_typing.specs.Trees as trees
use Rattle.ex_typing.proofs.trees.+trees.Given as goal

abbrev pub invariant-expressions-loop-tree : goal.invariant-expressions-loop-tree
invariant-expressions-loop-tree l = spec.each_after l.scope (l.kinds, l.fault) (map (spec.typed_expression l.schema) (drop l.tree-index l.list)) ≡ trees.expressions l.schema l.scope l.list

abbrev pub invariant-operations-loop-tree : goal.invariant-operations-loop-tree
invariant-operations-loop-tree l = spec.one_after_another l.scope l.found (map (trees.typed_operation l.schema) (drop l.tree-index l.list)) ≡ trees.operations l.schema l.scope l.fn.left l.list

abbrev pub invariant-qualifiers-loop-tree : goal.invariant-qualifiers-loop-tree
invariant-qualifiers-loop-tree l = spec.one_after_another l.scope l.found (map (trees.typed_qualifier l.schema) (drop l.tree-index l.list)) ≡ trees.qualifiers l.schema l.scope l.fn.base l.list
