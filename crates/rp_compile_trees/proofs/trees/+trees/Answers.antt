use Rattle.std.proofs.Common.{arith}
use Rattle.std.proofs.lemmas.Grind.{common_steps}
use Rattle.rp_compile_trees.proofs.trees.+trees.Goals as goal

pub expressions-loop-tree-preserved : goal.expressions-loop-tree-preserved
expressions-loop-tree-preserved t c = grind (arith, common_steps)

pub expressions-returns : goal.expressions-returns
expressions-returns t c = grind (arith, common_steps)

pub operations-returns : goal.operations-returns
operations-returns t c = grind (arith, common_steps)

pub qualifiers-loop-tree-preserved : goal.qualifiers-loop-tree-preserved
qualifiers-loop-tree-preserved t c = grind (arith, common_steps)

pub qualifiers-returns : goal.qualifiers-returns
qualifiers-returns t c = grind (arith, common_steps)
