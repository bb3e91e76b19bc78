use Rattle.std.proofs.Common.{arith}
use Rattle.std.proofs.lemmas.Grind.{common_steps}
use Rattle.rp_compile_trees.proofs.statement.+statements.Goals as goal

pub block-loop-tree-preserved : goal.block-loop-tree-preserved
block-loop-tree-preserved t c = grind (arith, common_steps)

pub block-returns : goal.block-returns
block-returns t c = grind (arith, common_steps)

pub case_actions-loop-tree-preserved : goal.case_actions-loop-tree-preserved
case_actions-loop-tree-preserved t c = grind (arith, common_steps)

pub case_actions-returns : goal.case_actions-returns
case_actions-returns t c = grind (arith, common_steps)
