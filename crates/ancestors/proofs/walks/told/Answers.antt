use Rattle.ancestors.proofs.Walked.{told_down}
use Rattle.ancestors.proofs.walks.told.Goals as goal

pub returns-then-is_down : goal.returns-then-is_down
returns-then-is_down c = rw c.if-is_down.true (told_down c.args.trees.now.graph.items c.args.trees.now.below.items c.requires.turned c.args.from c.args.to (rw c.member_count-count.ensures at c.if-from-count.false) c.told_by_trees.result c.told_by_trees.ensures)
