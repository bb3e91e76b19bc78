use Rattle.std.proofs.Common.{◌∙◌}
use Rattle.ancestors.proofs.Walked.{above_is}
use Rattle.ancestors.proofs.walks.above_within.Goals as goal

pub returns-in-Some : goal.returns-in-Some
returns-in-Some c = (rw c.in-Some.is at c.in_ok-by_down.ensures) ∙ above_is c.args.trees.now.graph.items c.args.trees.now.below.items c.requires.kept.turned c.args.above c.args.member c.requires.above
