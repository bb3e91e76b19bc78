use Rattle.std.proofs.Common.{◌∙◌}
use Rattle.graphs.proofs.Bounded.{answer_is}
use Rattle.ancestors.proofs.walks.is_above.Goals as goal

pub returns : goal.returns
returns c = c.is_in.ensures ∙ answer_is c.args.trees.now.graph.items c.args.member c.args.above _ (rw c.deref.ensures.value at c.in_ok-found.ensures c.args.above)
