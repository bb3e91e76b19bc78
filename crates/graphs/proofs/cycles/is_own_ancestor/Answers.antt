use Rattle.std.proofs.Common.{◌∙◌}
use Rattle.graphs.proofs.Bounded.{answer_is}
use Rattle.graphs.proofs.cycles.is_own_ancestor.Goals as goal

pub returns : goal.returns
returns c = c.is_in.ensures ∙ answer_is c.args.graph.now c.args.member c.args.member _ (c.in_ok-above.ensures c.args.member)
