use Rattle.std.proofs.Common.{◌∙◌}
use Rattle.ex_operators.proofs.Operands.{shared_by_set}
use Rattle.ex_operators.proofs.possibilities.share.Goals as goal

pub returns : goal.returns
returns c = c.any_in.ensures ∙ shared_by_set c.in_ok-set.set.keys c.args.second.now c.args.first.now c.in_ok-set.ensures
