use Rattle.rp_index.specs.Pairs.{has_pair}
use Rattle.rp_index.proofs.Tests.{removed_beside}
use Rattle.rp_index.proofs.pairs.Pairs.remove.Goals as goal

pub returns-then-not-remove-clause-keeps : goal.returns-then-not-remove-clause-keeps
returns-then-not-remove-clause-keeps c =
    removed_beside (c.args.first, c.args.second) (has_pair c.args.self.now.settled.items) _ (has_pair c.remove.new.self.keys) c.remove.ensures.updates.0

pub returns-else-not-remove-clause-keeps : goal.returns-else-not-remove-clause-keeps
returns-else-not-remove-clause-keeps c =
    removed_beside (c.args.first, c.args.second) (has_pair c.args.self.now.settled.items) _ (has_pair c.remove.new.self.keys) c.remove.ensures.updates.0
