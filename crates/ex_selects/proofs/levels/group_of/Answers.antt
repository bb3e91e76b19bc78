use Rattle.std.proofs.Common.{[]}
use Rattle.ex_selects.proofs.levels.group_of.Goals as goal

pub returns-clause-group : goal.returns-clause-group
returns-clause-group c = c.in_ok-push_asked.ensures.more [] (rw c.new-group.ensures tt)
