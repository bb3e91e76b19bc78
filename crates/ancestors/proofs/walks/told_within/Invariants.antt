use Rattle.graphs.proofs.Search.{Search}
use Rattle.ancestors.specs.Kept.{walked}
use Rattle.ancestors.proofs.Walked.{comes}
use Rattle.ancestors.proofs.walks.told_within.Given as goal

abbrev pub invariant-loop : goal.invariant-loop
invariant-loop l = Search (walked l.trees l.is_down) l.from (comes (walked l.trees l.is_down) l.to) l.found.keys l.waiting.items
