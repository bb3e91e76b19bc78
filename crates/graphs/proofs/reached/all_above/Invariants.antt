use Rattle.std.proofs.Common.{◌+◌, length}
use Rattle.graphs.proofs.Left.{left}
use Rattle.graphs.proofs.Search.{Search, all}
use Rattle.graphs.proofs.reached.all_above.Given as goal

abbrev pub invariant-loop-next : goal.invariant-loop-next
invariant-loop-next l = Search l.graph l.member all l.found.keys l.waiting.items

abbrev pub decreases-loop-next : goal.decreases-loop-next
decreases-loop-next l = length l.waiting.items + left length l.graph l.found.keys
