use Rattle.std.proofs.Common.{length}
use Rattle.ex_scopes.proofs.attributes.+and_left.Given as goal

abbrev pub decreases-and_left : goal.decreases-and_left
decreases-and_left l = length l.left.now
