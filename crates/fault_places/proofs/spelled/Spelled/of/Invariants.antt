use Rattle.std.proofs.Common.{length}
use Rattle.fault_places.proofs.spelled.Spelled.of.Given as goal

abbrev pub decreases-tokens : goal.decreases-tokens
decreases-tokens l = length l.tokens.tokens
