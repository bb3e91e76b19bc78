use Rattle.std.proofs.Common.{length}
use Rattle.fault_places.proofs.definitions.Definitions.of.Given as goal

abbrev pub decreases-tokens : goal.decreases-tokens
decreases-tokens l = length l.tokens.tokens
