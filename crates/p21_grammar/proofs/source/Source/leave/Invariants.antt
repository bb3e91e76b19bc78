use Rattle.std.proofs.Common.{length}
use Rattle.p21_grammar.proofs.source.Source.leave.Given as goal

abbrev pub decreases-values : goal.decreases-values
decreases-values l = length l.list
