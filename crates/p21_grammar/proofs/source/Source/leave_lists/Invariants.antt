use Rattle.std.proofs.Common.{◌≡◌, length}
use Rattle.p21_grammar.proofs.source.Source.leave_lists.Given as goal

abbrev pub invariant-values : goal.invariant-values
invariant-values l = l.self ≡ l.fn.self

abbrev pub decreases-values : goal.decreases-values
decreases-values l = length l.list
