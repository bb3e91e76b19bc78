use Rattle.std.proofs.Common.{◌≡◌, length}
use Rattle.ex_operators.specs.Fitting.{all_fit}
use Rattle.ex_operators.proofs.fitting.all_fit.Given as goal

abbrev pub invariant-loop-values : goal.invariant-loop-values
invariant-loop-values l = all_fit l.types l.values l.places ≡ all_fit l.types l.fn.values l.fn.places

abbrev pub decreases-loop-values : goal.decreases-loop-values
decreases-loop-values l = length l.values
