use Rattle.rp_operators.specs.Naming.{AreKept}
use Rattle.rp_operators.proofs.type_names.rows_of.Given as goal

abbrev pub invariant-loop-at : goal.invariant-loop-at
invariant-loop-at g l = AreKept l.schema l.rows
