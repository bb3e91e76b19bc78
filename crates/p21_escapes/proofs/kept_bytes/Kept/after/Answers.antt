use Rattle.std.proofs.Common.{arith}
use Rattle.p21_escapes.proofs.LineEnds.{kept_fits}
use Rattle.p21_escapes.proofs.kept_bytes.Kept.after.Goals as goal

pub returns-clause-bounded : goal.returns-clause-bounded
returns-clause-bounded c = omega (arith, kept_fits c.after.result.now, c.after.ensures.within, c.self.told.1)
