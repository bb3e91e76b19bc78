use Rattle.rp_restore_laws.proofs.Whole.{rows_may_be_taken}
use Rattle.rp_restore_laws.proofs.rows_may_be_put.Goals as goal

pub returns : goal.returns
returns c = rows_may_be_taken
