use Rattle.rp_restore_laws.proofs.Whole.{rows_give}
use Rattle.rp_restore_laws.proofs.rows_give_repository.Goals as goal

pub returns : goal.returns
returns c = rows_give
