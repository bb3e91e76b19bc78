use Rattle.std.proofs.Common.{sym, subst}
use Rattle.rp_laws.specs.Laws.{TextAgain}
use Rattle.rp_repo.proofs.repository.Repository.restore.Goals as goal

pub invariant_of-result : goal.invariant_of-result
invariant_of-result c = (c.in-Ok.ensures.valid, subst TextAgain (sym c.in-Ok.ensures.schemas) c.model_text_again.ensures)
