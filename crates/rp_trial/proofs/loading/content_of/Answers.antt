use Rattle.rp_trial.proofs.Models.{searchable}
use Rattle.rp_trial.proofs.loading.content_of.Goals as goal

pub returns-in-Ok : goal.returns-in-Ok
returns-in-Ok c = searchable _ _ _ c.in-Ok.content c.in-Ok.ensures.bound c.in-Ok.ensures.order
