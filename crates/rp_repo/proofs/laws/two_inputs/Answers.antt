use Rattle.rp_repo.proofs.LineTurns.{two_inputs}
use Rattle.rp_repo.proofs.laws.two_inputs.Goals as goal

pub returns : goal.returns
returns c = two_inputs c.two_runs.ensures
