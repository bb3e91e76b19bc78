use Rattle.rp_messages.proofs.MessageTurns.{two_connections}
use Rattle.rp_messages.proofs.laws.two_connections.Goals as goal

pub returns : goal.returns
returns c = two_connections c.two_runs.ensures
