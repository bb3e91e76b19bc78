use Rattle.p21_laws.proofs.Accepted.{accepted}
use Rattle.p21_laws.proofs.whole.accepted_schema.Goals as goal

pub returns : goal.returns
returns c = accepted
