use Rattle.p21_laws.proofs.Accepted.{types}
use Rattle.p21_laws.proofs.law.accepted_types.Goals as goal

pub returns : goal.returns
returns c = types
