use Rattle.rp_meaning.proofs.Limits.{decided}
use Rattle.rp_meaning.proofs.laws.a_limit_is_of_steps.Goals as goal

pub returns : goal.returns
returns c = decided
