use Rattle.rp_meaning.proofs.Limits.{decided_by_both}
use Rattle.rp_meaning.proofs.laws.outcomes_are_of_steps_and_bodies.Goals as goal

pub returns : goal.returns
returns c = decided_by_both
