use Rattle.rp_meaning.proofs.Within.{outcome_within, report-within}
use Rattle.rp_meaning.proofs.laws.steps_are_bounded.Goals as goal

pub returns : goal.returns
returns c = record { evaluations = outcome_within; validations = report-within }
