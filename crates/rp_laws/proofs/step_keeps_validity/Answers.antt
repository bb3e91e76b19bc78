use Rattle.rp_laws.proofs.KeptValid.{step_valid, opening_valid}
use Rattle.rp_laws.proofs.step_keeps_validity.Goals as goal

pub returns-clause-step : goal.returns-clause-step
returns-clause-step c = step_valid

pub returns-clause-opening : goal.returns-clause-opening
returns-clause-opening c = opening_valid
