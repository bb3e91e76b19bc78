use Rattle.rp_restore_laws.proofs.Kept.{model_keeps_valid, group_keeps_valid}
use Rattle.rp_restore_laws.proofs.restoring_keeps_validity.Goals as goal

pub returns-clause-model : goal.returns-clause-model
returns-clause-model c = model_keeps_valid

pub returns-clause-group : goal.returns-clause-group
returns-clause-group c = group_keeps_valid
