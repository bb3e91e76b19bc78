use Rattle.rp_restore_laws.proofs.ByEdits.{model_is_edits, group_is_edits}
use Rattle.rp_restore_laws.proofs.row_is_its_edits.Goals as goal

pub returns-clause-model : goal.returns-clause-model
returns-clause-model c = model_is_edits

pub returns-clause-group : goal.returns-clause-group
returns-clause-group c = group_is_edits
