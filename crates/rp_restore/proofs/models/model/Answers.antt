use Rattle.std.proofs.Common.{sym, ap, ◌∙◌, subst}
use Rattle.std.proofs.lemmas.Result.{err_from_is_err_and}
use Rattle.rp_plain.specs.Valid.{IsValid}
use Rattle.rp_restore_laws.specs.Restoring.{with_model}
use Rattle.rp_restored_rows.specs.Models.{model_of}
use Rattle.rp_snapshots.specs.Snapshots.{first_version, file_in}
use Rattle.rp_restore.proofs.Numbers.{model_numbers}
use Rattle.rp_restore.proofs.models.model.Goals as goal

pub returns-in_err-row-clause-again : goal.returns-in_err-row-clause-again
returns-in_err-row-clause-again c m rest may is =
    let r = c.args.holdings.now.content in
    let file = c.in_ok-file.ensures.again (file_in first_version r.schemas m.holds) m rest is in
    let memory = c.in_err-row.ensures.again m rest (model_numbers r.schemas r.partners m may.valid) file.1 in
    let p = err_from_is_err_and c.from_residual-in_err-row.result c.from_residual-in_err-row.ensures.1 in
    rw p.1 (p.2 ∙ memory)

pub returns-in_ok-hold_model-in-Ok-clause-valid : goal.returns-in_ok-hold_model-in-Ok-clause-valid
returns-in_ok-hold_model-in-Ok-clause-valid c = subst IsValid (sym c.in_ok-hold_model-in-Ok.ensures.held) (c.restoring_keeps_validity.ensures.model c.args.holdings.now.content (model_of c.in-Ok.model) c.in-Ok.ensures.may c.requires)

pub returns-in_ok-hold_model-in-Ok-clause-again : goal.returns-in_ok-hold_model-in-Ok-clause-again
returns-in_ok-hold_model-in-Ok-clause-again c m rest may is =
    let r = c.args.holdings.now.content in
    let file = c.in_ok-file.ensures.again (file_in first_version r.schemas m.holds) m rest is in
    let row = c.in_ok-row.ensures.again m rest (model_numbers r.schemas r.partners m may.valid) file.1 in
    let taken = c.in-Ok.ensures.again m may row.0 file.0 in
    (c.in_ok-hold_model-in-Ok.ensures.held ∙ ap (λ x. with_model x r) taken, row.1)

pub returns-in-Err-clause-again : goal.returns-in-Err-clause-again
returns-in-Err-clause-again c m rest may is =
    let r = c.args.holdings.now.content in
    let file = c.in_ok-file.ensures.again (file_in first_version r.schemas m.holds) m rest is in
    let row = c.in_ok-row.ensures.again m rest (model_numbers r.schemas r.partners m may.valid) file.1 in
    c.refused.ensures (c.in-Err.ensures.again m may row.0 file.0)
