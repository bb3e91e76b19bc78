use Rattle.std.proofs.Common.{sym, ◌∙◌, subst}
use Rattle.rp_plain.specs.Valid.{IsValidModel}
use Rattle.rp_snapshot_rows.specs.Again.{saved_model}
use Rattle.rp_restored_rows.specs.Models.{IsTaken, joins}
use Rattle.rp_restored_rows.proofs.ModelRows.{one_taken, taken_valid, unlinked, valid_taken}
use Rattle.rp_restored_rows.proofs.models.restored_model.Goals as goal

pub returns-in-Ok-clause-valid : goal.returns-in-Ok-clause-valid
returns-in-Ok-clause-valid c =
    let schemas = c.args.schemas.now in
    let partners = c.args.partners.now in
    subst (IsValidModel schemas partners) (sym c.joined.ensures) (taken_valid schemas partners c.args.saved c.as_bytes.result.now c.in-Ok.content c.in-Ok.ensures)

pub returns-in-Ok-clause-again : goal.returns-in-Ok-clause-again
returns-in-Ok-clause-again c = λ m valid same text.
    let schemas = c.args.schemas.now in
    let partners = c.args.partners.now in
    let file = c.as_bytes.result.now in
    let whole = valid_taken schemas partners c.accepted_schemas.ensures m valid file (c.as_bytes.ensures.value ∙ text) in
    let taken = subst (λ s. IsTaken schemas partners s file c.in-Ok.content) same c.in-Ok.ensures in
    let one = one_taken schemas partners (saved_model m) file c.in-Ok.content (unlinked m) taken whole in
    c.joined.ensures ∙ (λ i. joins (same i) (one i))

pub returns-in-Err-clause-again : goal.returns-in-Err-clause-again
returns-in-Err-clause-again c = λ m valid same text.
    let schemas = c.args.schemas.now in
    let partners = c.args.partners.now in
    let file = c.as_bytes.result.now in
    let whole = valid_taken schemas partners c.accepted_schemas.ensures m valid file (c.as_bytes.ensures.value ∙ text) in
    c.in-Err.ensures (unlinked m) (subst (λ s. IsTaken schemas partners s file (unlinked m)) (sym same) whole)
