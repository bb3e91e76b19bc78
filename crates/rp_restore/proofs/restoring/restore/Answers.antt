use Rattle.std.proofs.Common.{sym, ap, ◌∙◌}
use Rattle.std.proofs.lemmas.Result.{err_from_is_err_and}
use Rattle.rp_plain.specs.Opening.{new_fault, opened}
use Rattle.rp_snapshots.specs.Snapshots.{snapshot_of}
use Rattle.rp_restore.specs.Faults.{of_lack}
use Rattle.rp_restore.proofs.Faults.{refused_bytes, refused_lack, refused_new, wanting_bytes, wanting_new}
use Rattle.rp_restore.proofs.restoring.restore.Goals as goal

pub returns-in_err-holdings-clause-new : goal.returns-in_err-holdings-clause-new
returns-in_err-holdings-clause-new c =
    let p = err_from_is_err_and c.from_residual.result c.from_residual.ensures.1 in
    refused_new c.from_residual.result p.0 (new_fault c.args.schemas.now c.args.partners.items) c.in_err-holdings.field-0.0 p.1 p.2 c.in_err-holdings.ensures.err

pub returns-in_err-holdings-clause-again : goal.returns-in_err-holdings-clause-again
returns-in_err-holdings-clause-again c r valid schemas partners is =
    let p = err_from_is_err_and c.from_residual.result c.from_residual.ensures.1 in
    let none = (λ i. new_fault (sym schemas i) (sym partners i)) ∙ valid.opens in
    rw p.1 (wanting_new p.0 (new_fault c.args.schemas.now c.args.partners.items) c.in_err-holdings.field-0.0 p.2 none c.in_err-holdings.ensures.err)

pub returns-in_err-hold_bytes-clause-new : goal.returns-in_err-hold_bytes-clause-new
returns-in_err-hold_bytes-clause-new c =
    let p = err_from_is_err_and c.from_residual-in_err-hold_bytes.result c.from_residual-in_err-hold_bytes.ensures.1 in
    refused_lack c.from_residual-in_err-hold_bytes.result p.0 (new_fault c.args.schemas.now c.args.partners.items) c.in_err-hold_bytes.field-0.0 p.1 p.2 c.in_ok-holdings.ensures.ok

pub returns-in_err-hold_bytes-clause-again : goal.returns-in_err-hold_bytes-clause-again
returns-in_err-hold_bytes-clause-again c r valid schemas partners is =
    let p = err_from_is_err_and c.from_residual-in_err-hold_bytes.result c.from_residual-in_err-hold_bytes.ensures.1 in
    let opens = c.in_ok-holdings.ensures.content ∙ (λ i. opened (sym schemas i) (sym partners i)) in
    let memory = c.in_err-hold_bytes.ensures.again r valid opens is in
    rw p.1 (p.2 ∙ ap of_lack memory)

pub returns-in_err-compare-clause-new : goal.returns-in_err-compare-clause-new
returns-in_err-compare-clause-new c =
    let p = err_from_is_err_and c.from_residual-in_err-compare.result c.from_residual-in_err-compare.ensures.1 in
    refused_bytes c.from_residual-in_err-compare.result p.0 c.in_err-compare.field-0.0 (new_fault c.args.schemas.now c.args.partners.items) c.args.bytes.now (snapshot_of c.hold_bytes.new.holdings.content) p.1 p.2 c.in_err-compare.ensures c.in_ok-holdings.ensures.ok

pub returns-in_err-compare-clause-again : goal.returns-in_err-compare-clause-again
returns-in_err-compare-clause-again c r valid schemas partners is =
    let p = err_from_is_err_and c.from_residual-in_err-compare.result c.from_residual-in_err-compare.ensures.1 in
    let opens = c.in_ok-holdings.ensures.content ∙ (λ i. opened (sym schemas i) (sym partners i)) in
    let held = c.in_ok-hold_bytes.ensures.again r valid opens is in
    rw p.1 (wanting_bytes p.0 c.in_err-compare.field-0.0 c.args.bytes.now (snapshot_of c.hold_bytes.new.holdings.content) p.2 c.in_err-compare.ensures (is ∙ ap snapshot_of (sym held)))
