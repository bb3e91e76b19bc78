use Rattle.std.proofs.Common.{rules, ◌≡◌, Some, refl}
use Rattle.std.proofs.lemmas.Result.{err_from_is_err_and}
use Rattle.rp_program.proofs.StartLemmas.{new_fails, opens_so}
use Rattle.rp_program.proofs.opening.begun.Goals as goal

pub returns-in_err-new-in-None : goal.returns-in_err-new-in-None
returns-in_err-new-in-None c =
    let p = err_from_is_err_and c.from_residual.result c.from_residual.ensures.1 in
    rw (p.1, p.2) (λ tokens. new_fails c.args.schemas.now c.args.partners.items tokens c.args.given c.in_err-new-in-None.field-0.0 c.in_err-new-in-None.ensures.err)

pub returns-in_err-new-in-Some-None : goal.returns-in_err-new-in-Some-None
returns-in_err-new-in-Some-None c =
    let p = err_from_is_err_and c.from_residual-in_err-new-in-Some-None.result c.from_residual-in_err-new-in-Some-None.ensures.1 in
    rw (p.1, p.2) (λ tokens. new_fails c.args.schemas.now c.args.partners.items tokens c.args.given c.in_err-new-in-Some-None.field-0.0 c.in_err-new-in-Some-None.ensures.err)

pub returns-in-Some-Some : goal.returns-in-Some-Some
returns-in-Some-Some c =
    let same : c.args.given ≡ Some (record { path = c.in-Some-Some.field-0.path.now; bytes = Some c.deref.result.now }) = search rules in
    rw same (opens_so _ _ _ _ (λ repository is. (is.0, (c.deref.result.now, refl, is.1), is.1.of_partners)) (λ why none. none) c.restored.result c.restored.ensures)
