use Rattle.std.proofs.Common.{sym, subst}
use Rattle.rp_laws.specs.Laws.{TextAgain}
use Rattle.rp_plain.specs.Plain.{Plain}
use Rattle.rp_plain.specs.Valid.{IsValid}
use Rattle.rp_repo.proofs.repository.Repository.new.Goals as goal

pub invariant_of-result : goal.invariant_of-result
invariant_of-result c =
    let valid = c.step_keeps_validity.ensures.opening c.args.schemas.now c.args.partners.items c.in_ok-holdings.ensures.ok in
    subst (λ (r : Plain). IsValid r × TextAgain r.schemas) (sym c.in_ok-holdings.ensures.content) (valid, c.model_text_again.ensures)
