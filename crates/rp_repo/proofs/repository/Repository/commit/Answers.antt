use Rattle.std.proofs.Common.{sym, subst}
use Rattle.rp_laws.specs.Laws.{TextAgain}
use Rattle.rp_plain.specs.Plain.{Plain}
use Rattle.rp_plain.specs.Valid.{IsValid}
use Rattle.rp_core.specs.Held.{Kept, made, Fits}
use Rattle.rp_repo.proofs.repository.Repository.commit.Goals as goal

pub commit-requires : goal.commit-requires
commit-requires c = subst (λ (k : Kept). Fits k c.args.pending) (sym c.self.view_is) c.requires.fits

pub invariant_of-self : goal.invariant_of-self
invariant_of-self c = (
  subst IsValid (sym c.commit.ensures.content) (subst (λ (k : Kept). IsValid (made c.args.pending.steps k)) (sym c.self.view_is) c.requires.valid),
  subst (λ (r : Plain). TextAgain r.schemas) (sym c.commit.ensures.content) c.self.invariant.1,
)
