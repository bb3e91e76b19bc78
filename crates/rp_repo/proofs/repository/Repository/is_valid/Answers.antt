use Rattle.std.proofs.Common.{refl, subst}
use Rattle.rp_core.specs.Held.{Kept}
use Rattle.rp_laws.specs.Laws.{IsReadAgainWhole}
use Rattle.rp_repo.proofs.repository.Repository.is_valid.Goals as goal

pub returns-clause-again : goal.returns-clause-again
returns-clause-again c =
    let held : Kept = c.self.inside.holdings in
    subst (λ (k : Kept). IsReadAgainWhole k.content) c.self.view_is (c.self.invariant.1 held.content refl c.self.invariant.0)
