use Rattle.std.proofs.Common.{◌<◌, length, sym, subst}
use Rattle.rp_laws.specs.Laws.{TextAgain}
use Rattle.rp_plain.specs.Plain.{Plain}
use Rattle.rp_plain.specs.Valid.{IsValid}
use Rattle.rp_repo.proofs.Partners.{ready, valid_named, valid_listed}
use Rattle.rp_repo.proofs.repository.Repository.prepare.Goals as goal

pub prepare-requires-clause-order : goal.prepare-requires-clause-order
prepare-requires-clause-order c = c.self.invariant.0.order

pub prepare-requires-clause-named : goal.prepare-requires-clause-named
prepare-requires-clause-named c = valid_named c.self.inside.holdings.content c.self.invariant.0

pub prepare-requires-clause-listed : goal.prepare-requires-clause-listed
prepare-requires-clause-listed c = valid_listed c.self.inside.holdings.content c.self.invariant.0

pub invariant_of-self : goal.invariant_of-self
invariant_of-self c = subst (λ (r : Plain). IsValid r × TextAgain r.schemas) (sym c.prepare.ensures.content) c.self.invariant

pub returns-clause-ready : goal.returns-clause-ready
returns-clause-ready c =
    let within : c.caller.inside.place < length c.self.inside.holdings.content.partners = rw (c.self.view_is, c.caller.view_is) c.requires in
    ready c.step_keeps_validity.ensures.step c.self.inside.holdings c.prepare.new.self c.caller.inside.place c.args.request c.prepare.result within c.self.invariant.0 c.prepare.ensures.content c.prepare.ensures.prepared c.prepare.ensures.fits
