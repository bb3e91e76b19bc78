use Rattle.std.proofs.Common.{◌∙◌, ap, subst}
use Rattle.ex_named.specs.Outcomes.{Binds, Outcome}
use Rattle.ex_bind_entities.specs.Inherited.{read}
use Rattle.ex_bind_entities.proofs.Again.{once_by}
use Rattle.ex_bind_entities.proofs.repeated.once_redeclared.Goals as goal

pub returns : goal.returns
returns c =
    let context = c.args.context.now in
    let P : Outcome (Unit {0}) → Type 0 = λ o. Binds c.all_once.result o in
    subst P (once_by context.declarations.now context.supertypes.now context.entity c.args.body.now (read c.deref.result.now) (ap read c.deref.ensures.value ∙ c.in_ok-list.ensures)) c.all_once.ensures
