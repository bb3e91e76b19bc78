use Rattle.std.proofs.Common.{sym, ◌∙◌, ap}
use Rattle.ex_renamings.specs.Leading.{is_marked}
use Rattle.ex_kinds.specs.Types as spec
use Rattle.ex_kinds.proofs.Tests.{meaning_of_type, meaning_of_itself}
use Rattle.ex_kinds.proofs.types.Types.has_elements_of.Goals as goal

pub returns-in-Some : goal.returns-in-Some
returns-in-Some c =
    let types = c.args.self.now in
    let found = c.self.invariant.1.1.0 in
    c.is_marked.ensures ∙ ap (λ l. is_marked l c.in-Some.number) (c.deref.ensures.value ∙ found ∙ ap (λ t. spec.meeting t spec.has_elements) c.self.view_is)
    ∙ meaning_of_type types spec.has_elements c.args.kind c.in-Some.number (sym c.alternative.ensures ∙ c.in-Some.is)

pub returns-in-None : goal.returns-in-None
returns-in-None c = c.has_elements.ensures ∙ meaning_of_itself c.args.self.now spec.has_elements c.args.kind (sym c.alternative.ensures ∙ c.in-None.is)
