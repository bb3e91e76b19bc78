use Rattle.std.proofs.Common.{sym, ◌∙◌, ap}
use Rattle.ex_renamings.specs.Leading.{is_marked}
use Rattle.ex_kinds.specs.Types as spec
use Rattle.ex_kinds.proofs.Tests.{meaning_of_type, meaning_of_itself}
use Rattle.ex_kinds.proofs.types.Types.holds_instance_plainly.Goals as goal

pub returns-in-Some : goal.returns-in-Some
returns-in-Some c =
    let types = c.args.self.now in
    let test = spec.holds_by (spec.holding types) in
    let found = c.self.invariant.1.1.1.0 in
    c.is_marked.ensures ∙ ap (λ l. is_marked l c.in-Some.number) (c.deref.ensures.value ∙ found ∙ ap (λ t. spec.meeting t (spec.holds_by (spec.holding t))) c.self.view_is)
    ∙ meaning_of_type types test c.args.kind c.in-Some.number (sym c.alternative.ensures ∙ c.in-Some.is)

pub returns-in-None : goal.returns-in-None
returns-in-None c =
    let types = c.args.self.now in
    let found = c.self.invariant.1.1.1.1 in
    c.holds_instance.ensures ∙ ap (λ l. spec.holds_by l c.args.kind) (c.deref-in-None.ensures.value ∙ found ∙ ap (λ t. spec.holding t) c.self.view_is)
    ∙ meaning_of_itself types (spec.holds_by (spec.holding types)) c.args.kind (sym c.alternative.ensures ∙ c.in-None.is)
