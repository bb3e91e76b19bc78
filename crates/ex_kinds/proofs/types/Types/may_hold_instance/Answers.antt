use Rattle.std.specs.List.{list_any}
use Rattle.std.proofs.Common.{◌∙◌, ap}
use Rattle.ex_kinds.specs.Types as spec
use Rattle.ex_kinds.proofs.Tests.{holds_exact}
use Rattle.ex_kinds.proofs.types.Types.may_hold_instance.Goals as goal

pub returns : goal.returns
returns c =
    let found = c.self.invariant.1.1.1.1 in
    c.any_holds_instance.ensures ∙ ap (λ l. list_any (spec.holds_by l) c.args.kinds.now) (c.deref.ensures.value ∙ found ∙ ap (λ t. spec.holding t) c.self.view_is)
    ∙ holds_exact c.args.self.now c.args.kinds.now
