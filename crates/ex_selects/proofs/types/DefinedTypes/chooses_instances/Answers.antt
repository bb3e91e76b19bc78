use Rattle.std.proofs.Common.{◌∙◌, ap}
use Rattle.ex_renamings.specs.Leading.{is_marked}
use Rattle.ex_selects.specs.Shared.{with_instances}
use Rattle.ex_selects.proofs.Renamed.{instances_marked}
use Rattle.ex_selects.proofs.types.DefinedTypes.chooses_instances.Goals as goal

pub returns : goal.returns
returns c =
    rw (← c.self.view_is) (c.is_marked.ensures
    ∙ ap (λ marks. is_marked marks c.unrenamed.result) (c.deref.ensures.value ∙ c.self.invariant.5)
    ∙ ap (is_marked (with_instances c.self.inside.declared)) c.unrenamed.ensures
    ∙ instances_marked c.self.inside.declared c.args.number)
