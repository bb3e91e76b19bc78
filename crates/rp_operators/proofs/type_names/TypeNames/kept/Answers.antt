use Rattle.std.proofs.Common.{◌≡◌, ◌∙◌, IfSome, subst}
use Rattle.rp_operators.specs.Naming.{entity_names}
use Rattle.rp_operators.proofs.Texts.{of_instance}
use Rattle.rp_operators.proofs.type_names.TypeNames.kept.Goals as goal

pub returns-in_ok-instance-in-Inst : goal.returns-in_ok-instance-in-Inst
returns-in_ok-instance-in-Inst g c =
    subst (λ z. IfSome c.kept.result (λ names. names.now ≡ z))
    ((λ i. entity_names (c.self.view_is i) ((c.instance-in-Inst.view_is i).entities))
    ∙ of_instance c.args.self.now (g.D.Domain.population c.args.domain.now) c.args.value.now c.in-Inst.place c.in_ok-instance-in-Inst.instance c.in-Inst.is c.in_ok-instance-in-Inst.ensures)
    c.kept.ensures
