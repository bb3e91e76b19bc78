use Rattle.std.proofs.Common.{◌≡◌, IfSome, Option, rules, sym, ◌∙◌, ap, subst}
use Rattle.rp_operators.specs.Naming.{entity_names}
use Rattle.rp_operators.specs.declared.type_names.Row.{Row}
use Rattle.rp_operators.proofs.type_names.kept.Goals as goal

pub returns-then-eq : goal.returns-then-eq
returns-then-eq c =
    let same : c.in_ok-row.row.now.entities ≡ c.args.entities.now = search rules in
    subst (λ (found : Option Row). IfSome found (λ row. row.names ≡ entity_names c.args.schema.now row.entities)) (sym c.in_ok-row.ensures.value) (c.requires c.in_ok-get.field-0.now)
    ∙ ap (entity_names c.args.schema.now) same
