use Rattle.std.proofs.Common.{◌≡◌, ◌++◌, ◌∙◌, OnOk, Some, ap, subst}
use Rattle.rp_meaning.specs.Populations.{Instance}
use Rattle.rp_meaning.specs.TypeNames.{entity_names}
use Rattle.rp_operators.specs.Naming.{texts}
use Rattle.rp_operators.proofs.Texts.{entity_texts}
use Rattle.rp_operators.proofs.naming.push_instance.Goals as goal

pub returns-in-Some : goal.returns-in-Some
returns-in-Some g c =
    let schema = c.args.schema.now in
    let population = g.D.Domain.population c.args.domain.now in
    subst (λ zs. OnOk c.push_entities.result (c.push_entities.new.found ≡ c.args.found.now ++ zs))
    (entity_texts schema c.args.names.now.entities c.instance-in-Some.inside.entities.now c.as_slice-order.result.now (ap (λ names. names.entities) c.requires) c.as_slice-order.ensures
    ∙ ap (λ (i : Instance). texts schema (entity_names schema population (Some i))) c.instance-in-Some.view_is
    ∙ ap (λ i. texts schema (entity_names schema population i)) c.in-Some.ensures)
    c.push_entities.ensures
