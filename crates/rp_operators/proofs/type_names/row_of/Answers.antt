use Rattle.std.proofs.Common.{◌∙◌, ap}
use Rattle.rp_operators.proofs.Texts.{of_entities}
use Rattle.rp_operators.proofs.type_names.row_of.Goals as goal

pub returns : goal.returns
returns c =
    c.in_ok-names.ensures
    ∙ of_entities c.args.schema.now c.args.names.now.entities c.args.entities.now c.in_ok-entities.entities c.as_slice-order.result.now _ c.push_entities.new.found
    (ap (λ names. names.entities) c.requires) c.as_slice-order.ensures c.in_ok-entities.ensures c.new-found.ensures c.in_ok-push_entities.ensures
