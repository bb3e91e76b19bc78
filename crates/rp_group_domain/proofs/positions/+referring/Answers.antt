use Rattle.std.proofs.Common.{map, sym, ◌∙◌, ap}
use Rattle.rp_positions.specs.Positions.{positioned}
use Rattle.rp_group_domain.proofs.Positioning.{itself-aggregate, itself-named}
use Rattle.rp_group_domain.proofs.positions.+referring.Goals as goal

pub has_reference-returns-in-Agg : goal.has_reference-returns-in-Agg
has_reference-returns-in-Agg t c = λ none position.
    itself-aggregate position c.args.value.now c.in-Agg.kind c.in-Agg.elements c.in-Agg.is
    (ap (map (positioned position)) (sym c.as_slice.ensures) ∙ c.one_has_reference.ensures none position ∙ c.as_slice.ensures)

pub has_reference-returns-in-Named : goal.has_reference-returns-in-Named
has_reference-returns-in-Named t c = λ none position.
    itself-named position c.args.value.now c.in-Named.defined_type c.in-Named.value c.in-Named.is
    (ap (positioned position) (sym c.get.ensures) ∙ c.has_reference.ensures none position ∙ c.get.ensures)
