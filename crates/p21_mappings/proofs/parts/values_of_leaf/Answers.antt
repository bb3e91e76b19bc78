use Rattle.std.proofs.Common.{◌∙◌, subst}
use Rattle.std.specs.List.{zip}
use Rattle.ex_layouts.specs.Layouts.{leaf_slots}
use Rattle.plain_data.specs.Gives.{Gives}
use Rattle.p21_mappings.specs.Instances.{each}
use Rattle.p21_mappings.specs.ReadSlots.{slot_value}
use Rattle.p21_mappings.proofs.Slots.{same_values}
use Rattle.p21_mappings.proofs.parts.values_of_leaf.Goals as goal

pub returns : goal.returns
returns g c =
    let schema = c.args.schema.now in
    let defined = g.N.DefinedNames.is_defined c.args.names.now in
    subst (λ o. Gives (λ xs. xs) c.part_values.result o)
    ((λ i. each (slot_value schema defined) (zip (c.requires i) (c.as_slice.ensures i))) ∙ same_values schema defined (leaf_slots schema c.args.entity) c.args.part.now.values)
    c.part_values.ensures
