use Rattle.std.proofs.Common.{◌≡◌, map, ◌∙◌, subst}
use Rattle.std.specs.List.{zip}
use Rattle.ex_layouts.specs.Layouts.{read_slot}
use Rattle.plain_data.specs.Gives.{Gives}
use Rattle.p21_mappings.specs.Instances.{each}
use Rattle.p21_mappings.specs.ReadSlots.{record_values}
use Rattle.p21_mappings.proofs.Slots.{same_records}
use Rattle.p21_mappings.proofs.parts.values_by.Goals as goal

pub returns : goal.returns
returns g c =
    let schema = c.args.schema.now in
    let defined = g.N.DefinedNames.is_defined c.args.names.now in
    let read : c.as_slice.result.now ≡ map (map (read_slot schema)) c.args.layout.now.slots = c.as_slice.ensures ∙ c.requires in
    subst (λ o. Gives (λ xs. xs) c.all_values.result o)
    ((λ i. each (record_values schema defined) (zip (read i) c.args.parts.now)) ∙ same_records schema defined c.args.layout.now.slots c.args.parts.now)
    c.all_values.ensures
