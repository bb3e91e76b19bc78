-- What the layout of an instance's entities says of it.
use Rattle.std.proofs.Common.{◌≡◌, List, [], ◌∷◌, ◌++◌, map, refl, sym, ◌∙◌, ap, append-nil}
use Rattle.std.specs.List.{flat_map}
use Rattle.std.proofs.lemmas.List.Folds.{flat_map-map}
use Rattle.ex_layouts.specs.Entities.{entities, entities_of}
use Rattle.ex_layouts.specs.Layouts.{layout, leaf_slots, slots_in}
use Rattle.ex_slots.specs.Slots.{Slot, slots, slots_of, is_derived, derived_by}
use Rattle.ex_schemas.specs.Schemas.{Checked}
use Rattle.rp_content.specs.declared.instance.Entities.{Entities}
use Rattle.rp_content.specs.declared.instance.Entities.TheVariants.{Leaf, Several}
use Rattle.rp_population.specs.Found.{all_slots}

pub entities_are : (schema : Checked) (all : Entities) → (layout schema all).entities ≡ entities_of schema all
entities_are schema (Leaf entity) = refl
entities_are schema (Several all) = refl

-- the attributes of all records are those of the instance
pub slots_are : (schema : Checked) (all : Entities) → all_slots (layout schema all).slots ≡ slots (entities schema) (entities_of schema all)
unfolding slots slots_in
slots_are schema (Leaf entity) = append-nil (leaf_slots schema entity)
slots_are schema (Several all) = flat_map-map (λ (xs : List Slot). xs) (slots_of (entities schema) (is_derived (flat_map (derived_by (entities schema)) all))) all
