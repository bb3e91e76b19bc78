-- What the instances of some entities have values of: the entities in the order of the values, and the explicit attributes of
-- each record that a file writes of them (ISO 10303-11:1994, 9.2.1; ISO 10303-21:2002, 10.2.5).
use Rattle.std.specs.Prelude.{◌≡◌, ℕ, zero, ◌==◌, nat_lt, if◌then◌else◌, List, [], ◌∷◌, map, Option, Some, None}
use Rattle.std.specs.List.{find, flat_map, list_all, position_or_len}
use Rattle.plain_data.specs.Numbers.{is_among}
use Rattle.ex_layouts.specs.Entities.{entities, is_legal, line_of, name_rank}
use Rattle.ex_layouts.specs.declared.layout.Layout.{Layout}
use Rattle.ex_layouts.specs.declared.read_slot.ReadSlot.{ReadSlot}
use Rattle.ex_selects.specs.Ends.{target}
use Rattle.ex_slots.specs.Slots.{Slot, slots, slots_of, is_derived, derived_by}
use Rattle.ex_schemas.specs.Schemas.{Checked}
use Rattle.p21_instances.specs.Instances.{in_order}
use Rattle.rp_content.specs.declared.instance.Entities.{Entities}
use Rattle.rp_content.specs.declared.instance.Entities.TheVariants.{Leaf, Several}

-- the layout, if there can be instances of its entities
abbrev pub legal : Layout → Option Layout
legal layout = if layout.is_legal then Some layout else None

-- where the entity stands
unfoldable pub place_in : List ℕ → ℕ → ℕ
place_in numbers entity = position_or_len (λ n. n == entity) numbers

module _ (schema : Checked) where
  -- a slot as its values are read: what its declared type comes to
  abbrev pub read_slot : Slot → ReadSlot
  read_slot s = record { is_derived = s.is_derived; expected = target schema.named.schema.types s.data_type }

  -- ---- one record: that of an entity and all above it

  abbrev pub leaf_slots : ℕ → List Slot
  leaf_slots entity = slots (entities schema) (line_of schema entity)

  abbrev pub of_leaf : ℕ → Layout
  of_leaf entity = record {
    instance_entities = Leaf entity;
    entities = line_of schema entity;
    slots = leaf_slots entity ∷ [];
    read_slots = map read_slot (leaf_slots entity) ∷ [];
    places = zero ∷ [];
    is_legal = is_legal schema (line_of schema entity);
  }

  -- ---- a record of each entity

  unfoldable pub in_name_order : List ℕ → List ℕ
  in_name_order = in_order (λ k l. nat_lt (name_rank schema k) (name_rank schema l))

  -- the one of which all others are supertypes
  unfoldable pub leaf : List ℕ → Option ℕ
  leaf numbers = find (λ entity. list_all (is_among (line_of schema entity)) numbers) numbers

  unfoldable pub slots_in : List ℕ → List (List Slot)
  slots_in numbers = map (slots_of (entities schema) (is_derived (flat_map (derived_by (entities schema)) numbers))) numbers

  abbrev pub entities_by : List ℕ → Option ℕ → Entities
  entities_by numbers None = Several (in_name_order numbers)
  entities_by numbers (Some entity) = Leaf entity

  -- values are kept by the leaf's line, and else in the order of the entities' names
  abbrev pub order_by : List ℕ → Option ℕ → List ℕ
  order_by numbers None = in_name_order numbers
  order_by numbers (Some entity) = line_of schema entity

  -- of entities whose records stand in this order
  abbrev pub of_several : List ℕ → Layout
  of_several numbers = record {
    instance_entities = entities_by numbers (leaf numbers);
    entities = numbers;
    slots = slots_in numbers;
    read_slots = map (map read_slot) (slots_in numbers);
    places = map (place_in numbers) (order_by numbers (leaf numbers));
    is_legal = is_legal schema numbers;
  }

  -- the slots of each record as their values are read are those of its slots
  abbrev pub AreRead : Layout → Type 0
  AreRead layout = layout.read_slots ≡ map (map read_slot) layout.slots

  -- ---- by the entities of an instance

  abbrev pub layout : Entities → Layout
  layout (Leaf entity) = of_leaf entity
  layout (Several all) = of_several all
