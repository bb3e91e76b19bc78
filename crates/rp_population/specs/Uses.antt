-- Who uses an instance of a population, and in which role (ISO 10303-11:1994, 15.26).
use Rattle.std.specs.Prelude.{ℕ, Bool, ◌&&◌, ◌==◌, List, [], ◌∷◌, map, filter, Option, Some, None, option_map, if◌then◌else◌}
use Rattle.std.specs.List.{flat_map, zip, slice_split}
use Rattle.std.specs.Str.{bytes_eq}
use Rattle.plain_data.specs.Numbers.{is_among}
use Rattle.ex_layouts.specs.Entities.{entities_of, entity_named, line_of}
use Rattle.ex_slots.specs.Slots.{Slot, slots}
use Rattle.ex_schemas.specs.Schemas.{Checked}
use Rattle.rp_content.specs.declared.instance.Instance.{Instance}
use Rattle.rp_value.specs.declared.value.Value.{Value}
use Rattle.rp_rows.specs.Contents.{references}
use Rattle.rp_population.specs.declared.place.Place.{Place}
use Rattle.rp_population.specs.declared.roles.Role.{Role}
use Rattle.rp_population.specs.declared.roles.Role.TheVariants.{Every, Of}
use Rattle.rp_population.specs.Populations.{Placed, stands_for}
use Rattle.rp_population.specs.Entities.{is_of}

abbrev pub is_full_stop : ℕ → Bool
is_full_stop byte = byte == 46

-- whether an attribute has this name, and one of these entities declares it
abbrev pub is_slot_of : List ℕ → List ℕ → Slot → Bool
is_slot_of line name s = is_among line s.place.entity && bytes_eq s.name.text name

module _ (schema : Checked) where
  -- ---- the names of roles

  abbrev pub role_of_attribute : List ℕ → List ℕ → Option Role
  role_of_attribute entity attribute = option_map (λ number. Of number attribute) (entity_named schema entity)

  -- the schema's own name, the name of one of its entities, and the name of an attribute, which are in upper case
  abbrev pub role_of_parts : List (List ℕ) → Option Role
  role_of_parts (name ∷ entity ∷ attribute ∷ []) = if bytes_eq name schema.named.schema.name.text then role_of_attribute entity attribute else None
  role_of_parts _ = None

  -- `SCHEMA.ENTITY.ATTRIBUTE`, or nothing for all; what is of another form is no role
  abbrev pub role_of : List ℕ → Option Role
  role_of [] = Some Every
  role_of (byte ∷ bytes) = role_of_parts (slice_split is_full_stop (byte ∷ bytes))

  -- ---- uses

  -- the explicit attributes of an instance, each with its value; one that is derived has the indeterminate value, which refers to nothing
  abbrev pub valued : Instance → List (Slot × Value)
  valued i = zip (slots schema.named.schema.entities (entities_of schema i.entities)) i.values

  -- whether an attribute is one of this name that the entity declares or inherits
  abbrev pub is_attribute : ℕ → List ℕ → Slot × Value → Bool
  is_attribute entity name a = is_slot_of (line_of schema entity) name a.0

  -- the values that an instance has in a role, in the order of its attributes
  abbrev pub values_in : Role → Instance → List Value
  values_in Every i = i.values
  values_in (Of entity name) i = if is_of schema entity i then map (λ a. a.1) (filter (is_attribute entity name) (valued i)) else []

  -- the names that they refer to at any depth, from the left, each as often as it stands there
  abbrev pub references_in : Role → Instance → List ℕ
  references_in role i = flat_map references (values_in role i)

  -- an instance, once for each time that it uses what stands at the place
  abbrev pub as_user : Role → Place → Placed → List Placed
  as_user role p x = map (λ name. x) (filter (stands_for p x) (references_in role x.instance))

  abbrev pub users_in : Option Role → Place → List Placed → List Placed
  users_in None p xs = []
  users_in (Some role) p xs = flat_map (as_user role p) xs

  -- The users of the instance at a place of the population, in a role of this name: in the order of the population, and each as often
  -- as it uses the instance.
  abbrev pub users : List ℕ → Place → List Placed → List Placed
  users role p xs = users_in (role_of role) p xs
