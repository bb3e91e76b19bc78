-- The names of what a schema declares: in the order of their bytes, and as TYPEOF and USEDIN have them
-- (ISO 10303-11:1994, 15.25 and 15.26).
use Rattle.std.specs.Prelude.{ℕ, zero, ◌==◌, if◌then◌else◌, List, [], ◌∷◌, ◌++◌, map, length, Some, None, slice_get}
use Rattle.std.specs.List.{flat_map, filter_map}
use Rattle.std.specs.Option.{option_map_or}
use Rattle.ex_attributes.specs.Attributes.{declared_by as attributes_of}
use Rattle.ex_named.specs.declared.declaration.NamedEntity.{NamedEntity}
use Rattle.ex_named.specs.declared.reference.AttributePlace.{AttributePlace}
use Rattle.ex_slots.specs.Slots.{declared_by as explicit_of, explicit_place}
use Rattle.graphs.specs.Graphs.{family, numbers_from}
use Rattle.name_tables.specs.Names.{named}
use Rattle.name_tables.specs.Order.{rank}
use Rattle.plain_data.specs.Numbers.{numbered}
use Rattle.rp_code.specs.declared.role.NamedRole.{NamedRole}
use Rattle.rp_code.specs.declared.role.Role.TheVariants as role

-- the numbers of the names before which so many others come
abbrev pub at_rank : List (List ℕ) → ℕ → List ℕ
at_rank names place = filter_map (λ n. n) (numbered (λ number name. if rank names name == place then Some number else None) names)

-- the numbers of names, in the order of their bytes
abbrev pub in_order : List (List ℕ) → List ℕ
in_order names = flat_map (at_rank names) (numbers_from zero (length names))

-- `FIRST.SECOND`
abbrev pub joined : List ℕ → List ℕ → List ℕ
joined first second = first ++ 46 ∷ second

-- attributes with their names
abbrev pub Rows : Type 0
Rows = List (List ℕ × AttributePlace)

module _ (entities : List NamedEntity) where
  -- those that an entity declares of its own
  abbrev pub own_rows : ℕ → Rows
  own_rows entity = option_map_or (λ x. map (λ a. (a.name, a.place)) (attributes_of entity x)) (slice_get entities entity) []

  -- the explicit ones of these
  abbrev pub explicit_rows : ℕ → Rows
  explicit_rows entity = option_map_or (λ x. numbered (λ place d. (d.0.text, explicit_place entity place)) (explicit_of x)) (slice_get entities entity) []

  module _ (supertypes : List (List ℕ)) where
    -- the explicit attributes that an entity declares or inherits
    abbrev pub inherited_rows : ℕ → Rows
    inherited_rows entity = flat_map explicit_rows (family supertypes entity)

    -- the roles of an entity that has this name
    abbrev pub roles_of : ℕ → List ℕ → List NamedRole
    roles_of entity name = map (λ r. record { name = joined name r.0; role = role.Of entity (named r.0 (inherited_rows entity)) }) (inherited_rows entity)
