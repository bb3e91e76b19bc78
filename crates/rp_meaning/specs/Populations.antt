-- Populations: instances in their order, each with the values of its explicit attributes (ISO 10303-11:1994, 9.2.3).
use Rattle.std.specs.Prelude.{ℕ, Bool, List, [], ◌∷◌, ◌+◌, map, slice_set, if◌then◌else◌}
use Rattle.plain_data.specs.Numbers.{is_among}
use Rattle.ex_named.specs.declared.reference.AttributePlace.{AttributePlace}
use Rattle.rp_value.specs.declared.value.Value.{Value}
use Rattle.rp_value.specs.declared.value.Value.TheVariants as v
use Rattle.rp_meaning.specs.declared.domain.ReadValue.{ReadValue}

-- An attribute of an instance with its value: as it is written, where a reference that leaves the population is the instance that
-- stands behind the last one, and as it is read, where such a reference is `?` and values carry the types with which they are declared.
pub record Stored : Type 0 where
  pub attribute : AttributePlace
  pub written : Value
  pub read : Value

-- An instance: its entities, and its values in their order.
pub record Instance : Type 0 where
  pub entities : List ℕ
  pub values : List Stored

abbrev pub stored : List AttributePlace → List Value → List Value → List Stored
stored (a ∷ attributes) (x ∷ written) (y ∷ read) = record { attribute = a; written = x; read = y } ∷ stored attributes written read
stored _ _ _ = []

-- values as they are written, with what is read in place of some of them
abbrev pub as_read : List ReadValue → List Value → List Value
as_read [] xs = xs
as_read (r ∷ others) xs = as_read others (slice_set xs r.place r.value)

abbrev pub is_of : Instance → ℕ → Bool
is_of i entity = is_among i.entities entity

-- the places of the instances of an entity, the first of all instances standing at this place
unfoldable pub places_from : ℕ → ℕ → List Instance → List ℕ
places_from entity at [] = []
places_from entity at (i ∷ others) = if is_of i entity then at ∷ places_from entity (at + 1) others else places_from entity (at + 1) others

abbrev pub places_of : List Instance → ℕ → List ℕ
places_of population entity = places_from entity 0 population

-- the instances at these places
abbrev pub instances : List ℕ → List Value
instances = map (λ place. v.Inst place)

-- the instances of an entity, in their order
abbrev pub extent : List Instance → ℕ → List Value
extent population entity = instances (places_of population entity)
