-- What instances of the same entities share, and their values.
use Rattle.std.specs.Prelude.{◌≡◌, ℕ, Bool, List, [], ◌∷◌, map, Option, Some, None, if◌then◌else◌, slice_get, slice_set, IfSome}
use Rattle.ex_named.specs.declared.reference.AttributePlace.{AttributePlace}
use Rattle.rp_value.specs.declared.value.Value.{Value}
use Rattle.rp_value.specs.declared.value.Value.TheVariants as v
use Rattle.rp_meaning.specs.declared.schema.Schema.{Schema}
use Rattle.rp_meaning.specs.declared.domain.ReadValue.{ReadValue}
use Rattle.rp_meaning.specs.Populations.{Stored, as_read, stored}
use Rattle.rp_meaning.specs.Reading.{attributes, is_derived}
use Rattle.rp_domain.specs.declared.combination.AttributeOf.{AttributeOf}
use Rattle.rp_domain.specs.declared.combination.Combination.{Combination}

abbrev pub attribute_of : List ℕ → AttributePlace → AttributeOf
attribute_of entities a = record { entities = entities; attribute = a }

module _ (schema : Schema) where
  -- what instances of these entities share
  unfoldable pub combination : List ℕ → Combination
  combination entities = record {
    entities = entities;
    attributes = attributes schema entities;
    derived = map (is_derived schema entities) (attributes schema entities);
    uses = map (attribute_of entities) (attributes schema entities);
  }

  -- each is what instances of its entities share
  abbrev pub AreCombinations : List Combination → Type 0
  AreCombinations combinations = (k : ℕ) → IfSome (slice_get combinations k) (λ x. x ≡ combination x.entities)

-- ---- values

-- values, without those of which it is said that they are derived
abbrev pub without_derived : List Bool → List Value → List Value
without_derived [] xs = xs
without_derived (d ∷ ds) [] = []
without_derived (d ∷ ds) (x ∷ xs) = (if d then v.Indet else x) ∷ without_derived ds xs

-- without the value at a place, if it is derived
abbrev pub without_one : Bool → List Value → ℕ → List Value
without_one derived xs at = if derived then slice_set xs at v.Indet else xs

-- attributes with their values, of which some are read otherwise than they are written
abbrev pub values_of : List AttributePlace → List Value → List ReadValue → List Stored
values_of attributes written differing = stored attributes written (as_read differing written)

-- what is read in place of the value at a place, if that is another one
abbrev pub differing_at : ℕ → Option Value → List ReadValue
differing_at place None = []
differing_at place (Some x) = record { place = place; value = x } ∷ []

abbrev pub used_of : List ℕ → Stored → AttributeOf × Value
used_of entities x = (attribute_of entities x.attribute, x.written)
