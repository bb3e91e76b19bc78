-- The candidates of a rule of a defined type, attribute by attribute.
use Rattle.std.specs.Prelude.{ℕ, ◌+◌, List, [], ◌∷◌, ◌++◌, map, filter, slice_get}
use Rattle.std.specs.Option.{option_map_or}
use Rattle.ex_named.specs.declared.reference.AttributePlace.{AttributePlace}
use Rattle.rp_faults.specs.Declarations.{declared_types, last_read}
use Rattle.rp_meaning.specs.declared.domain.ReadValue.{ReadValue}
use Rattle.rp_meaning.specs.declared.rule.Rule.TheVariants as r
use Rattle.rp_meaning.specs.declared.schema.Schema.{Schema}
use Rattle.rp_meaning.specs.Faults.{Held, is_checked}
use Rattle.rp_meaning.specs.Populations.{Instance, Stored}
use Rattle.rp_meaning.specs.Report.{of_attribute}
use Rattle.rp_meaning.specs.Sequence.{Candidate, Trial}
use Rattle.rp_meaning.specs.TypeRules.{values_tried}
use Rattle.rp_value.specs.declared.value.Value.{Value}

module _ (schema : Schema) (population : List Instance) (number place : ℕ) where
  abbrev pub candidates_of : List Held → List Candidate
  candidates_of hs = map (of_attribute schema population (r.Type number place) number) (filter (is_checked schema) hs)

  -- of values of the instance at a place
  abbrev pub candidates_in : ℕ → Instance → List Stored → List Candidate
  candidates_in at i values = candidates_of (map (λ x. record { place = at; instance = i; value = x }) values)

  -- of the instance at a place, if there is one
  abbrev pub candidates_at : ℕ → List Candidate
  candidates_at at = option_map_or (λ i. candidates_in at i i.values) (slice_get population at) []

  -- of one value
  abbrev pub candidates_by : ℕ → Instance → AttributePlace → Value → Value → List Candidate
  candidates_by at i a x y = candidates_in at i ((record { attribute = a; written = x; read = y }) ∷ [])

  -- of some attributes with their values as they are written, the first of which has this place
  abbrev pub candidates_among : ℕ → Instance → List ReadValue → ℕ → List AttributePlace → List Value → List Candidate
  candidates_among at i differing slot (a ∷ attributes) (x ∷ written) =
      candidates_by at i a x (last_read x differing slot) ++ candidates_among at i differing (slot + 1) attributes written
  candidates_among at i differing slot _ _ = []

  -- of a value in an attribute of an instance of these entities
  abbrev pub trials_in : List ℕ → AttributePlace → Value → Value → List Trial
  trials_in entities a x y = map (λ z. (r.Type number place, z)) (values_tried schema.types population number (declared_types schema entities a) x y)
