-- Layouts: the attributes that instances have, in their order.
use Rattle.std.specs.Prelude.{◌≡◌, ℕ, List, [], map, Option, Some, slice_get}
use Rattle.std.specs.Option.{option_map, option_map_or}
use Rattle.ex_named.specs.declared.reference.AttributePlace.{AttributePlace}
use Rattle.rp_meaning.specs.Populations.{Instance}
use Rattle.rp_rules.specs.declared.layouts.Layouts.{Layouts}

module _ (population : List Instance) where
  -- the attributes of the instance at a place
  abbrev pub attributes_at : ℕ → List AttributePlace
  attributes_at at = option_map_or (λ i. map (λ x. x.attribute) i.values) (slice_get population at) []

  -- the layout of a number, where these places are examples of each
  abbrev pub layout_at : List ℕ → ℕ → Option (List AttributePlace)
  layout_at examples number = option_map attributes_at (slice_get examples number)

  -- what has a layout keeps it with other examples
  abbrev pub Keeps : List ℕ → List ℕ → Type 0
  Keeps examples others = (number : ℕ) (attributes : List AttributePlace) → layout_at examples number ≡ Some attributes → layout_at others number ≡ Some attributes

  -- each of these numbers is of the layout of the instance at its place
  abbrev pub Lays : Layouts → Type 0
  Lays layouts = (at number : ℕ) → slice_get layouts.numbers at ≡ Some number → layout_at layouts.examples number ≡ Some (attributes_at at)
