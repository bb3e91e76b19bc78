-- What is found in one model, told from candidates, of whom there may be too many.
use Rattle.std.specs.Prelude.{◌≡◌, ℕ, Bool, false, ◌||◌, ◌==◌, List, [], ◌∷◌, Option, Some, None, if◌then◌else◌, slice_get}
use Rattle.std.specs.Option.{option_map_or}
use Rattle.std.specs.List.{AllByRecursion}
use Rattle.plain_data.specs.Numbers.{is_among}
use Rattle.ex_layouts.specs.Entities.{line_of}
use Rattle.ex_schemas.specs.Schemas.{Checked}
use Rattle.rp_content.specs.declared.instance.Instance.{Instance}
use Rattle.rp_rows.specs.declared.rows.Key.{Key}
use Rattle.rp_population.specs.Found.{is_of_sought, place_in}
use Rattle.rp_population.specs.declared.place.Place.{Place}

-- the place of an instance of a model, if it is one of those that are asked for
abbrev pub found_in : Checked → Option ℕ → Key → Instance → List Place
found_in schema entity model i = if is_of_sought schema entity i then place_in model i ∷ [] else []

-- whoever isn't a candidate isn't of the entity
abbrev pub AreFoundAmong : Checked → Option ℕ → List ℕ → List Instance → Type 0
AreFoundAmong schema entity names is = AllByRecursion (λ i. is_among names i.name ≡ false → is_of_sought schema entity i ≡ false) is

-- whether an instance that this entity is written with may be of the entity: it is that one, or has it above
abbrev pub may_have : Checked → Option ℕ → ℕ → Bool
may_have schema None written = false
may_have schema (Some entity) written = (entity == written) || is_among (line_of schema written) entity

-- whether an element stands at a place and passes a test
abbrev pub passes_at : {X : Type 0} → (X → Bool) → List X → ℕ → Bool
passes_at test xs place = option_map_or test (slice_get xs place) false
