-- The extent of an entity in a population (ISO 10303-11:1994, 9.2.3).
use Rattle.std.specs.Prelude.{ℕ, Bool, List, [], filter, Option, Some, None}
use Rattle.plain_data.specs.Numbers.{is_among}
use Rattle.ex_layouts.specs.Entities.{entities_of, entity_spelled}
use Rattle.ex_schemas.specs.Schemas.{Checked}
use Rattle.rp_content.specs.declared.instance.Instance.{Instance}
use Rattle.rp_population.specs.Populations.{Placed}

module _ (schema : Checked) where
  -- whether an instance is of an entity, as it is of each of its entities
  abbrev pub is_of : ℕ → Instance → Bool
  is_of entity i = is_among (entities_of schema i.entities) entity

  abbrev pub extent_of : Option ℕ → List Placed → List Placed
  extent_of None xs = []
  extent_of (Some entity) xs = filter (λ x. is_of entity x.instance) xs

  -- the instances of the entity of this name, in either case; none where the schema has no such entity
  abbrev pub extent : List ℕ → List Placed → List Placed
  extent name xs = extent_of (entity_spelled schema name) xs
