-- The entities of instances: by name, with those above them, and which of them one instance may have (ISO 10303-11:1994, 9.2.3
-- and 9.2.4).
use Rattle.std.specs.Prelude.{ℕ, zero, suc, max, Bool, not, List, [], filter, fold, Option, is_some, slice_get}
use Rattle.std.specs.Option.{option_map_or, unwrap_or}
use Rattle.std.specs.Str.{str_to_ascii_uppercase}
use Rattle.plain_data.specs.Numbers.{is_among}
use Rattle.ex_named.specs.declared.declaration.NamedEntity.{NamedEntity}
use Rattle.ex_subtypes.specs.Legal.{refusal}
use Rattle.ex_schemas.specs.Schemas.{Checked, entity_names}
use Rattle.graphs.specs.Graphs.{line, numbers_from}
use Rattle.name_tables.specs.Order.{rank}
use Rattle.name_tables.specs.Names.{place_of}
use Rattle.rp_content.specs.declared.instance.Entities.{Entities}
use Rattle.rp_content.specs.declared.instance.Entities.TheVariants.{Leaf, Several}

-- the numbers in ascending order, each once
unfoldable pub ascending : List ℕ → List ℕ
ascending numbers = filter (is_among numbers) (numbers_from zero (suc (fold max zero numbers)))

module _ (schema : Checked) where
  abbrev pub entities : List NamedEntity
  entities = schema.named.schema.entities

  -- the entity of this name, which is in upper case
  abbrev pub entity_named : List ℕ → Option ℕ
  entity_named name = place_of name (entity_names entities)

  -- the entity of this name, in either case
  abbrev pub entity_spelled : List ℕ → Option ℕ
  entity_spelled name = entity_named (str_to_ascii_uppercase name)

  -- how many of the schema's names come before that of an entity
  abbrev pub name_rank : ℕ → ℕ
  name_rank entity = option_map_or (λ e. rank (entity_names entities) e.name.text) (slice_get entities entity) zero

  -- the entities above one and itself, in the order in which files write their values
  abbrev pub line_of : ℕ → List ℕ
  line_of entity = unwrap_or (line schema.named.supertypes entity) []

  -- those of an instance, in the order in which its values stand
  abbrev pub entities_of : Entities → List ℕ
  entities_of (Leaf entity) = line_of entity
  entities_of (Several all) = all

  -- whether an instance may have exactly these entities
  abbrev pub is_legal : List ℕ → Bool
  is_legal numbers = not (is_some (refusal entities (ascending numbers)))
