-- What holds of a schema that was accepted: its names are words (ISO 10303-11:1994, 7.4), which are kept in upper case, no two
-- entities have one name, and its graph is what SUBTYPE OF lists.
use Rattle.std.specs.Prelude.{◌≡◌, ◌≤◌, ℕ, true, List, map}
use Rattle.std.specs.List.{list_all}
use Rattle.ex_named.specs.declared.declaration.NamedSchema.{NamedSchema}
use Rattle.ex_resolve.specs.Proved.{count}
use Rattle.ex_resolve.specs.Schemas.{Resolved}
use Rattle.ex_types.specs.Checked.{entity_names}
use Rattle.p21_spelling.specs.Tokens.{is_word}
use Rattle.p21_laws.specs.Types.{AreTypes, AreWords, is_upper_word}

-- the schema's name is a word, those of entities and of types are words in upper case, and those of items are words
pub record HasWords (s : NamedSchema) : Type 0 where
  pub schema : is_word s.name.text ≡ true
  pub entities : list_all is_upper_word (entity_names s.entities) ≡ true
  pub types : AreWords s.types

pub record IsAccepted (s : Resolved) : Type 0 where
  pub words : HasWords s.schema
  pub types : AreTypes s.schema.types
  pub once : (name : List ℕ) → count name (entity_names s.schema.entities) ≤ 1
  pub graph : s.supertypes ≡ map (λ e. e.supertypes) s.schema.entities
