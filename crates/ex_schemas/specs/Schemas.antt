-- What contracts see of a schema: of one whose names are bound, and of one whose types are checked.
use Rattle.std.specs.Prelude.{ℕ, List, map}
use Rattle.ex_named.specs.declared.declaration.NamedEntity.{NamedEntity}
use Rattle.ex_named.specs.declared.declaration.NamedSchema.{NamedSchema}
use Rattle.ex_named.specs.declared.declaration.NamedType.{NamedType}

-- A schema whose names are bound, and of each entity the entities that SUBTYPE OF lists.
pub record Resolved : Type 0 where
  pub schema : NamedSchema
  pub supertypes : List (List ℕ)

-- A schema that was checked, and the first bytes of the literals that are warned of.
pub record Checked : Type 0 where
  pub named : Resolved
  pub warnings : List ℕ

-- the names of a schema's entities and of its types, in the order of the schema
abbrev pub entity_names : List NamedEntity → List (List ℕ)
entity_names = map (λ e. e.name.text)

abbrev pub type_names : List NamedType → List (List ℕ)
type_names = map (λ t. t.name.text)
