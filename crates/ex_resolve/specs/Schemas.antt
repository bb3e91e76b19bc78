-- A schema with its names bound, or the fault of least offset (ISO 10303-11:1994, clause 10).
use Rattle.std.specs.Prelude.{◌≡◌, ℕ, Bool, true, false, List, [], map, filter, Option, option_map, slice_index_or, Ok}
use Rattle.std.specs.List.{filter_map, flat_map}
use Rattle.plain_data.specs.Numbers.{numbered}
use Rattle.ex_tree.specs.declared.declaration.Constant.{Constant}
use Rattle.ex_tree.specs.declared.declaration.Declaration.{Declaration}
use Rattle.ex_tree.specs.declared.declaration.Entity.{Entity}
use Rattle.ex_tree.specs.declared.declaration.Schema.{Schema}
use Rattle.ex_tree.specs.declared.declaration.TypeDeclaration.{TypeDeclaration}
use Rattle.ex_named.specs.declared.declaration.NamedAttribute.{NamedAttribute}
use Rattle.ex_named.specs.declared.declaration.NamedAttribute.TheVariants as na
use Rattle.ex_named.specs.declared.declaration.NamedConstant.{NamedConstant}
use Rattle.ex_named.specs.declared.declaration.NamedSchema.{NamedSchema}
use Rattle.ex_named.specs.declared.declaration.NamedEntity.{NamedEntity}
use Rattle.ex_named.specs.declared.declaration.NamedFunction.{NamedFunction}
use Rattle.ex_named.specs.declared.declaration.NamedRule.{NamedRule}
use Rattle.ex_named.specs.declared.declaration.NamedType.{NamedType}
use Rattle.ex_named.specs.declared.reference.AttributePlace.{AttributePlace}
use Rattle.ex_named.specs.declared.reference.AttributeSort.TheVariants.{Explicit}
use Rattle.ex_named.specs.Outcomes.{Outcome, given, both, each}
use Rattle.ex_named.specs.Scopes.{Declarations}
use Rattle.ex_declarations.specs.Declared.{declarations, declared_names, entity_of, type_of, function_of, rule_of, entities, types, functions, rules, once, supertype_graph, type_graph, each_numbered}
pub use Rattle.ex_schemas.specs.Schemas.{Resolved}
use Rattle.graphs.specs.Graphs.{line}
use Rattle.ex_bind_entities.specs.Entities.{named_entity, named_type}
use Rattle.ex_bind_algorithms.specs.Algorithms.{constant, named_function, named_rule}

-- the types and the entities of a schema, by what it declares
module _ (schema : Declarations) where
  abbrev pub types_of : List TypeDeclaration → Outcome (List NamedType)
  types_of trees = each_numbered (named_type schema [] (type_graph schema trees)) trees

  abbrev pub entities_of : List Entity → Outcome (List NamedEntity)
  entities_of trees = each_numbered (named_entity schema (supertype_graph schema trees)) trees

unfoldable pub named_types : Schema → Outcome (List NamedType)
named_types schema = types_of (declarations schema) (types schema)

unfoldable pub named_entities : Schema → Outcome (List NamedEntity)
named_entities schema = entities_of (declarations schema) (entities schema)

unfoldable pub named_functions : Schema → Outcome (List NamedFunction)
named_functions schema = each (named_function (declarations schema)) (functions schema)

unfoldable pub named_rules : Schema → Outcome (List NamedRule)
named_rules schema = each (named_rule (declarations schema)) (rules schema)

abbrev pub SchemaParts : Type 0
SchemaParts = List NamedConstant × ((List NamedType × List NamedEntity) × (List NamedFunction × List NamedRule))

-- constants and all other declarations, by what the schema declares
abbrev pub all_bound : Declarations → List Constant → List Declaration → Outcome SchemaParts
all_bound schema constants trees = both (each (constant schema) constants)
    (both (both (types_of schema (filter_map type_of trees)) (entities_of schema (filter_map entity_of trees)))
    (both (each (named_function schema) (filter_map function_of trees)) (each (named_rule schema) (filter_map rule_of trees))))

-- all that a schema declares, each name once
unfoldable pub schema_parts : Schema → Outcome (Unit {0} × SchemaParts)
schema_parts schema = both (once (map (λ r. r.0) (declared_names schema)))
    (both (each (constant (declarations schema)) schema.constants)
    (both (both (named_types schema) (named_entities schema)) (both (named_functions schema) (named_rules schema))))

abbrev pub make_schema : Schema → Unit {0} × SchemaParts → NamedSchema
make_schema schema p = record { name = schema.name; constants = p.1.0; types = p.1.1.0.0; entities = p.1.1.0.1; functions = p.1.1.1.0; rules = p.1.1.1.1; strings = schema.strings }

unfoldable pub named_schema : Schema → Outcome NamedSchema
named_schema schema = given (make_schema schema) (schema_parts schema)

-- ---- what is kept of a schema

-- the schema, and of each of its entities the entities that SUBTYPE OF lists
unfoldable pub resolved : Schema → Outcome Resolved
resolved schema = given (λ found. record { schema = found; supertypes = supertype_graph (declarations schema) (entities schema) }) (named_schema schema)

-- what names of some schema are bound to
abbrev pub IsResolved : Resolved → Type 0
IsResolved r = (tree : Schema) × (resolved tree ≡ Ok r)

-- ---- the attributes that files write

abbrev pub is_own : NamedAttribute → Bool
is_own (na.Own name) = true
is_own (na.Redeclared r) = false

abbrev pub place_in : ℕ → ℕ → NamedAttribute → AttributePlace
place_in k place a = record { entity = k; sort = Explicit; place = place }

-- an entity's own explicit attributes, in order
abbrev pub explicit_places : ℕ → NamedEntity → List AttributePlace
explicit_places k e = numbered (place_in k) (flat_map (λ x. filter is_own x.attributes) e.explicit)

-- of the entity of this number
abbrev pub explicit_of : List NamedEntity → ℕ → List AttributePlace
explicit_of entities k = slice_index_or (numbered explicit_places entities) k []

-- Those of an entity: of the supertypes first, in the order of SUBTYPE OF, depth first, each entity's once, at its first
-- place. They are there where no entity is an ancestor of itself.
abbrev pub attributes : Resolved → ℕ → Option (List AttributePlace)
attributes r entity = option_map (flat_map (explicit_of r.schema.entities)) (line r.supertypes entity)
