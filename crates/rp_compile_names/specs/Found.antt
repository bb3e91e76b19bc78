-- What is looked up in a schema while it is compiled.
use Rattle.std.specs.Prelude.{ℕ, ◌-◌, ◌+◌, ◌==◌, List, [], map, filter, length, Option, option_map, slice_get}
use Rattle.std.specs.List.{flat_map, filter_map}
use Rattle.std.specs.Option.{option_map_or}
use Rattle.ex_attributes.specs.Attributes.{own, same_place}
use Rattle.ex_named.specs.declared.declaration.NamedDerived.{NamedDerived}
use Rattle.ex_named.specs.declared.declaration.NamedEntity.{NamedEntity}
use Rattle.ex_named.specs.declared.reference.AttributePlace.{AttributePlace}
use Rattle.ex_named.specs.declared.reference.AttributeSort.{AttributeSort}
use Rattle.graphs.specs.Graphs.{family, numbers_from}
use Rattle.name_tables.specs.Names.{named}
use Rattle.name_tables.specs.Order.{rank}
use Rattle.plain_data.specs.Numbers.{numbered}
use Rattle.rp_code.specs.declared.role.NamedRole.{NamedRole}
use Rattle.rp_code.specs.declared.role.Role.TheVariants.{Of}
use Rattle.rp_meaning.specs.declared.schema.Derivation.{Derivation}
use Rattle.rp_meaning.specs.Compiled as compiled
use Rattle.rp_meaning.specs.Compiled.{Rederived}
use Rattle.rp_meaning.specs.CompiledNames.{Rows, joined, roles_of}

-- ---- in order

-- the number of each name beside how many names come before it
abbrev pub ranked : List (List ℕ) → List (ℕ × ℕ)
ranked names = numbered (λ number name. (rank names name, number)) names

-- each entity beside how many of all don't stand above it
abbrev pub by_depth : List (List ℕ) → List ℕ → List (ℕ × ℕ)
by_depth graph order = map (λ entity. (length graph - length (family graph entity), entity)) order

-- those with most ancestors first, and of several such in the order in which they stand here
abbrev pub deepest_first : List (List ℕ) → List ℕ → List ℕ
deepest_first graph order = flat_map (λ above. filter (λ entity. length (family graph entity) + above == length graph) order) (numbers_from 0 (length graph))

-- ---- attributes

-- attributes of these names, which an entity declares so
abbrev pub placed : ℕ → AttributeSort → List (List ℕ) → Rows
placed entity s = numbered (λ place name. (name, record { entity = entity; sort = s; place = place }))

abbrev pub derived_text : NamedDerived → Option (List ℕ)
derived_text x = option_map (λ n. n.text) (own x.attribute)

-- the role that the attributes of a name are in an entity of this name
abbrev pub role : ℕ → List ℕ → Rows → List ℕ → NamedRole
role entity entity_name rows name = record { name = joined entity_name name; role = Of entity (named name rows) }

abbrev pub roles : List ℕ → List NamedEntity → List (List ℕ) → List NamedRole
roles schema_name entities supertypes = flat_map (λ r. r) (numbered (λ number x. roles_of entities supertypes number (joined schema_name x.name.text)) entities)

-- ---- DERIVE

abbrev pub rederived_by : List NamedEntity → ℕ → List Rederived
rederived_by entities entity = option_map_or (λ x. filter_map (λ d. d) (numbered (compiled.rederived entity) x.derived)) (slice_get entities entity) []

-- each by the entity whose attribute it redeclares
abbrev pub by_entity : List Rederived → List (ℕ × Rederived)
by_entity = map (λ d. (d.0.entity, d))

abbrev pub derivations : List Rederived → AttributePlace → List Derivation
derivations rederived attribute = map (λ d. d.1) (filter (λ d. same_place d.0 attribute) rederived)
