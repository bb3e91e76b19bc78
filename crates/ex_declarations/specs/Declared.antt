-- What a schema declares (ISO 10303-11:1994, clause 9 and 10).
use Rattle.std.specs.Prelude.{ℕ, zero, suc, Bool, true, false, List, [], ◌∷◌, ◌++◌, map, Option, Some, None, is_some, if◌then◌else◌, Ok}
use Rattle.std.specs.List.{filter_map, flat_map}
use Rattle.plain_data.specs.Numbers.{numbered}
use Rattle.name_tables.specs.Names.{place_of}
use Rattle.ex_tree.specs.declared.expression.Name.{Name}
use Rattle.ex_tree.specs.declared.data_type.DataType.{DataType}
use Rattle.ex_tree.specs.declared.data_type.DataType.TheFolds.{fold-DataType}
use Rattle.ex_tree.specs.declared.data_type.DataType.TheOpen.{DataType-F}
use Rattle.ex_tree.specs.declared.declaration.AttributeDeclaration.{AttributeDeclaration}
use Rattle.ex_tree.specs.declared.declaration.AttributeDeclaration.TheVariants as a
use Rattle.ex_tree.specs.declared.declaration.Declaration.{Declaration}
use Rattle.ex_tree.specs.declared.declaration.Declaration.TheVariants as t
use Rattle.ex_tree.specs.declared.declaration.Entity.{Entity}
use Rattle.ex_tree.specs.declared.declaration.EntityBody.{EntityBody}
use Rattle.ex_tree.specs.declared.declaration.Function.{Function}
use Rattle.ex_tree.specs.declared.declaration.Rule.{Rule}
use Rattle.ex_tree.specs.declared.declaration.Schema.{Schema}
use Rattle.ex_tree.specs.declared.declaration.TypeDeclaration.{TypeDeclaration}
use Rattle.ex_tree.specs.declared.declaration.UnderlyingType.{UnderlyingType}
use Rattle.ex_tree.specs.declared.declaration.UnderlyingType.TheVariants as u
use Rattle.ex_named.specs.declared.fault.NameFaultKind.TheVariants.{DeclaredTwice}
use Rattle.ex_named.specs.declared.reference.AttributePlace.{AttributePlace}
use Rattle.ex_named.specs.declared.reference.AttributeSort.{AttributeSort}
use Rattle.ex_named.specs.declared.reference.AttributeSort.TheVariants.{Explicit, Derived, Inverse}
use Rattle.ex_named.specs.declared.reference.Declared.{Declared}
use Rattle.ex_named.specs.declared.reference.Declared.TheVariants as d
use Rattle.ex_named.specs.declared.reference.EnumerationItem.{EnumerationItem}
use Rattle.ex_named.specs.Outcomes.{Outcome, refused, given, both, and_one}
use Rattle.ex_named.specs.Scopes.{Declarations, declared, as_entity, as_defined, and_then}

-- ---- the declarations of each sort, in order

abbrev pub entity_of : Declaration → Option Entity
entity_of (t.Entity e) = Some e
entity_of _ = None

abbrev pub type_of : Declaration → Option TypeDeclaration
type_of (t.Type d) = Some d
type_of _ = None

abbrev pub function_of : Declaration → Option Function
function_of (t.Function f) = Some f
function_of _ = None

abbrev pub rule_of : Declaration → Option Rule
rule_of (t.Rule r) = Some r
rule_of _ = None

abbrev pub entities : Schema → List Entity
entities schema = filter_map entity_of schema.declarations

abbrev pub types : Schema → List TypeDeclaration
types schema = filter_map type_of schema.declarations

abbrev pub functions : Schema → List Function
functions schema = filter_map function_of schema.declarations

abbrev pub rules : Schema → List Rule
rules schema = filter_map rule_of schema.declarations

-- ---- the schema's own scope

-- the names of declarations, given how many types, entities, functions and rules stand before
abbrev pub names_from : ℕ → ℕ → ℕ → ℕ → List Declaration → List (Name × Declared)
names_from types entities functions rules [] = []
names_from types entities functions rules (t.Type x ∷ xs) = (x.name, d.Type types) ∷ names_from (suc types) entities functions rules xs
names_from types entities functions rules (t.Entity x ∷ xs) = (x.head.name, d.Entity entities) ∷ names_from types (suc entities) functions rules xs
names_from types entities functions rules (t.Function x ∷ xs) = (x.head.name, d.Function functions) ∷ names_from types entities (suc functions) rules xs
names_from types entities functions rules (t.Rule x ∷ xs) = (x.head.name, d.Rule rules) ∷ names_from types entities functions (suc rules) xs

-- constants, then the other declarations, as they stand in the text
abbrev pub declared_names : Schema → List (Name × Declared)
declared_names schema = numbered (λ k c. (c.name, d.Constant k)) schema.constants ++ names_from zero zero zero zero schema.declarations

-- ---- attributes: a redeclared one is none of the entity's own

abbrev pub own_name : AttributeDeclaration → Option Name
own_name (a.Own n) = Some n
own_name (a.Qualified q) = None

abbrev pub explicit_names : EntityBody → List Name
explicit_names body = flat_map (λ x. filter_map own_name x.attributes) body.explicit

abbrev pub derived_names : EntityBody → List Name
derived_names body = filter_map (λ x. own_name x.attribute) body.derived

abbrev pub inverse_names : EntityBody → List Name
inverse_names body = map (λ x. x.name) body.inverse

abbrev pub placed : ℕ → AttributeSort → List Name → List (List ℕ × AttributePlace)
placed entity sort = numbered (λ k n. (n.text, record { entity = entity; sort = sort; place = k }))

abbrev pub attributes_of_entity : ℕ → Entity → List (List ℕ × AttributePlace)
attributes_of_entity k e = placed k Explicit (explicit_names e.body) ++ placed k Derived (derived_names e.body) ++ placed k Inverse (inverse_names e.body)

-- ---- items of enumerations

abbrev pub items_of : UnderlyingType → List Name
items_of (u.Enumeration names) = names
items_of _ = []

abbrev pub is_enumeration : UnderlyingType → Bool
is_enumeration (u.Enumeration names) = true
is_enumeration _ = false

abbrev pub items_of_type : ℕ → TypeDeclaration → List (List ℕ × EnumerationItem)
items_of_type k x = numbered (λ place n. (n.text, record { type_number = k; place = place })) (items_of x.underlying)

-- ---- all that a schema declares

abbrev pub concatenated : {A : Type 0} → List (List A) → List A
concatenated = flat_map (λ x. x)

unfoldable pub declarations : Schema → Declarations
declarations schema = record {
  names = map (λ r. (r.0.text, r.1)) (declared_names schema);
  attributes = concatenated (numbered attributes_of_entity (entities schema));
  items = concatenated (numbered items_of_type (types schema));
  enumerations = map (λ x. is_enumeration x.underlying) (types schema);
}

-- ---- what reaches what

-- of each entity the entities that SUBTYPE OF lists
unfoldable pub supertype_graph : Declarations → List Entity → List (List ℕ)
supertype_graph schema = map (λ e. filter_map (λ n. and_then (declared schema n.text) (as_entity schema)) e.head.supertypes)

-- the types that a type names other than through an entity
module _ (schema : Declarations) where
  abbrev pub type_named : Name → List ℕ
  type_named n = filter_map (λ name. and_then (declared schema name) (as_defined schema)) (n.text ∷ [])

  abbrev pub named_in_layer : DataType-F (List ℕ) → List ℕ
  named_in_layer (DataType-F.Named n) = type_named n
  named_in_layer (DataType-F.Array bounds optional unique element) = element
  named_in_layer (DataType-F.List bounds unique element) = element
  named_in_layer (DataType-F.Bag bounds element) = element
  named_in_layer (DataType-F.Set bounds element) = element
  named_in_layer (DataType-F.Aggregate element) = element
  named_in_layer _ = []

  unfoldable pub named_in : DataType → List ℕ
  named_in = fold-DataType (List ℕ) named_in_layer

  abbrev pub held_types : UnderlyingType → List ℕ
  held_types (u.Enumeration names) = []
  held_types (u.Select names) = flat_map type_named names
  held_types (u.Data data_type) = named_in data_type

-- of each type the types that it holds other than through an entity
unfoldable pub type_graph : Declarations → List TypeDeclaration → List (List ℕ)
type_graph schema = map (λ x. held_types schema x.underlying)

-- ---- names that one scope declares

-- the name is none of these
abbrev pub fresh : List (List ℕ) → Name → Outcome (Unit {0})
fresh before n = if is_some (place_of n.text before) then refused DeclaredTwice n.at else Ok tt

abbrev pub once_after : List (List ℕ) → Outcome (Unit {0}) → List Name → Outcome (Unit {0})
once_after before found [] = found
once_after before found (n ∷ ns) = once_after (before ++ n.text ∷ []) (given (λ p. tt) (both found (fresh before n))) ns

-- none of the names of a scope is declared twice
unfoldable pub once : List Name → Outcome (Unit {0})
once = once_after [] (Ok tt)

-- ---- lists whose elements are bound with their numbers

abbrev pub each_numbered_after : {A B : Type 0} → (ℕ → A → Outcome B) → ℕ → Outcome (List B) → List A → Outcome (List B)
each_numbered_after bind k found [] = found
each_numbered_after bind k found (x ∷ xs) = each_numbered_after bind (suc k) (and_one found (bind k x)) xs

-- what each of a list gives with its number, or the least of their faults
abbrev pub each_numbered : {A B : Type 0} → (ℕ → A → Outcome B) → List A → Outcome (List B)
each_numbered bind = each_numbered_after bind zero (Ok [])
