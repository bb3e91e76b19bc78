-- What was proved of a schema when its names were bound.
use Rattle.std.specs.Prelude.{◌≡◌, ◌≤◌, ℕ, Bool, true, ◌&&◌, List, [], ◌∷◌, ◌++◌, length, map, filter}
use Rattle.std.specs.List.{flat_map, list_all}
use Rattle.std.specs.Str.{bytes_eq}
use Rattle.ex_tree.specs.Identifiers.{is_identifier}
use Rattle.ex_tree.specs.declared.expression.Name.{Name}
use Rattle.ex_named.specs.declared.declaration.NamedSchema.{NamedSchema}
use Rattle.ex_named.specs.declared.declaration.NamedType.{NamedType}
use Rattle.ex_named.specs.declared.declaration.NamedUnderlying.{NamedUnderlying}
use Rattle.ex_named.specs.declared.declaration.NamedUnderlying.TheVariants as u
use Rattle.ex_named.specs.declared.expression.NamedDataType.{NamedDataType}
use Rattle.ex_named.specs.declared.expression.NamedDataType.TheFolds.{fold-NamedDataType}
use Rattle.ex_named.specs.declared.expression.NamedDataType.TheOpen.{NamedDataType-F}
use Rattle.ex_named.specs.declared.reference.TypeName.{TypeName}
use Rattle.ex_named.specs.declared.reference.TypeName.TheVariants as t

-- the names that a schema declares, sort by sort
abbrev pub names_of : NamedSchema → List (List ℕ)
names_of s = map (λ c. c.name.text) s.constants ++ map (λ x. x.name.text) s.types ++ map (λ e. e.name.text) s.entities
    ++ map (λ f. f.name.text) s.functions ++ map (λ r. r.name.text) s.rules

-- how many of these names are this one
abbrev pub count : List ℕ → List (List ℕ) → ℕ
count name names = length (filter (λ n. bytes_eq n name) names)

-- each name of a schema stands for one declaration of it
abbrev pub DeclaresOnce : NamedSchema → Type 0
DeclaresOnce s = (name : List ℕ) → count name (names_of s) ≤ 1

abbrev pub type_of_name : TypeName → List ℕ
type_of_name (t.Entity entity) = []
type_of_name (t.Defined type) = type ∷ []

abbrev pub held_in_layer : NamedDataType-F (List ℕ) → List ℕ
held_in_layer (NamedDataType-F.Named name) = type_of_name name
held_in_layer (NamedDataType-F.Array bounds optional unique element) = element
held_in_layer (NamedDataType-F.List bounds unique element) = element
held_in_layer (NamedDataType-F.Bag bounds element) = element
held_in_layer (NamedDataType-F.Set bounds element) = element
held_in_layer (NamedDataType-F.Aggregate element) = element
held_in_layer _ = []

unfoldable pub held_in : NamedDataType → List ℕ
held_in = fold-NamedDataType (List ℕ) held_in_layer

-- the types that a type renames, selects or has as elements, at any depth
abbrev pub held_by : NamedUnderlying → List ℕ
held_by (u.Enumeration items) = []
held_by (u.Select members) = flat_map type_of_name members
held_by (u.Data data_type) = held_in data_type

-- of each type the types that it holds other than through an entity
unfoldable pub held_types : List NamedType → List (List ℕ)
held_types = map (λ x. held_by x.underlying)

-- ---- identifiers

abbrev pub items_of : NamedUnderlying → List Name
items_of (u.Enumeration items) = items
items_of (u.Select members) = []
items_of (u.Data data_type) = []

abbrev pub is_type_identified : NamedType → Bool
is_type_identified x = is_identifier x.name.text && list_all (λ n. is_identifier n.text) (items_of x.underlying)

-- the names of a schema, of its entities and its types, and of the items of these, are identifiers
pub record HasIdentifiers (s : NamedSchema) : Type 0 where
  pub schema : is_identifier s.name.text ≡ true
  pub entities : list_all (λ e. is_identifier e.name.text) s.entities ≡ true
  pub types : list_all is_type_identified s.types ≡ true
