-- How the attributes of an instance are declared, and read.
use Rattle.std.specs.Prelude.{ℕ, ◌==◌, ◌++◌, List, [], ◌∷◌, map, filter, if◌then◌else◌}
use Rattle.std.specs.Borrow.{Bor}
use Rattle.std.specs.List.{flat_map}
use Rattle.ex_named.specs.declared.expression.NamedDataType.{NamedDataType}
use Rattle.ex_named.specs.declared.reference.AttributePlace.{AttributePlace}
use Rattle.rp_meaning.specs.declared.domain.ReadValue.{ReadValue}
use Rattle.rp_meaning.specs.declared.schema.Redeclaration.{Redeclaration}
use Rattle.rp_meaning.specs.declared.schema.Schema.{Schema}
use Rattle.rp_meaning.specs.Uses.{same_attribute}
use Rattle.rp_meaning.specs.Faults.{own_declaration, redeclared_by}
use Rattle.rp_value.specs.declared.value.Value.{Value}

abbrev pub all_now : List (Bor NamedDataType) → List NamedDataType
all_now types = map (λ t. t.now) types

abbrev pub redeclared_types : AttributePlace → List Redeclaration → List NamedDataType
redeclared_types a redeclarations = map (λ x. x.data_type) (map (λ x. x.declaration) (filter (λ x. same_attribute x.attribute a) redeclarations))

-- the types with which an attribute is declared, and redeclared by these entities
abbrev pub declared_types : Schema → List ℕ → AttributePlace → List NamedDataType
declared_types schema entities a = map (λ x. x.data_type) (own_declaration schema a ++ flat_map (redeclared_by schema a) entities)

-- the value that is read at a place where this one is written: the last of those that are read there
abbrev pub last_read : Value → List ReadValue → ℕ → Value
last_read x [] place = x
last_read x (r ∷ others) place = last_read (if r.place == place then r.value else x) others place
