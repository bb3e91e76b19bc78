-- The attributes for which a file writes values of an instance, and those that an entity redeclares, each with what its
-- declaration says (ISO 10303-11:1994, 9.2.1 and 9.2.3.4; ISO 10303-21:2002, 10.2).
use Rattle.std.specs.Prelude.{◌≡◌, ℕ, Bool, true, false, Option, ◌==◌, ◌&&◌, List, [], ◌++◌, map, slice_get}
use Rattle.std.specs.List.{list_any, flat_map, filter_map}
use Rattle.std.specs.Option.{option_map, option_map_or}
use Rattle.std.specs.Borrow.{Bor}
use Rattle.plain_data.specs.Numbers.{numbered}
use Rattle.ex_tree.specs.declared.expression.Name.{Name}
use Rattle.ex_named.specs.declared.declaration.NamedAttribute.{NamedAttribute}
use Rattle.ex_named.specs.declared.declaration.NamedDerived.{NamedDerived}
use Rattle.ex_named.specs.declared.declaration.NamedEntity.{NamedEntity}
use Rattle.ex_named.specs.declared.declaration.NamedExplicit.{NamedExplicit}
use Rattle.ex_named.specs.declared.declaration.NamedRedeclaration.{NamedRedeclaration}
use Rattle.ex_named.specs.declared.expression.NamedDataType.{NamedDataType}
use Rattle.ex_named.specs.declared.reference.AttributePlace.{AttributePlace}
use Rattle.ex_named.specs.declared.reference.AttributeSort.{AttributeSort}
use Rattle.ex_named.specs.declared.reference.AttributeSort.TheVariants as sort
use Rattle.ex_named.specs.Scopes.{and_then}
use Rattle.ex_attributes.specs.Attributes.{own, redeclaration, meant}
use Rattle.ex_slots.specs.declared.redeclared.Clause.{Clause}
use Rattle.ex_slots.specs.declared.redeclared.Clause.TheVariants.{Explicit, Derive}

-- an explicit attribute in an instance: its declaration, what that says of it, and whether an entity of the instance redeclares it
-- in DERIVE
pub record Slot : Type 0 where
  pub place : AttributePlace
  pub name : Name
  pub data_type : NamedDataType
  pub is_optional : Bool
  pub is_derived : Bool

-- ---- what entities redeclare

-- an inherited attribute that is redeclared: in which clause, and with which type
pub record Redeclared : Type 0 where
  pub clause : Clause
  pub attribute : NamedRedeclaration
  pub data_type : NamedDataType

abbrev pub redeclared : Clause → NamedDataType → NamedAttribute → Option Redeclared
redeclared clause data_type a = option_map (λ r. record { clause = clause; attribute = r; data_type = data_type }) (redeclaration a)

abbrev pub redeclared_explicit : NamedExplicit → List Redeclared
redeclared_explicit x = filter_map (redeclared Explicit x.data_type) x.attributes

abbrev pub redeclared_derived : NamedDerived → Option Redeclared
redeclared_derived x = redeclared Derive x.data_type x.attribute

-- those of an entity: explicit ones and then those of DERIVE, in their order
unfoldable pub redeclarations : NamedEntity → List Redeclared
redeclarations e = flat_map redeclared_explicit e.explicit ++ filter_map redeclared_derived e.derived

-- ---- what files write

-- the names of attributes of one's own that are declared together, each with their declaration
abbrev pub declared_together : NamedExplicit → List (Name × NamedExplicit)
declared_together x = map (λ n. (n, x)) (filter_map own x.attributes)

-- the explicit attributes of an entity's own, in order
abbrev pub declared_by : NamedEntity → List (Name × NamedExplicit)
declared_by e = flat_map declared_together e.explicit

abbrev pub derived_place : NamedDerived → Option AttributePlace
derived_place x = and_then (redeclaration x.attribute) (λ r. meant r.attribute.meaning)

abbrev pub explicit_place : ℕ → ℕ → AttributePlace
explicit_place entity place = record { entity = entity; sort = sort.Explicit; place = place }

abbrev pub is_explicit : AttributeSort → Bool
is_explicit sort.Explicit = true
is_explicit sort.Derived = false
is_explicit sort.Inverse = false

-- whether a declaration is the explicit one in this place of this entity
abbrev pub is_explicit_at : ℕ → ℕ → AttributePlace → Bool
is_explicit_at entity place d = (d.entity == entity) && is_explicit d.sort && (d.place == place)

abbrev pub is_derived : List AttributePlace → ℕ → ℕ → Bool
is_derived derived entity place = list_any (is_explicit_at entity place) derived

-- an attribute in an instance, given which of an entity's places are redeclared in DERIVE
abbrev pub slot : (ℕ → ℕ → Bool) → ℕ → ℕ → Name × NamedExplicit → Slot
slot derived entity place d = record {
  place = explicit_place entity place;
  name = d.0;
  data_type = d.1.data_type;
  is_optional = d.1.optional;
  is_derived = derived entity place;
}

module _ (entities : List NamedEntity) where
  -- what an entity redeclares in DERIVE
  abbrev pub derived_by : ℕ → List AttributePlace
  derived_by entity = option_map_or (λ e. filter_map derived_place e.derived) (slice_get entities entity) []

  abbrev pub slots_of : (ℕ → ℕ → Bool) → ℕ → List Slot
  slots_of derived entity = option_map_or (λ e. numbered (slot derived entity) (declared_by e)) (slice_get entities entity) []

  -- those of an instance of these entities: one after the other in this order, each one's own explicit attributes in theirs
  unfoldable pub slots : List ℕ → List Slot
  slots numbers = flat_map (slots_of (is_derived (flat_map derived_by numbers))) numbers

-- ---- a set of places, as it is kept

-- whether pairs have this one
abbrev pub has : List (ℕ × ℕ) → ℕ → ℕ → Bool
has pairs entity place = list_any (λ p. (p.0 == entity) && (p.1 == place)) pairs

-- the pairs are the explicit ones of these places
abbrev pub AreExplicit : List (ℕ × ℕ) → List AttributePlace → Type 0
AreExplicit pairs places = (entity place : ℕ) → has pairs entity place ≡ is_derived places entity place

-- names and their declarations, which are lent
abbrev pub rows_of : List (Bor Name × Bor NamedExplicit) → List (Name × NamedExplicit)
rows_of rows = map (λ r. (r.0.now, r.1.now)) rows
