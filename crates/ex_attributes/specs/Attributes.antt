-- The attributes of entities, and what their values may be (ISO 10303-11:1994, 9.2.1 and 9.2.3).
use Rattle.std.specs.Prelude.{ℕ, zero, Bool, true, false, not, ◌==◌, ◌&&◌, ◌||◌, List, [], ◌∷◌, ◌++◌, map, filter, length, Option, Some, None, option_map, if◌then◌else◌}
use Rattle.std.specs.List.{list_any, flat_map, filter_map}
use Rattle.std.specs.Str.{bytes_eq}
use Rattle.plain_data.specs.Numbers.{is_among, numbered}
use Rattle.ex_tree.specs.declared.declaration.InverseAggregate.{InverseAggregate}
use Rattle.ex_tree.specs.declared.expression.Name.{Name}
use Rattle.ex_named.specs.declared.declaration.NamedAttribute.{NamedAttribute}
use Rattle.ex_named.specs.declared.declaration.NamedAttribute.TheVariants as na
use Rattle.ex_named.specs.declared.declaration.NamedDerived.{NamedDerived}
use Rattle.ex_named.specs.declared.declaration.NamedEntity.{NamedEntity}
use Rattle.ex_named.specs.declared.declaration.NamedExplicit.{NamedExplicit}
use Rattle.ex_named.specs.declared.declaration.NamedInverse.{NamedInverse}
use Rattle.ex_named.specs.declared.declaration.NamedRedeclaration.{NamedRedeclaration}
use Rattle.ex_named.specs.declared.reference.AttributeMeaning.{AttributeMeaning}
use Rattle.ex_named.specs.declared.reference.AttributeMeaning.TheVariants as m
use Rattle.ex_named.specs.declared.reference.AttributePlace.{AttributePlace}
use Rattle.ex_named.specs.declared.reference.AttributeSort.{AttributeSort}
use Rattle.ex_named.specs.declared.reference.AttributeSort.TheVariants.{Explicit, Derived, Inverse}
use Rattle.ex_named.specs.declared.reference.AttributeUse.{AttributeUse}
use Rattle.ex_named.specs.Scopes.{and_then}
use Rattle.graphs.specs.Graphs.{family, numbers_from}
use Rattle.ex_kinds.specs.declared.fault.TypeFaultKind.TheVariants.{Qualifier, Ambiguous}
use Rattle.ex_kinds.specs.declared.kind.Sort.{Sort}
use Rattle.ex_kinds.specs.declared.kind.Sort.TheVariants as k
use Rattle.ex_kinds.specs.declared.typed.Typed.{Typed}
use Rattle.ex_kinds.specs.Faults.{fine, refused}
use Rattle.ex_kinds.specs.Kinds.{Kinds, itself, joined, aggregate_of, of_type}
use Rattle.ex_attributes.specs.declared.attribute.Attribute.{Attribute}
use Rattle.ex_attributes.specs.declared.attribute.Redeclared.{Redeclared}
use Rattle.ex_attributes.specs.declared.found.Found.{Found}

-- What the entities of a schema declare and redeclare, entity after entity, and of each its direct supertypes.
pub record Attributes : Type 0 where
  pub declared : List Attribute
  pub redeclared : List Redeclared
  pub supertypes : List (List ℕ)

-- ---- what an entity declares

abbrev pub own : NamedAttribute → Option Name
own (na.Own n) = Some n
own (na.Redeclared r) = None

abbrev pub redeclaration : NamedAttribute → Option NamedRedeclaration
redeclaration (na.Own n) = None
redeclaration (na.Redeclared r) = Some r

-- the declaration that a name means, if it means one
abbrev pub meant : AttributeMeaning → Option AttributePlace
meant (m.One place) = Some place
meant m.Several = None

-- a plain inverse attribute is the one user
abbrev pub inverse_kinds : Option InverseAggregate → ℕ → Kinds
inverse_kinds None entity = itself (k.Entity entity) ∷ []
inverse_kinds (Some aggregate) entity = aggregate_of (itself (k.Entity entity) ∷ [])

abbrev pub explicit_names : NamedExplicit → List (List ℕ × Kinds)
explicit_names x = map (λ n. (n.text, of_type x.data_type)) (filter_map own x.attributes)

abbrev pub derived_name : NamedDerived → Option (List ℕ × Kinds)
derived_name x = option_map (λ n. (n.text, of_type x.data_type)) (own x.attribute)

abbrev pub inverse_name : NamedInverse → List ℕ × Kinds
inverse_name x = (x.name.text, inverse_kinds x.aggregate x.entity)

abbrev pub placed : ℕ → AttributeSort → List (List ℕ × Kinds) → List Attribute
placed entity sort = numbered (λ place r. record { name = r.0; place = record { entity = entity; sort = sort; place = place }; kinds = r.1 })

abbrev pub declared_by : ℕ → NamedEntity → List Attribute
declared_by number e = placed number Explicit (flat_map explicit_names e.explicit) ++ placed number Derived (filter_map derived_name e.derived)
    ++ placed number Inverse (map inverse_name e.inverse)

abbrev pub redeclared_as : ℕ → Kinds → NamedAttribute → Option Redeclared
redeclared_as entity kinds a = option_map (λ place. record { place = place; entity = entity; kinds = kinds }) (and_then (redeclaration a) (λ r. meant r.attribute.meaning))

abbrev pub redeclared_by : ℕ → NamedEntity → List Redeclared
redeclared_by number e = flat_map (λ x. filter_map (redeclared_as number (of_type x.data_type)) x.attributes) e.explicit
    ++ filter_map (λ x. redeclared_as number (of_type x.data_type) x.attribute) e.derived

-- what comes of each entity, one after another
abbrev pub of_each : {A : Type 0} → (ℕ → NamedEntity → List A) → List NamedEntity → List A
of_each make entities = flat_map (λ rows. rows) (numbered make entities)

unfoldable pub attributes_of : List NamedEntity → Attributes
attributes_of entities = record {
  declared = of_each declared_by entities;
  redeclared = of_each redeclared_by entities;
  supertypes = map (λ e. e.supertypes) entities;
}

-- ---- keys

abbrev pub sort_number : AttributeSort → ℕ
sort_number Explicit = 0
sort_number Derived = 1
sort_number Inverse = 2

abbrev pub place_key : AttributePlace → List ℕ
place_key p = p.entity ∷ sort_number p.sort ∷ p.place ∷ []

-- whether the two are one declaration
abbrev pub same_place : AttributePlace → AttributePlace → Bool
same_place a b = bytes_eq (place_key a) (place_key b)

-- ---- several

abbrev pub named : List ℕ → List Attribute → List Attribute
named name = filter (λ a. bytes_eq a.name name)

-- what several redeclarations allow
abbrev pub all_kinds : Kinds → List Redeclared → Kinds
all_kinds found [] = found
all_kinds found (r ∷ others) = all_kinds (joined found r.kinds) others

abbrev pub kinds_of_first : List Attribute → Kinds
kinds_of_first [] = []
kinds_of_first (a ∷ others) = a.kinds

abbrev pub is_several : {A : Type 0} → List A → Bool
is_several [] = false
is_several (a ∷ []) = false
is_several (a ∷ b ∷ others) = true

-- ---- what was found of a name

abbrev pub found_nothing : Found
found_nothing = record { is_there = false; is_ambiguous = false; kinds = [] }

-- what is said of it, given the first byte of the point, and that of the name
abbrev pub told : Found → ℕ → ℕ → Typed
told found dot at = if found.is_ambiguous then refused Ambiguous at else (if found.is_there then fine found.kinds else refused Qualifier dot)

module _ (schema : Attributes) where
  -- the attributes of this name that an entity or one above it declares
  abbrev pub named_attributes : ℕ → List ℕ → List Attribute
  named_attributes entity name = filter (λ a. is_among (family schema.supertypes entity) a.place.entity) (named name schema.declared)

  -- ---- what its value may be: by the entity's own redeclarations, else by the latest above it, else by its declaration

  abbrev pub declared_kinds : AttributePlace → Kinds
  declared_kinds place = kinds_of_first (filter (λ a. same_place a.place place) schema.declared)

  abbrev pub all_redeclarations : AttributePlace → List Redeclared
  all_redeclarations place = filter (λ r. same_place r.place place) schema.redeclared

  abbrev pub own_redeclarations : AttributePlace → ℕ → List Redeclared
  own_redeclarations place entity = filter (λ r. (r.entity == entity) && same_place r.place place) schema.redeclared

  -- those by an entity or the ones above it
  abbrev pub redeclarations : AttributePlace → ℕ → List Redeclared
  redeclarations place entity = filter (λ r. is_among (family schema.supertypes entity) r.entity) (all_redeclarations place)

  -- whether one that is below another redeclares too
  abbrev pub is_overridden : List Redeclared → ℕ → Bool
  is_overridden all entity = list_any (λ other. not (other.entity == entity) && is_among (family schema.supertypes other.entity) entity) all

  abbrev pub latest : List Redeclared → List Redeclared
  latest all = filter (λ r. not (is_overridden all r.entity)) all

  abbrev pub inherited_kinds : AttributePlace → List Redeclared → Kinds
  inherited_kinds place [] = declared_kinds place
  inherited_kinds place (r ∷ others) = all_kinds [] (latest (r ∷ others))

  abbrev pub kinds_by : AttributePlace → ℕ → List Redeclared → Kinds
  kinds_by place entity [] = inherited_kinds place (redeclarations place entity)
  kinds_by place entity (r ∷ others) = all_kinds [] (r ∷ others)

  -- what an attribute's value may be in an instance of an entity
  unfoldable pub kinds_at : AttributePlace → ℕ → Kinds
  kinds_at place entity = kinds_by place entity (own_redeclarations place entity)

  -- ---- `SELF.a` by its name alone

  abbrev pub used_by : ℕ → ℕ → AttributeMeaning → Typed
  used_by entity at (m.One place) = fine (kinds_at place entity)
  used_by entity at m.Several = refused Ambiguous at

  unfoldable pub used : ℕ → AttributeUse → Typed
  used entity name = used_by entity name.at name.meaning

  -- ---- `x.a`: in an instance of an entity

  abbrev pub with_attributes : Found → ℕ → List Attribute → Found
  with_attributes found entity [] = found
  with_attributes found entity (a ∷ []) = record { is_there = true; is_ambiguous = found.is_ambiguous; kinds = joined found.kinds (kinds_at a.place entity) }
  with_attributes found entity (a ∷ b ∷ others) = record { is_there = true; is_ambiguous = true; kinds = found.kinds }

  -- ---- in an instance of whatever entity: by all declarations of the name and all that redeclare one

  abbrev pub is_ambiguous_in_some : List ℕ → Bool
  is_ambiguous_in_some name = list_any (λ entity. is_several (named_attributes entity name)) (numbers_from 0 (length schema.supertypes))

  abbrev pub kinds_in_all : Kinds → List Attribute → Kinds
  kinds_in_all found [] = found
  kinds_in_all found (a ∷ others) = kinds_in_all (all_kinds (joined found a.kinds) (all_redeclarations a.place)) others

  abbrev pub with_all : List ℕ → Found → List Attribute → Found
  with_all name found [] = found
  with_all name found (a ∷ others) = record { is_there = true; is_ambiguous = found.is_ambiguous || is_ambiguous_in_some name; kinds = kinds_in_all found.kinds (a ∷ others) }

  -- ---- in what an instance may be by its declared kinds

  abbrev pub found_at : List ℕ → Found → ℕ → Sort → Found
  found_at name found zero (k.Entity entity) = with_attributes found entity (named_attributes entity name)
  found_at name found zero k.Instance = with_all name found (named name schema.declared)
  found_at name found zero k.Generic = with_all name found (named name schema.declared)
  found_at name found _ _ = found

  abbrev pub found_after : List ℕ → Found → Kinds → Found
  found_after name found [] = found
  found_after name found (kind ∷ others) = found_after name (found_at name found kind.depth kind.sort) others

  -- the attribute of this name of what is of these kinds, which are plain; the point's first byte is given
  unfoldable pub taken : Kinds → ℕ → Name → Typed
  taken plain_kinds dot n = told (found_after n.text found_nothing plain_kinds) dot n.at
