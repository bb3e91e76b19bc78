-- Entities and types with their names bound (ISO 10303-11:1994, 9.1 and 9.2).
use Rattle.std.specs.Prelude.{ℕ, Bool, true, ◌||◌, ◌==◌, List, [], ◌∷◌, ◌++◌, map, Option, Some, None, if◌then◌else◌, Ok, Err}
use Rattle.std.specs.List.{filter_map, flat_map, list_any}
use Rattle.plain_data.specs.Numbers.{is_among}
use Rattle.name_tables.specs.Names.{named}
use Rattle.ex_tree.specs.declared.expression.Name.{Name}
use Rattle.ex_tree.specs.declared.declaration.AttributeDeclaration.{AttributeDeclaration}
use Rattle.ex_tree.specs.declared.declaration.AttributeDeclaration.TheVariants as a
use Rattle.ex_tree.specs.declared.declaration.DerivedAttribute.{DerivedAttribute}
use Rattle.ex_tree.specs.declared.declaration.Entity.{Entity}
use Rattle.ex_tree.specs.declared.declaration.EntityBody.{EntityBody}
use Rattle.ex_tree.specs.declared.declaration.ExplicitAttribute.{ExplicitAttribute}
use Rattle.ex_tree.specs.declared.declaration.InverseAttribute.{InverseAttribute}
use Rattle.ex_tree.specs.declared.declaration.QualifiedAttribute.{QualifiedAttribute}
use Rattle.ex_tree.specs.declared.declaration.SupertypeExpression.{SupertypeExpression}
use Rattle.ex_tree.specs.declared.declaration.SupertypeExpression.TheFolds.{fold-SupertypeExpression}
use Rattle.ex_tree.specs.declared.declaration.SupertypeExpression.TheOpen.{SupertypeExpression-F}
use Rattle.ex_tree.specs.declared.declaration.TypeDeclaration.{TypeDeclaration}
use Rattle.ex_tree.specs.declared.declaration.UnderlyingType.{UnderlyingType}
use Rattle.ex_tree.specs.declared.declaration.UnderlyingType.TheVariants as u
use Rattle.ex_tree.specs.declared.declaration.UniqueRule.{UniqueRule}
use Rattle.ex_tree.specs.declared.data_type.DataType.{DataType}
use Rattle.ex_tree.specs.declared.data_type.DataType.TheOpen.{DataType-F}
use Rattle.ex_tree.specs.declared.data_type.DataType.TheViews.{out-DataType}
use Rattle.ex_named.specs.declared.declaration.NamedAttribute.{NamedAttribute}
use Rattle.ex_named.specs.declared.declaration.NamedAttribute.TheVariants as na
use Rattle.ex_named.specs.declared.declaration.NamedDerived.{NamedDerived}
use Rattle.ex_named.specs.declared.declaration.NamedDomainRule.{NamedDomainRule}
use Rattle.ex_named.specs.declared.declaration.NamedEntity.{NamedEntity}
use Rattle.ex_named.specs.declared.declaration.NamedExplicit.{NamedExplicit}
use Rattle.ex_named.specs.declared.declaration.NamedInverse.{NamedInverse}
use Rattle.ex_named.specs.declared.declaration.NamedRedeclaration.{NamedRedeclaration}
use Rattle.ex_named.specs.declared.declaration.NamedSupertype.{NamedSupertype}
use Rattle.ex_named.specs.declared.declaration.NamedSupertype.TheVariants as ns
use Rattle.ex_named.specs.declared.declaration.NamedType.{NamedType}
use Rattle.ex_named.specs.declared.declaration.NamedUnderlying.{NamedUnderlying}
use Rattle.ex_named.specs.declared.declaration.NamedUnderlying.TheVariants as nu
use Rattle.ex_named.specs.declared.declaration.NamedUniqueRule.{NamedUniqueRule}
use Rattle.ex_named.specs.declared.expression.NamedDataType.{NamedDataType}
use Rattle.ex_named.specs.declared.expression.NamedDataType.TheVariants as nd
use Rattle.ex_named.specs.declared.fault.NameFaultKind.{NameFaultKind}
use Rattle.ex_named.specs.declared.fault.NameFaultKind.TheVariants.{CyclicSubtype, CyclicType, DeclaredTwice, NotAnAttribute}
use Rattle.ex_named.specs.declared.reference.AttributeMeaning.{AttributeMeaning}
use Rattle.ex_named.specs.declared.reference.AttributePlace.{AttributePlace}
use Rattle.ex_named.specs.declared.reference.AttributeSort.{AttributeSort}
use Rattle.ex_named.specs.declared.reference.AttributeUse.{AttributeUse}
use Rattle.ex_named.specs.declared.reference.TypeName.TheVariants as tn
use Rattle.ex_named.specs.Outcomes.{Outcome, refused, given, both, each, optional}
use Rattle.ex_named.specs.Scopes.{Declarations, and_then, declared, as_defined, or_undeclared, attributes_of, entity, type_name}
use Rattle.ex_named.specs.DataTypes.{data_type}
use Rattle.ex_named.specs.Expressions.{expression}
use Rattle.ex_scopes.specs.Attributes.{meaning_if}
use Rattle.ex_scopes.specs.Sorts.{any_sort, explicit_alone, explicit_or_derived}
use Rattle.ex_bind.specs.Rules.{domain_rules, labels, scope_of}
use Rattle.graphs.specs.Graphs.{family, is_ancestor}
use Rattle.ex_declarations.specs.Declared.{once, explicit_names, derived_names, inverse_names}

abbrev pub next : {A B : Type 0} → Outcome A → (A → Outcome B) → Outcome B
next (Ok a) bind = bind a
next (Err fault) bind = Err fault

-- ---- attributes that are named, and not declared

abbrev pub used_as : ℕ → Option AttributeMeaning → Outcome AttributeUse
used_as at None = refused NotAnAttribute at
used_as at (Some meaning) = Ok (record { at = at; meaning = meaning })

-- what a name means there, if one of its declarations is of a sort that can stand there
abbrev pub use_of : (AttributeSort → Bool) → ℕ → List AttributePlace → Outcome AttributeUse
use_of can_stand at places = used_as at (meaning_if can_stand places)

module _ (schema : Declarations) (supertypes : List (List ℕ)) where
  -- the attribute of this name that an entity has
  abbrev pub attribute_of : (AttributeSort → Bool) → ℕ → Name → Outcome AttributeUse
  attribute_of can_stand e n = use_of can_stand n.at (attributes_of schema (family supertypes e) n.text)

  -- ---- redeclared attributes: of an ancestor

  abbrev pub redeclaration_in : (AttributeSort → Bool) → ℕ → QualifiedAttribute → ℕ → Outcome NamedRedeclaration
  redeclaration_in can_stand e q ancestor =
      if is_ancestor supertypes e ancestor
      then given (λ found. record { entity = ancestor; attribute = found }) (attribute_of can_stand ancestor q.attribute)
      else refused NotAnAttribute q.attribute.at

  abbrev pub redeclaration : (AttributeSort → Bool) → ℕ → QualifiedAttribute → Outcome NamedRedeclaration
  redeclaration can_stand e q = next (entity schema q.entity) (redeclaration_in can_stand e q)

  unfoldable pub attribute : (AttributeSort → Bool) → ℕ → AttributeDeclaration → Outcome NamedAttribute
  attribute can_stand e (a.Own n) = Ok (na.Own n)
  attribute can_stand e (a.Qualified q) = given na.Redeclared (redeclaration can_stand e q)

  -- ---- an attribute that is redeclared twice

  -- the entities that declare the attribute of this name that is redeclared, if it is one
  abbrev pub entities_meant : Name → Outcome NamedRedeclaration → List ℕ
  entities_meant n (Ok found) = map (λ p. p.entity) (attributes_of schema (family supertypes found.entity) n.text)
  entities_meant n (Err fault) = []

  -- the attribute's name with its first byte, and the entities that declare it
  abbrev pub redeclared : (AttributeSort → Bool) → ℕ → AttributeDeclaration → Option (Name × List ℕ)
  redeclared can_stand e (a.Own n) = None
  redeclared can_stand e (a.Qualified q) = Some (q.attribute, entities_meant q.attribute (redeclaration can_stand e q))

  abbrev pub all_redeclared : ℕ → EntityBody → List (Name × List ℕ)
  all_redeclared e body =
      filter_map (redeclared explicit_alone e) (flat_map (λ x. x.attributes) body.explicit)
      ++ filter_map (λ x. redeclared explicit_or_derived e x.attribute) body.derived

  -- an attribute that was redeclared before: its name, and an entity that declares it
  abbrev pub stands_before : List (List ℕ × ℕ) → Name × List ℕ → Bool
  stands_before before r = list_any (λ e. is_among (named r.0.text before) e) r.1

  abbrev pub once_redeclared_after : List (List ℕ × ℕ) → Outcome (Unit {0}) → List (Name × List ℕ) → Outcome (Unit {0})
  once_redeclared_after before found [] = found
  once_redeclared_after before found (r ∷ rs) =
      once_redeclared_after (before ++ map (λ e. (r.0.text, e)) r.1)
      (given (λ p. tt {0}) (both found (if stands_before before r then refused DeclaredTwice r.0.at else Ok (tt {0})))) rs

  -- no attribute is redeclared twice
  unfoldable pub once_redeclared : ℕ → EntityBody → Outcome (Unit {0})
  once_redeclared e body = once_redeclared_after [] (Ok (tt {0})) (all_redeclared e body)

  -- ---- explicit, derived and inverse attributes

  unfoldable pub explicit_attribute : ℕ → ExplicitAttribute → Outcome NamedExplicit
  explicit_attribute e x = given (λ p. record { attributes = p.0; optional = x.optional; data_type = p.1 })
      (both (each (attribute explicit_alone e) x.attributes) (data_type schema x.data_type))

  unfoldable pub derived_attribute : ℕ → DerivedAttribute → Outcome NamedDerived
  derived_attribute e x = given (λ p. record { attribute = p.0.0; data_type = p.0.1; value = p.1 })
      (both (both (attribute explicit_or_derived e x.attribute) (data_type schema x.data_type)) (expression schema (scope_of true (family supertypes e)) x.value))

  -- the named entity's attribute, which has to be an explicit one
  abbrev pub inverse_of : InverseAttribute → ℕ → Outcome NamedInverse
  inverse_of x e = given (λ found. record { name = x.name; aggregate = x.aggregate; entity = e; attribute = found })
      (attribute_of explicit_alone e x.attribute)

  unfoldable pub inverse_attribute : InverseAttribute → Outcome NamedInverse
  inverse_attribute x = next (entity schema x.entity) (inverse_of x)

  -- ---- rules

  -- the attribute of this entity or of an ancestor
  abbrev pub unique_in : ℕ → QualifiedAttribute → ℕ → Outcome AttributeUse
  unique_in e q f =
      if f == e || is_ancestor supertypes e f
      then attribute_of any_sort f q.attribute
      else refused NotAnAttribute q.attribute.at

  unfoldable pub unique_attribute : ℕ → AttributeDeclaration → Outcome AttributeUse
  unique_attribute e (a.Own n) = attribute_of any_sort e n
  unique_attribute e (a.Qualified q) = next (entity schema q.entity) (unique_in e q)

  unfoldable pub unique_rule : ℕ → UniqueRule → Outcome NamedUniqueRule
  unique_rule e rule = given (λ found. record { label = rule.label; attributes = found }) (each (unique_attribute e) rule.attributes)

  -- ---- supertype expressions

  abbrev pub supertype_layer : SupertypeExpression-F (Outcome NamedSupertype) → Outcome NamedSupertype
  supertype_layer (SupertypeExpression-F.Entity n) = given (λ e. ns.Entity e n.at) (entity schema n)
  supertype_layer (SupertypeExpression-F.OneOf parts) = given ns.OneOf (each (λ o. o) parts)
  supertype_layer (SupertypeExpression-F.And parts) = given ns.And (each (λ o. o) parts)
  supertype_layer (SupertypeExpression-F.AndOr parts) = given ns.AndOr (each (λ o. o) parts)

  unfoldable pub supertype : SupertypeExpression → Outcome NamedSupertype
  supertype = fold-SupertypeExpression (Outcome NamedSupertype) supertype_layer

  -- ---- entities

  -- the names of an entity's own scope, in the order of the text
  abbrev pub entity_scope : EntityBody → List Name
  entity_scope body = explicit_names body ++ derived_names body ++ inverse_names body
      ++ labels (λ r. r.label) body.unique_rules ++ labels (λ r. r.label) body.domain_rules

  abbrev pub not_cyclic : NameFaultKind → List (List ℕ) → ℕ → Name → Outcome (Unit {0})
  not_cyclic kind graph k n = if is_ancestor graph k k then refused kind n.at else Ok (tt {0})

  unfoldable pub entity_head : ℕ → Entity → Outcome (Option NamedSupertype × List ℕ)
  entity_head k e = given (λ p. p.1) (both (not_cyclic CyclicSubtype supertypes k e.head.name)
      (both (optional supertype e.head.constraint) (each (entity schema) e.head.supertypes)))

  unfoldable pub entity_attributes : ℕ → EntityBody → Outcome ((List NamedExplicit × List NamedDerived) × List NamedInverse)
  entity_attributes k body = both (both (each (explicit_attribute k) body.explicit) (each (derived_attribute k) body.derived)) (each inverse_attribute body.inverse)

  unfoldable pub entity_rules : ℕ → EntityBody → Outcome (List NamedUniqueRule × List NamedDomainRule)
  entity_rules k body = both (each (unique_rule k) body.unique_rules) (domain_rules schema (scope_of true (family supertypes k)) body.domain_rules)

  unfoldable pub entity_names : ℕ → EntityBody → Outcome (Unit {0})
  entity_names k body = given (λ p. tt {0}) (both (once (entity_scope body)) (once_redeclared k body))

  abbrev pub make_entity : Entity → (Option NamedSupertype × List ℕ) × (((List NamedExplicit × List NamedDerived) × List NamedInverse) × (List NamedUniqueRule × List NamedDomainRule)) → NamedEntity
  make_entity e p = record {
    name = e.head.name;
    is_abstract = e.head.is_abstract;
    constraint = p.0.0;
    supertypes = p.0.1;
    explicit = p.1.0.0.0;
    derived = p.1.0.0.1;
    inverse = p.1.0.1;
    unique_rules = p.1.1.0;
    domain_rules = p.1.1.1;
  }

  unfoldable pub named_entity : ℕ → Entity → Outcome NamedEntity
  named_entity k e = given (λ p. make_entity e p.1) (both (entity_names k e.body)
      (both (entity_head k e) (both (entity_attributes k e.body) (entity_rules k e.body))))

  -- ---- types

  -- a type that renames another has to name a type, and no entity
  abbrev pub renamed : Name → Outcome NamedDataType
  renamed n = given (λ k. nd.Named (tn.Defined k)) (or_undeclared n (and_then (declared schema n.text) (as_defined schema)))

  abbrev pub underlying_data : DataType → Outcome NamedDataType
  underlying_data x = elim (out-DataType x) [ DataType-F.Named n ↦ renamed n | _ ↦ data_type schema x ]

  unfoldable pub underlying : UnderlyingType → Outcome NamedUnderlying
  underlying (u.Enumeration names) = given (λ p. nu.Enumeration names) (once names)
  underlying (u.Select names) = given nu.Select (each (type_name schema) names)
  underlying (u.Data x) = given nu.Data (underlying_data x)

  unfoldable pub named_type : List (List ℕ) → ℕ → TypeDeclaration → Outcome NamedType
  named_type held k x = given (λ p. record { name = x.name; underlying = p.1.0; domain_rules = p.1.1 })
      (both (given (λ p. tt {0}) (both (not_cyclic CyclicType held k x.name) (once (labels (λ r. r.label) x.domain_rules))))
      (both (underlying x.underlying) (domain_rules schema (scope_of true []) x.domain_rules)))
