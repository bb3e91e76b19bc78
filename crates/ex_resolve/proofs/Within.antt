-- All numbers of a schema whose names are bound are in range.
use Rattle.std.proofs.Common.{◌≡◌, ℕ, zero, Bool, true, false, if◌then◌else◌, ◌||◌, ◌==◌, List, [], ◌∷◌, ◌++◌, map, length, Option, Some, None, Ok, Err, refl, sym, ap, subst, ◌∙◌, arith}
use Rattle.std.proofs.lemmas.List.{length-map}
use Rattle.std.specs.List.{flat_map, list_all, list_any}
use Rattle.ex_tree.specs.declared.data_type.ArrayBounds.{ArrayBounds}
use Rattle.ex_tree.specs.declared.data_type.Bounds.{Bounds}
use Rattle.ex_tree.specs.declared.data_type.DataType.{DataType, roll-DataType, map-DataType}
use Rattle.ex_tree.specs.declared.data_type.DataType.TheFolds.{fold-roll-DataType, ind-DataType}
use Rattle.ex_tree.specs.declared.data_type.DataType.TheOpen.{DataType-F}
use Rattle.ex_tree.specs.declared.data_type.DataType.TheViews.{out-DataType}
use Rattle.ex_tree.specs.declared.data_type.SimpleType.{SimpleType}
use Rattle.ex_tree.specs.declared.declaration.AttributeDeclaration.{AttributeDeclaration}
use Rattle.ex_tree.specs.declared.declaration.AttributeDeclaration.TheVariants as a
use Rattle.ex_tree.specs.declared.declaration.Constant.{Constant}
use Rattle.ex_tree.specs.declared.declaration.DerivedAttribute.{DerivedAttribute}
use Rattle.ex_tree.specs.declared.declaration.DomainRule.{DomainRule}
use Rattle.ex_tree.specs.declared.declaration.Entity.{Entity}
use Rattle.ex_tree.specs.declared.declaration.ExplicitAttribute.{ExplicitAttribute}
use Rattle.ex_tree.specs.declared.declaration.Function.{Function}
use Rattle.ex_tree.specs.declared.declaration.InverseAttribute.{InverseAttribute}
use Rattle.ex_tree.specs.declared.declaration.LocalVariable.{LocalVariable}
use Rattle.ex_tree.specs.declared.declaration.Parameter.{Parameter}
use Rattle.ex_tree.specs.declared.declaration.QualifiedAttribute.{QualifiedAttribute}
use Rattle.ex_tree.specs.declared.declaration.Rule.{Rule}
use Rattle.ex_tree.specs.declared.declaration.Schema.{Schema}
use Rattle.ex_tree.specs.declared.declaration.SupertypeExpression.{SupertypeExpression, roll-SupertypeExpression, map-SupertypeExpression}
use Rattle.ex_tree.specs.declared.declaration.SupertypeExpression.TheFolds.{fold-roll-SupertypeExpression, ind-SupertypeExpression}
use Rattle.ex_tree.specs.declared.declaration.SupertypeExpression.TheOpen.{SupertypeExpression-F}
use Rattle.ex_tree.specs.declared.declaration.TypeDeclaration.{TypeDeclaration}
use Rattle.ex_tree.specs.declared.declaration.UnderlyingType.{UnderlyingType}
use Rattle.ex_tree.specs.declared.declaration.UnderlyingType.TheVariants as u
use Rattle.ex_tree.specs.declared.declaration.UniqueRule.{UniqueRule}
use Rattle.ex_tree.specs.declared.expression.Name.{Name}
use Rattle.ex_named.specs.declared.declaration.NamedAttribute.{NamedAttribute}
use Rattle.ex_named.specs.declared.declaration.NamedAttribute.TheVariants as na
use Rattle.ex_named.specs.declared.declaration.NamedConstant.{NamedConstant}
use Rattle.ex_named.specs.declared.declaration.NamedDerived.{NamedDerived}
use Rattle.ex_named.specs.declared.declaration.NamedDomainRule.{NamedDomainRule}
use Rattle.ex_named.specs.declared.declaration.NamedEntity.{NamedEntity}
use Rattle.ex_named.specs.declared.declaration.NamedExplicit.{NamedExplicit}
use Rattle.ex_named.specs.declared.declaration.NamedFunction.{NamedFunction}
use Rattle.ex_named.specs.declared.declaration.NamedInverse.{NamedInverse}
use Rattle.ex_named.specs.declared.declaration.NamedLocal.{NamedLocal}
use Rattle.ex_named.specs.declared.declaration.NamedParameter.{NamedParameter}
use Rattle.ex_named.specs.declared.declaration.NamedRedeclaration.{NamedRedeclaration}
use Rattle.ex_named.specs.declared.declaration.NamedRule.{NamedRule}
use Rattle.ex_named.specs.declared.declaration.NamedSchema.{NamedSchema}
use Rattle.ex_named.specs.declared.declaration.NamedSupertype.{NamedSupertype}
use Rattle.ex_named.specs.declared.declaration.NamedSupertype.TheOpen.{NamedSupertype-F}
use Rattle.ex_named.specs.declared.declaration.NamedSupertype.TheVariants as ns
use Rattle.ex_named.specs.declared.declaration.NamedType.{NamedType}
use Rattle.ex_named.specs.declared.declaration.NamedUnderlying.{NamedUnderlying}
use Rattle.ex_named.specs.declared.declaration.NamedUnderlying.TheVariants as nu
use Rattle.ex_named.specs.declared.declaration.NamedUniqueRule.{NamedUniqueRule}
use Rattle.ex_named.specs.declared.expression.NamedDataType.{NamedDataType}
use Rattle.ex_named.specs.declared.expression.NamedDataType.TheOpen.{NamedDataType-F}
use Rattle.ex_named.specs.declared.expression.NamedDataType.TheVariants as nd
use Rattle.ex_named.specs.declared.fault.NameFaultKind.TheVariants.{NotAnAttribute}
use Rattle.ex_named.specs.declared.reference.AttributeMeaning.{AttributeMeaning}
use Rattle.ex_named.specs.declared.reference.AttributePlace.{AttributePlace}
use Rattle.ex_named.specs.declared.reference.AttributeSort.{AttributeSort}
use Rattle.ex_named.specs.declared.reference.AttributeUse.{AttributeUse}
use Rattle.ex_named.specs.declared.reference.TypeName.TheVariants as tn
use Rattle.ex_named.specs.DataTypes.{data_type, data_type_layer}
use Rattle.ex_named.specs.Expressions.{expression}
use Rattle.ex_named.specs.Outcomes.{Outcome, given, each, optional, refused}
use Rattle.ex_named.specs.Scopes.{Declarations, Scope, attributes_of, entity, meaning_of, type_name}
use Rattle.ex_scopes.specs.Attributes.{stands, meaning_if}
use Rattle.ex_scopes.specs.Sorts.{any_sort, explicit_alone, explicit_or_derived}
use Rattle.graphs.specs.Graphs.{family, is_ancestor}
use Rattle.ex_bind.specs.Rules.{domain_rule, domain_rules, scope_of}
use Rattle.ex_bind_algorithms.specs.Algorithms.{body_scope, constant, function_names, local_names, local_variable, named_function, named_rule, parameter, parameter_names, populations}
use Rattle.ex_bind_entities.specs.Entities as bind
use Rattle.ex_declarations.specs.Declared.{declarations, entities, functions, rules, supertype_graph, type_graph, types}
use Rattle.ex_resolve.proofs.Accepted.{Parts}
use Rattle.ex_resolve.proofs.Bodies.{optional_in, statements_in}
use Rattle.ex_resolve.proofs.Layers.{data_type_made, supertype_made}
use Rattle.ex_resolve.proofs.Meanings.{IsIn, variables_of, attributes_in, defined_in, entity_in, meaning_in, type_in}
use Rattle.ex_resolve.proofs.Pieces.{constant_parts, entity_parts, function_parts, rule_parts, rule_scope, type_parts}
use Rattle.ex_resolve.proofs.Tables.{declared_in_range, gave_entities, gave_types}
use Rattle.ex_resolve.proofs.Trees.{expression_in, fine}
use Rattle.ex_resolve.proofs.Truths.{true_and, all_gave, all_gave_numbered, all_parts, gave_flat_map}
use Rattle.ex_resolve.proofs.Wholes.{given_ok, both_ok, Gave, each_ok}
use Rattle.ex_resolve.specs.Ranges as range
use Rattle.ex_resolve.specs.Ranges.{Range, InRange, range_of}
use Rattle.ex_resolve.specs.Schemas.{named_functions, named_rules}

module _ (r : Range) (schema : Declarations) (in_range : IsIn r schema) where
  -- ---- types

  abbrev InType : DataType → Type 0
  InType x = (y : NamedDataType) → data_type schema x ≡ Ok y → range.data_type r y ≡ true

  abbrev PT : Type 0
  PT = (x : DataType) × InType x

  abbrev shed-DataType : DataType-F PT → DataType-F DataType
  shed-DataType = map-DataType PT DataType (λ p. p.0)

  stood_type : (x : DataType-F DataType) (y : NamedDataType) → data_type schema (roll-DataType x) ≡ Ok y → data_type_layer schema (map-DataType DataType (Outcome NamedDataType) (data_type schema) x) ≡ Ok y
  unfolding data_type
  stood_type x y h = sym (fold-roll-DataType (Outcome NamedDataType) (data_type_layer schema) x) ∙ h

  simple_in : (simple : SimpleType) (y : NamedDataType) → fine (nd.Simple simple) ≡ Ok y → range.data_type r y ≡ true
  simple_in simple y h = let same : nd.Simple simple ≡ y = cc in data_type_made r (NamedDataType-F.Simple simple) y (nd.rolls-Simple simple ∙ same) refl

  generic_in : (y : NamedDataType) → fine nd.Generic ≡ Ok y → range.data_type r y ≡ true
  generic_in y h = let same : nd.Generic ≡ y = cc in data_type_made r NamedDataType-F.Generic y (nd.rolls-Generic ∙ same) refl

  named_in : (n : Name) (y : NamedDataType) → given nd.Named (type_name schema n) ≡ Ok y → range.data_type r y ≡ true
  named_in n y h =
      let found = given_ok _ _ y h in
      data_type_made r (NamedDataType-F.Named found.0) y (nd.rolls-Named found.0 ∙ found.1.1) (type_in r schema in_range n found.0 found.1.0)

  array_in : (bounds : ArrayBounds) (optional unique : Bool) (p : PT) (y : NamedDataType) → given (nd.Array bounds optional unique) (data_type schema p.0) ≡ Ok y → range.data_type r y ≡ true
  array_in bounds optional unique p y h =
      let found = given_ok _ _ y h in
      data_type_made r (NamedDataType-F.Array bounds optional unique found.0) y (nd.rolls-Array bounds optional unique found.0 ∙ found.1.1) (p.1 found.0 found.1.0)

  list_in : (bounds : Bounds) (unique : Bool) (p : PT) (y : NamedDataType) → given (nd.List bounds unique) (data_type schema p.0) ≡ Ok y → range.data_type r y ≡ true
  list_in bounds unique p y h =
      let found = given_ok _ _ y h in
      data_type_made r (NamedDataType-F.List bounds unique found.0) y (nd.rolls-List bounds unique found.0 ∙ found.1.1) (p.1 found.0 found.1.0)

  bag_in : (bounds : Bounds) (p : PT) (y : NamedDataType) → given (nd.Bag bounds) (data_type schema p.0) ≡ Ok y → range.data_type r y ≡ true
  bag_in bounds p y h =
      let found = given_ok _ _ y h in
      data_type_made r (NamedDataType-F.Bag bounds found.0) y (nd.rolls-Bag bounds found.0 ∙ found.1.1) (p.1 found.0 found.1.0)

  set_in : (bounds : Bounds) (p : PT) (y : NamedDataType) → given (nd.Set bounds) (data_type schema p.0) ≡ Ok y → range.data_type r y ≡ true
  set_in bounds p y h =
      let found = given_ok _ _ y h in
      data_type_made r (NamedDataType-F.Set bounds found.0) y (nd.rolls-Set bounds found.0 ∙ found.1.1) (p.1 found.0 found.1.0)

  aggregate_in : (p : PT) (y : NamedDataType) → given nd.Aggregate (data_type schema p.0) ≡ Ok y → range.data_type r y ≡ true
  aggregate_in p y h =
      let found = given_ok _ _ y h in
      data_type_made r (NamedDataType-F.Aggregate found.0) y (nd.rolls-Aggregate found.0 ∙ found.1.1) (p.1 found.0 found.1.0)

  type_layer_in : (x : DataType-F PT) → InType (roll-DataType (shed-DataType x))
  type_layer_in (DataType-F.Simple simple) y h = simple_in simple y (stood_type (shed-DataType (DataType-F.Simple simple)) y h)
  type_layer_in (DataType-F.Named n) y h = named_in n y (stood_type (shed-DataType (DataType-F.Named n)) y h)
  type_layer_in (DataType-F.Array bounds optional unique p) y h = array_in bounds optional unique p y (stood_type (shed-DataType (DataType-F.Array bounds optional unique p)) y h)
  type_layer_in (DataType-F.List bounds unique p) y h = list_in bounds unique p y (stood_type (shed-DataType (DataType-F.List bounds unique p)) y h)
  type_layer_in (DataType-F.Bag bounds p) y h = bag_in bounds p y (stood_type (shed-DataType (DataType-F.Bag bounds p)) y h)
  type_layer_in (DataType-F.Set bounds p) y h = set_in bounds p y (stood_type (shed-DataType (DataType-F.Set bounds p)) y h)
  type_layer_in (DataType-F.Aggregate p) y h = aggregate_in p y (stood_type (shed-DataType (DataType-F.Aggregate p)) y h)
  type_layer_in DataType-F.Generic y h = generic_in y (stood_type (shed-DataType DataType-F.Generic) y h)

  data_type_in : (x : DataType) → InType x
  data_type_in = ind-DataType InType (λ x y is. subst (λ z. InType (roll-DataType z)) is (type_layer_in y))

  -- ---- rules of a WHERE clause

  domain_rule_in : (s : Scope) (x : DomainRule) (y : NamedDomainRule) → domain_rule schema s x ≡ Ok y → range.expression r y.condition (variables_of s) ≡ true
  unfolding domain_rule
  domain_rule_in s x y h =
      let found = given_ok _ _ y h in
      ap (λ z. range.expression r z.condition (variables_of s)) (sym found.1.1) ∙ expression_in r schema in_range x.condition s found.0 found.1.0

  pub domain_rules_in : (s : Scope) (xs : List DomainRule) (ys : List NamedDomainRule) → domain_rules schema s xs ≡ Ok ys → range.domain_rules r (variables_of s) ys ≡ true
  domain_rules_in s xs ys h = all_gave (domain_rule schema s) (λ y. range.expression r y.condition (variables_of s)) (domain_rule_in s) xs ys (each_ok (domain_rule schema s) xs ys h)

  -- ---- types

  renamed_in : (graph : List (List ℕ)) (n : Name) (y : NamedDataType) → bind.renamed schema graph n ≡ Ok y → range.data_type r y ≡ true
  renamed_in graph n y h =
      let found = given_ok _ _ y h in
      data_type_made r (NamedDataType-F.Named (tn.Defined found.0)) y (nd.rolls-Named (tn.Defined found.0) ∙ found.1.1) (defined_in r schema in_range n found.0 found.1.0)

  data_in : (graph : List (List ℕ)) (o : DataType-F DataType) (x : DataType) → out-DataType x ≡ o → (y : NamedDataType)
      → (elim o as (λ v. Outcome NamedDataType) [ DataType-F.Named n ↦ bind.renamed schema graph n | _ ↦ data_type schema x ]) ≡ Ok y → range.data_type r y ≡ true
  data_in graph (DataType-F.Named n) x is y h = renamed_in graph n y h
  data_in graph (DataType-F.Simple s) x is y h = data_type_in x y h
  data_in graph (DataType-F.Array b o u e) x is y h = data_type_in x y h
  data_in graph (DataType-F.List b u e) x is y h = data_type_in x y h
  data_in graph (DataType-F.Bag b e) x is y h = data_type_in x y h
  data_in graph (DataType-F.Set b e) x is y h = data_type_in x y h
  data_in graph (DataType-F.Aggregate e) x is y h = data_type_in x y h
  data_in graph DataType-F.Generic x is y h = data_type_in x y h

  underlying_in : (graph : List (List ℕ)) (x : UnderlyingType) (y : NamedUnderlying) → bind.underlying schema graph x ≡ Ok y → range.underlying r y ≡ true
  unfolding bind.underlying
  underlying_in graph (u.Enumeration names) y h = let found = given_ok _ _ y h in ap (range.underlying r) (sym found.1.1)
  underlying_in graph (u.Select names) y h =
      let found = given_ok nu.Select (each (type_name schema) names) y h in
      ap (range.underlying r) (sym found.1.1) ∙ all_gave (type_name schema) (range.type_name r) (type_in r schema in_range) names found.0 (each_ok (type_name schema) names found.0 found.1.0)
  underlying_in graph (u.Data x) y h =
      let found = given_ok nu.Data (bind.underlying_data schema graph x) y h in
      ap (range.underlying r) (sym found.1.1) ∙ data_in graph (out-DataType x) x refl found.0 found.1.0

  -- ---- attributes that are named, and not declared

  meaning_if_by : (b : Bool) (places : List AttributePlace) (x : AttributeMeaning) → list_all r.attribute places ≡ true → (if b then meaning_of places else None) ≡ Some x → range.meaning r x ≡ true
  meaning_if_by true places x all is = meaning_in r schema in_range places x all is
  meaning_if_by false places x all is = absurd cc

  meaning_if_in : (can_stand : AttributeSort → Bool) (places : List AttributePlace) (x : AttributeMeaning) → list_all r.attribute places ≡ true → meaning_if can_stand places ≡ Some x → range.meaning r x ≡ true
  meaning_if_in can_stand [] x all is = absurd cc
  meaning_if_in can_stand (first ∷ others) x all is = meaning_if_by (can_stand first.sort || list_any (stands can_stand first.sort) others) (first ∷ others) x all is

  used_in : (at : ℕ) (o : Option AttributeMeaning) (y : AttributeUse) → ((x : AttributeMeaning) → o ≡ Some x → range.meaning r x ≡ true) → bind.used_as at o ≡ Ok y → range.attribute_use r y ≡ true
  used_in at None y known h = absurd cc
  used_in at (Some x) y known h = let same : record { at = at; meaning = x } ≡ y = cc in ap (range.attribute_use r) (sym same) ∙ known x refl

  module _ (graph : List (List ℕ)) where
    attribute_of_in : (can_stand : AttributeSort → Bool) (e : ℕ) (n : Name) (y : AttributeUse) → bind.attribute_of schema graph can_stand e n ≡ Ok y → range.attribute_use r y ≡ true
    attribute_of_in can_stand e n y h =
        let places = attributes_of schema (family graph e) n.text in
        used_in n.at (meaning_if can_stand places) y (λ x. meaning_if_in can_stand places x (attributes_in r schema in_range (family graph e) n.text)) h

    -- what a name of an entity leads to
    next_in : {B : Type 0} (n : Name) (step : ℕ → Outcome B) (test : B → Bool) → ((k : ℕ) (y : B) → r.entity k ≡ true → step k ≡ Ok y → test y ≡ true)
        → (o : Outcome ℕ) → o ≡ entity schema n → (y : B) → bind.next o step ≡ Ok y → test y ≡ true
    next_in n step test holds (Ok k) is y h = holds k y (entity_in r schema in_range n k (sym is)) h
    next_in n step test holds (Err fault) is y h = absurd cc

    -- ---- redeclared attributes

    redeclared_if : (b : Bool) (can_stand : AttributeSort → Bool) (q : QualifiedAttribute) (k : ℕ) (y : NamedRedeclaration) → r.entity k ≡ true
        → (if b then given (λ found. record { entity = k; attribute = found }) (bind.attribute_of schema graph can_stand k q.attribute) else refused NotAnAttribute q.attribute.at) ≡ Ok y
        → range.attribute r (na.Redeclared y) ≡ true
    redeclared_if true can_stand q k y there h =
        let found = given_ok _ _ y h in
        ap (λ z. range.attribute r (na.Redeclared z)) (sym found.1.1) ∙ true_and _ _ there (attribute_of_in can_stand k q.attribute found.0 found.1.0)
    redeclared_if false can_stand q k y there h = absurd cc

    attribute_in : (can_stand : AttributeSort → Bool) (e : ℕ) (x : AttributeDeclaration) (y : NamedAttribute) → bind.attribute schema graph can_stand e x ≡ Ok y → range.attribute r y ≡ true
    unfolding bind.attribute
    attribute_in can_stand e (a.Own n) y h = let same : na.Own n ≡ y = cc in ap (range.attribute r) (sym same)
    attribute_in can_stand e (a.Qualified q) y h =
        let found = given_ok na.Redeclared _ y h in
        ap (range.attribute r) (sym found.1.1) ∙ next_in q.entity (bind.redeclaration_in schema graph can_stand e q) (λ z. range.attribute r (na.Redeclared z))
        (λ k z there is. redeclared_if (is_ancestor graph e k) can_stand q k z there is) (entity schema q.entity) refl found.0 found.1.0

    -- ---- explicit, derived and inverse attributes

    explicit_in : (e : ℕ) (x : ExplicitAttribute) (y : NamedExplicit) → bind.explicit_attribute schema graph e x ≡ Ok y → range.explicit r y ≡ true
    unfolding bind.explicit_attribute range.explicit
    explicit_in e x y h =
        let found = given_ok _ _ y h in
        let parts = both_ok _ _ found.0 found.1.0 in
        ap (range.explicit r) (sym found.1.1)
        ∙ true_and _ _ (all_gave (bind.attribute schema graph explicit_alone e) (range.attribute r) (attribute_in explicit_alone e) x.attributes found.0.0 (each_ok (bind.attribute schema graph explicit_alone e) x.attributes found.0.0 parts.0)) (data_type_in x.data_type found.0.1 parts.1)

    derived_in : (e : ℕ) (x : DerivedAttribute) (y : NamedDerived) → bind.derived_attribute schema graph e x ≡ Ok y → range.derived r y ≡ true
    unfolding bind.derived_attribute range.derived
    derived_in e x y h =
        let found = given_ok _ _ y h in
        let parts = both_ok _ _ found.0 found.1.0 in
        let first = both_ok _ _ found.0.0 parts.0 in
        ap (range.derived r) (sym found.1.1)
        ∙ true_and _ _ (true_and _ _ (attribute_in explicit_or_derived e x.attribute found.0.0.0 first.0) (data_type_in x.data_type found.0.0.1 first.1)) (expression_in r schema in_range x.value (scope_of true (family graph e)) found.0.1 parts.1)

    inverse_of_in : (x : InverseAttribute) (k : ℕ) (y : NamedInverse) → r.entity k ≡ true → bind.inverse_of schema graph x k ≡ Ok y → range.inverse r y ≡ true
    unfolding range.inverse
    inverse_of_in x k y there h =
        let found = given_ok _ _ y h in
        ap (range.inverse r) (sym found.1.1) ∙ true_and _ _ there (attribute_of_in explicit_alone k x.attribute found.0 found.1.0)

    inverse_in : (x : InverseAttribute) (y : NamedInverse) → bind.inverse_attribute schema graph x ≡ Ok y → range.inverse r y ≡ true
    unfolding bind.inverse_attribute
    inverse_in x y h = next_in x.entity (bind.inverse_of schema graph x) (range.inverse r) (inverse_of_in x) (entity schema x.entity) refl y h

    -- ---- rules

    unique_if : (b : Bool) (can_stand : AttributeSort → Bool) (q : QualifiedAttribute) (k : ℕ) (y : AttributeUse)
        → (if b then bind.attribute_of schema graph can_stand k q.attribute else refused NotAnAttribute q.attribute.at) ≡ Ok y → range.attribute_use r y ≡ true
    unique_if true can_stand q k y h = attribute_of_in can_stand k q.attribute y h
    unique_if false can_stand q k y h = absurd cc

    unique_attribute_in : (e : ℕ) (x : AttributeDeclaration) (y : AttributeUse) → bind.unique_attribute schema graph e x ≡ Ok y → range.attribute_use r y ≡ true
    unfolding bind.unique_attribute
    unique_attribute_in e (a.Own n) y h = attribute_of_in any_sort e n y h
    unique_attribute_in e (a.Qualified q) y h = next_in q.entity (bind.unique_in schema graph e q) (range.attribute_use r)
        (λ k z there is. unique_if (k == e || is_ancestor graph e k) any_sort q k z is) (entity schema q.entity) refl y h

    unique_rule_in : (e : ℕ) (x : UniqueRule) (y : NamedUniqueRule) → bind.unique_rule schema graph e x ≡ Ok y → range.unique_rule r y ≡ true
    unfolding bind.unique_rule range.unique_rule
    unique_rule_in e x y h =
        let found = given_ok _ _ y h in
        ap (range.unique_rule r) (sym found.1.1) ∙ all_gave (bind.unique_attribute schema graph e) (range.attribute_use r) (unique_attribute_in e) x.attributes found.0 (each_ok _ x.attributes found.0 found.1.0)

    -- ---- supertype expressions

    abbrev InSupertype : SupertypeExpression → Type 0
    InSupertype x = (y : NamedSupertype) → bind.supertype schema graph x ≡ Ok y → range.supertype r y ≡ true

    abbrev PS : Type 0
    PS = (x : SupertypeExpression) × InSupertype x

    abbrev shed-Supertype : SupertypeExpression-F PS → SupertypeExpression-F SupertypeExpression
    shed-Supertype = map-SupertypeExpression PS SupertypeExpression (λ p. p.0)

    stood_supertype : (x : SupertypeExpression-F SupertypeExpression) (y : NamedSupertype) → bind.supertype schema graph (roll-SupertypeExpression x) ≡ Ok y
        → bind.supertype_layer schema graph (map-SupertypeExpression SupertypeExpression (Outcome NamedSupertype) (bind.supertype schema graph) x) ≡ Ok y
    unfolding bind.supertype
    stood_supertype x y h = sym (fold-roll-SupertypeExpression (Outcome NamedSupertype) (bind.supertype_layer schema graph) x) ∙ h

    supertypes_in : (xs : List PS) (ys : List NamedSupertype) → each (λ o. o) (map (bind.supertype schema graph) (map (λ p. p.0) xs)) ≡ Ok ys
        → list_all (λ part. part) (map (range.supertype r) ys) ≡ true
    supertypes_in xs ys h = all_parts (λ p. p.0) (bind.supertype schema graph) (λ o. o) (range.supertype r) (λ part. part) (λ p. p.1) xs ys (each_ok (λ o. o) _ ys h)

    supertype_layer_in : (x : SupertypeExpression-F PS) → InSupertype (roll-SupertypeExpression (shed-Supertype x))
    supertype_layer_in (SupertypeExpression-F.Entity n) y h =
        let found = given_ok (λ e. ns.Entity e n.at) (entity schema n) y (stood_supertype (shed-Supertype (SupertypeExpression-F.Entity n)) y h) in
        supertype_made r (NamedSupertype-F.Entity found.0 n.at) y (ns.rolls-Entity found.0 n.at ∙ found.1.1) (entity_in r schema in_range n found.0 found.1.0)
    supertype_layer_in (SupertypeExpression-F.OneOf xs) y h =
        let found = given_ok ns.OneOf _ y (stood_supertype (shed-Supertype (SupertypeExpression-F.OneOf xs)) y h) in
        supertype_made r (NamedSupertype-F.OneOf found.0) y (ns.rolls-OneOf found.0 ∙ found.1.1) (supertypes_in xs found.0 found.1.0)
    supertype_layer_in (SupertypeExpression-F.And xs) y h =
        let found = given_ok ns.And _ y (stood_supertype (shed-Supertype (SupertypeExpression-F.And xs)) y h) in
        supertype_made r (NamedSupertype-F.And found.0) y (ns.rolls-And found.0 ∙ found.1.1) (supertypes_in xs found.0 found.1.0)
    supertype_layer_in (SupertypeExpression-F.AndOr xs) y h =
        let found = given_ok ns.AndOr _ y (stood_supertype (shed-Supertype (SupertypeExpression-F.AndOr xs)) y h) in
        supertype_made r (NamedSupertype-F.AndOr found.0) y (ns.rolls-AndOr found.0 ∙ found.1.1) (supertypes_in xs found.0 found.1.0)

    supertype_in : (x : SupertypeExpression) → InSupertype x
    supertype_in = ind-SupertypeExpression InSupertype (λ x y is. subst (λ z. InSupertype (roll-SupertypeExpression z)) is (supertype_layer_in y))

    -- ---- entities

    named_entity_in : (k : ℕ) (e : Entity) (y : NamedEntity) → bind.named_entity schema graph k e ≡ Ok y → range.entity r y ≡ true
    unfolding range.entity
    named_entity_in k e y h =
        let parts = entity_parts schema graph k e y h in
        true_and _ _ (true_and _ _ (true_and _ _ (true_and _ _ (true_and _ _ (true_and _ _
        (optional_in (bind.supertype schema graph) (range.supertype r) supertype_in e.head.constraint y.constraint parts.constraint)
        (all_gave (entity schema) r.entity (entity_in r schema in_range) e.head.supertypes y.supertypes (each_ok (entity schema) e.head.supertypes y.supertypes parts.supertypes)))
        (all_gave (bind.explicit_attribute schema graph k) (range.explicit r) (explicit_in k) e.body.explicit y.explicit (each_ok (bind.explicit_attribute schema graph k) e.body.explicit y.explicit parts.explicit)))
        (all_gave (bind.derived_attribute schema graph k) (range.derived r) (derived_in k) e.body.derived y.derived (each_ok (bind.derived_attribute schema graph k) e.body.derived y.derived parts.derived)))
        (all_gave (bind.inverse_attribute schema graph) (range.inverse r) inverse_in e.body.inverse y.inverse (each_ok (bind.inverse_attribute schema graph) e.body.inverse y.inverse parts.inverse)))
        (all_gave (bind.unique_rule schema graph k) (range.unique_rule r) (unique_rule_in k) e.body.unique_rules y.unique_rules (each_ok (bind.unique_rule schema graph k) e.body.unique_rules y.unique_rules parts.unique_rules)))
        (domain_rules_in (scope_of true (family graph k)) e.body.domain_rules y.domain_rules parts.domain_rules)

  -- ---- types and constants

  named_type_in : (held : List (List ℕ)) (k : ℕ) (x : TypeDeclaration) (y : NamedType) → bind.named_type schema [] held k x ≡ Ok y → range.type r y ≡ true
  unfolding range.type
  named_type_in held k x y h =
      let parts = type_parts schema held k x y h in
      true_and _ _ (underlying_in [] x.underlying y.underlying parts.underlying) (domain_rules_in (scope_of true []) x.domain_rules y.domain_rules parts.domain_rules)

  constant_in : (c : Constant) (y : NamedConstant) → constant schema c ≡ Ok y → range.constant r y ≡ true
  unfolding range.constant
  constant_in c y h =
      let parts = constant_parts schema c y h in
      true_and _ _ (data_type_in c.data_type y.data_type parts.data_type) (expression_in r schema in_range c.value (scope_of false []) y.value parts.value)

  -- ---- functions and rules

  local_in : (s : Scope) (x : LocalVariable) (y : NamedLocal) → local_variable schema s x ≡ Ok y → range.local r (variables_of s) y ≡ true
  unfolding local_variable
  local_in s x y h =
      let found = given_ok _ _ y h in
      let parts = both_ok _ _ found.0 found.1.0 in
      ap (range.local r (variables_of s)) (sym found.1.1)
      ∙ true_and _ _ (data_type_in x.data_type found.0.0 parts.0)
      (optional_in (expression schema s) (λ z. range.expression r z (variables_of s)) (λ a b. expression_in r schema in_range a s b) x.value found.0.1 parts.1)

  local_names_same : (s : Scope) (xs : List LocalVariable) (ys : List NamedLocal) → Gave (local_variable schema s) xs ys → flat_map (λ l. l.names) ys ≡ local_names xs
  unfolding local_variable
  local_names_same s xs ys h = gave_flat_map (local_variable schema s) (λ l. l.names) (λ l. l.names) (λ x y is. let found = given_ok _ _ y is in ap (λ z. z.names) (sym found.1.1)) xs ys h

  parameter_in : (x : Parameter) (y : NamedParameter) → parameter schema x ≡ Ok y → range.data_type r y.data_type ≡ true
  unfolding parameter
  parameter_in x y h = let found = given_ok _ _ y h in ap (λ z. range.data_type r z.data_type) (sym found.1.1) ∙ data_type_in x.data_type found.0 found.1.0

  parameter_names_same : (xs : List Parameter) (ys : List NamedParameter) → Gave (parameter schema) xs ys → flat_map (λ p. p.names) ys ≡ parameter_names xs
  unfolding parameter
  parameter_names_same xs ys h = gave_flat_map (parameter schema) (λ p. p.names) (λ p. p.names) (λ x y is. let found = given_ok _ _ y is in ap (λ z. z.names) (sym found.1.1)) xs ys h

  -- the variables of a body
  frame_counted : (names : List Name) (populations : List ℕ) → length names ≡ variables_of (body_scope names populations)
  frame_counted names populations = sym (length-map names (λ n. n.text)) ∙ omega arith

  named_function_in : (f : Function) (y : NamedFunction) → named_function schema f ≡ Ok y → range.function r y ≡ true
  unfolding range.function
  named_function_in f y h =
      let s = body_scope (function_names schema f) [] in
      let parts = function_parts schema f y h in
      let parameters = each_ok (parameter schema) f.head.parameters y.parameters parts.parameters in
      let locals = each_ok (local_variable schema s) f.locals y.locals parts.locals in
      let count : range.function_variables r y ≡ variables_of s = ap length (ap (λ l. l ++ flat_map (λ l. l.names) y.locals) (parameter_names_same f.head.parameters y.parameters parameters)
      ∙ ap (λ l. parameter_names f.head.parameters ++ l) (local_names_same s f.locals y.locals locals)) ∙ frame_counted (function_names schema f) [] in
      true_and _ _ (true_and _ _ (true_and _ _
      (all_gave (parameter schema) (λ p. range.data_type r p.data_type) parameter_in f.head.parameters y.parameters parameters)
      (data_type_in f.head.result y.result parts.result))
      (ap (λ n. list_all (range.local r n) y.locals) count ∙ all_gave (local_variable schema s) (range.local r (variables_of s)) (local_in s) f.locals y.locals locals))
      (ap (λ n. list_all (λ x. range.statement r x n) y.statements) count ∙ statements_in r schema in_range s f.statements y.statements parts.statements)

  named_rule_in : (x : Rule) (y : NamedRule) → named_rule schema x ≡ Ok y → range.rule r y ≡ true
  unfolding range.rule
  named_rule_in x y h =
      let s = rule_scope schema x in
      let parts = rule_parts schema x y h in
      let locals = each_ok (local_variable schema s) x.locals y.locals parts.locals in
      let count : range.rule_variables r y ≡ variables_of s = ap length (local_names_same s x.locals y.locals locals) ∙ frame_counted (local_names x.locals) (populations schema x.head.entities) in
      true_and _ _ (true_and _ _ (true_and _ _
      (all_gave (entity schema) r.entity (entity_in r schema in_range) x.head.entities y.entities (each_ok (entity schema) x.head.entities y.entities parts.entities))
      (ap (λ n. list_all (range.local r n) y.locals) count ∙ all_gave (local_variable schema s) (range.local r (variables_of s)) (local_in s) x.locals y.locals locals))
      (ap (λ n. list_all (λ z. range.statement r z n) y.statements) count ∙ statements_in r schema in_range s x.statements y.statements parts.statements))
      (ap (λ n. range.domain_rules r n y.domain_rules) count ∙ domain_rules_in s x.domain_rules y.domain_rules parts.domain_rules)

pub all_in_range : (tree : Schema) (found : NamedSchema) → Parts tree found → InRange found
unfolding named_functions named_rules
all_in_range tree found parts =
    let schema = declarations tree in
    let r = range_of found in
    let there = declared_in_range tree found parts in
    record {
      constants = all_gave (constant schema) (range.constant r) (constant_in r schema there) tree.constants found.constants (each_ok (constant schema) tree.constants found.constants parts.constants);
      types = all_gave_numbered (bind.named_type schema [] (type_graph schema (types tree))) (range.type r) (named_type_in r schema there (type_graph schema (types tree))) zero (types tree) found.types (gave_types tree found parts);
      entities = all_gave_numbered (bind.named_entity schema (supertype_graph schema (entities tree))) (range.entity r) (named_entity_in r schema there (supertype_graph schema (entities tree))) zero (entities tree) found.entities (gave_entities tree found parts);
      functions = all_gave (named_function schema) (range.function r) (named_function_in r schema there) (functions tree) found.functions (each_ok (named_function schema) (functions tree) found.functions parts.functions);
      rules = all_gave (named_rule schema) (range.rule r) (named_rule_in r schema there) (rules tree) found.rules (each_ok (named_rule schema) (rules tree) found.rules parts.rules);
    }
