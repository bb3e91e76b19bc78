-- Expressions that stand in no entity use no attribute by its name alone.
use Rattle.std.proofs.Common.{◌≡◌, ℕ, Bool, true, false, ◌==◌, if◌then◌else◌, List, [], ◌∷◌, map, Option, Some, None, option_map, Ok, Err, refl, sym, ap, subst, ◌∙◌}
use Rattle.std.specs.List.{filter, find}
use Rattle.name_tables.specs.Names.{named}
use Rattle.plain_data.specs.Numbers.{is_among}
use Rattle.ex_named.specs.declared.reference.AttributePlace.{AttributePlace}
use Rattle.ex_named.specs.declared.reference.Declared.{Declared}
use Rattle.ex_named.specs.declared.reference.Declared.TheVariants as d
use Rattle.ex_named.specs.declared.reference.EnumerationItem.{EnumerationItem}
use Rattle.ex_named.specs.declared.fault.NameFaultKind.TheVariants.{Undeclared}
use Rattle.ex_named.specs.Outcomes.{refused}
use Rattle.ex_tree.specs.declared.expression.BuiltInFunction.{BuiltInFunction}
use Rattle.ex_tree.specs.declared.expression.Expression.{Expression, roll-Expression, map-Expression}
use Rattle.ex_tree.specs.declared.expression.Expression.TheFolds.{fold-roll-Expression, fold-roll-Qualifier, fold-roll-Interval, fold-roll-Operation, fold-roll-Query, ind-Expression}
use Rattle.ex_tree.specs.declared.expression.Expression.TheOpen.{Expression-F, Qualifier-F, Interval-F, Operation-F, Query-F}
use Rattle.ex_tree.specs.declared.expression.Interval.{Interval, roll-Interval, map-Interval}
use Rattle.ex_tree.specs.declared.expression.Literal.{Literal}
use Rattle.ex_tree.specs.declared.expression.Name.{Name}
use Rattle.ex_tree.specs.declared.expression.Operation.{Operation, roll-Operation, map-Operation}
use Rattle.ex_tree.specs.declared.expression.Qualifier.{Qualifier, roll-Qualifier, map-Qualifier}
use Rattle.ex_tree.specs.declared.expression.Query.{Query, roll-Query, map-Query}
use Rattle.ex_tree.specs.declared.expression.UnaryOperator.{UnaryOperator}
use Rattle.ex_named.specs.declared.expression.NamedExpression.{NamedExpression, roll-NamedExpression, map-NamedExpression}
use Rattle.ex_named.specs.declared.expression.NamedExpression.TheVariants as e
use Rattle.ex_named.specs.declared.expression.NamedExpression.TheOpen.{NamedExpression-F, NamedQualifier-F, NamedInterval-F, NamedOperation-F, NamedQuery-F}
use Rattle.ex_named.specs.declared.expression.NamedInterval.{NamedInterval, roll-NamedInterval, map-NamedInterval}
use Rattle.ex_named.specs.declared.expression.NamedOperation.{NamedOperation, roll-NamedOperation, map-NamedOperation}
use Rattle.ex_named.specs.declared.expression.NamedQualifier.{NamedQualifier, roll-NamedQualifier, map-NamedQualifier}
use Rattle.ex_named.specs.declared.expression.NamedQualifier.TheVariants as q
use Rattle.ex_named.specs.declared.expression.NamedQuery.{NamedQuery, roll-NamedQuery, map-NamedQuery}
use Rattle.ex_named.specs.Expressions as bind
use Rattle.ex_named.specs.Expressions.{Bound, BoundQualifier, BoundInterval, BoundOperation, BoundQuery, bound_expression, expression}
use Rattle.ex_named.specs.Outcomes.{Outcome, given, both, each}
use Rattle.ex_named.specs.Scopes.{Declarations, Scope, and_then, as_defined, attribute, declared, declared_value, entity, function, is_marked, item_from, item_of, item_of_by, item_of_declared, item_of_type, itself, meaning_of, name, or_else, value, value_or_item, variable, within}
use Rattle.ex_bind.specs.Trees.{bound_qualifier, bound_interval, bound_operation, bound_query}
use Rattle.ex_resolve.proofs.Truths.{true_and, all_parts}
use Rattle.ex_resolve.proofs.Wholes.{both_ok, each_ok, given_ok, meant}
use Rattle.rp_rule_laws.proofs.AttributesOnce.{one-roll, one_interval-roll, one_operation-roll, one_qualifier-roll, one_query-roll}
use Rattle.rp_rule_laws.specs.Attributes as law

abbrev pub fine : {A : Type 0} → A → Outcome A
fine a = Ok a

-- ---- a tree, by its layer

expression_made : (x : NamedExpression-F NamedExpression NamedQualifier NamedInterval NamedOperation NamedQuery) (y : NamedExpression) → roll-NamedExpression x ≡ y
    → law.expression_layer (map-NamedExpression NamedExpression NamedQualifier NamedInterval NamedOperation NamedQuery Bool Bool Bool Bool Bool law.expression law.qualifier law.interval law.operation law.query x) ≡ true → law.expression y ≡ true
expression_made x y is h = ap law.expression (sym is) ∙ one-roll x ∙ h

qualifier_made : (x : NamedQualifier-F NamedExpression NamedQualifier NamedInterval NamedOperation NamedQuery) (y : NamedQualifier) → roll-NamedQualifier x ≡ y
    → law.qualifier_layer (map-NamedQualifier NamedExpression NamedQualifier NamedInterval NamedOperation NamedQuery Bool Bool Bool Bool Bool law.expression law.qualifier law.interval law.operation law.query x) ≡ true → law.qualifier y ≡ true
qualifier_made x y is h = ap law.qualifier (sym is) ∙ one_qualifier-roll x ∙ h

interval_made : (x : NamedInterval-F NamedExpression NamedQualifier NamedInterval NamedOperation NamedQuery) (y : NamedInterval) → roll-NamedInterval x ≡ y
    → law.interval_layer (map-NamedInterval NamedExpression NamedQualifier NamedInterval NamedOperation NamedQuery Bool Bool Bool Bool Bool law.expression law.qualifier law.interval law.operation law.query x) ≡ true → law.interval y ≡ true
interval_made x y is h = ap law.interval (sym is) ∙ one_interval-roll x ∙ h

operation_made : (x : NamedOperation-F NamedExpression NamedQualifier NamedInterval NamedOperation NamedQuery) (y : NamedOperation) → roll-NamedOperation x ≡ y
    → law.operation_layer (map-NamedOperation NamedExpression NamedQualifier NamedInterval NamedOperation NamedQuery Bool Bool Bool Bool Bool law.expression law.qualifier law.interval law.operation law.query x) ≡ true → law.operation y ≡ true
operation_made x y is h = ap law.operation (sym is) ∙ one_operation-roll x ∙ h

query_made : (x : NamedQuery-F NamedExpression NamedQualifier NamedInterval NamedOperation NamedQuery) (y : NamedQuery) → roll-NamedQuery x ≡ y
    → law.query_layer (map-NamedQuery NamedExpression NamedQualifier NamedInterval NamedOperation NamedQuery Bool Bool Bool Bool Bool law.expression law.qualifier law.interval law.operation law.query x) ≡ true → law.query y ≡ true
query_made x y is h = ap law.query (sym is) ∙ one_query-roll x ∙ h

module _ (schema : Declarations) where
  -- ---- names

  none_kept : (places : List AttributePlace) → filter (λ (a : AttributePlace). false) places ≡ []
  none_kept [] = refl
  none_kept (a ∷ places) = none_kept places

  no_attribute : (s : Scope) → s.family ≡ [] → (n : Name) → attribute schema s n ≡ None
  no_attribute s w n =
      ap (λ (l : List ℕ). option_map (λ meaning. e.Attribute (record { at = n.at; meaning = meaning })) (meaning_of (filter (λ (a : AttributePlace). is_among l a.entity) (named n.text schema.attributes)))) w
      ∙ ap (λ l. option_map (λ meaning. e.Attribute (record { at = n.at; meaning = meaning })) (meaning_of l)) (none_kept (named n.text schema.attributes))

  variable_by : (o : Option ℕ) (y : NamedExpression) → option_map e.Variable o ≡ Some y → law.expression y ≡ true
  variable_by None y is = absurd cc
  variable_by (Some slot) y is = let same : e.Variable slot ≡ y = cc in expression_made (NamedExpression-F.Variable slot) y (e.rolls-Variable slot ∙ same) refl

  population_if : (b : Bool) (k : ℕ) (y : NamedExpression) → (if b then Some (e.Population k) else None) ≡ Some y → law.expression y ≡ true
  population_if true k y is = let same : e.Population k ≡ y = cc in expression_made (NamedExpression-F.Population k) y (e.rolls-Population k ∙ same) refl
  population_if false k y is = absurd cc

  value_by : (s : Scope) (at : ℕ) (o : Option Declared) (y : NamedExpression) → and_then o (declared_value schema s at) ≡ Some y → law.expression y ≡ true
  value_by s at None y is = absurd cc
  value_by s at (Some (d.Constant k)) y is = let same : e.Constant k ≡ y = cc in expression_made (NamedExpression-F.Constant k) y (e.rolls-Constant k ∙ same) refl
  value_by s at (Some (d.Function k)) y is = let same : e.Call k at [] ≡ y = cc in expression_made (NamedExpression-F.Call k at []) y (e.rolls-Call k at [] ∙ same) refl
  value_by s at (Some (d.Entity k)) y is = population_if (is_among s.populations k) k y is
  value_by s at (Some (d.Rule k)) y is = absurd cc
  value_by s at (Some (d.Type k)) y is = absurd cc

  either_in : (a b : Option NamedExpression) (y : NamedExpression) → (a ≡ Some y → law.expression y ≡ true) → (b ≡ Some y → law.expression y ≡ true) → or_else a b ≡ Some y → law.expression y ≡ true
  either_in None b y one other h = other h
  either_in (Some x) b y one other h = one h

  -- no attribute is meant where no entity is at hand
  value_in : (s : Scope) → s.family ≡ [] → (n : Name) (y : NamedExpression) → value schema s n ≡ Some y → law.expression y ≡ true
  value_in s w n y h =
      either_in (option_map e.Variable (variable s n.text)) _ y (variable_by (variable s n.text) y)
      (λ is. value_by s n.at (declared schema n.text) y (ap (λ o. or_else o (and_then (declared schema n.text) (declared_value schema s n.at))) (sym (no_attribute s w n)) ∙ is)) h

  item_by : (n : Name) (items : List EnumerationItem) (y : NamedExpression) → item_from schema n items ≡ Ok y → law.expression y ≡ true
  item_by n [] y is = absurd cc
  item_by n (i ∷ []) y is = let same : e.Item i ≡ y = cc in expression_made (NamedExpression-F.Item i) y (e.rolls-Item i ∙ same) refl
  item_by n (i ∷ j ∷ js) y is = let same : e.AmbiguousItem n.at ≡ y = cc in expression_made (NamedExpression-F.AmbiguousItem n.at) y (e.rolls-AmbiguousItem n.at ∙ same) refl

  name_by : (o : Option NamedExpression) (n : Name) (y : NamedExpression) → (o ≡ Some y → law.expression y ≡ true) → value_or_item schema o n ≡ Ok y → law.expression y ≡ true
  name_by (Some x) n y known h = known cc
  name_by None n y known h = item_by n (named n.text schema.items) y h

  name_in : (s : Scope) → s.family ≡ [] → (n : Name) (y : NamedExpression) → name schema s n ≡ Ok y → law.expression y ≡ true
  name_in s w n y h = name_by (value schema s n) n y (value_in s w n y) h

  of_type_by : (o : Option EnumerationItem) (y : NamedExpression) → option_map e.Item o ≡ Some y → law.expression y ≡ true
  of_type_by None y is = absurd cc
  of_type_by (Some i) y is = let same : e.Item i ≡ y = cc in expression_made (NamedExpression-F.Item i) y (e.rolls-Item i ∙ same) refl

  enumeration_in : (b : Bool) (type item : Name) (k : ℕ) (y : NamedExpression) → (if b then item_of_type schema k item else refused Undeclared type.at) ≡ Ok y → law.expression y ≡ true
  enumeration_in true type item k y h = of_type_by (find (λ i. i.type_number == k) (named item.text schema.items)) y (meant item _ y h)
  enumeration_in false type item k y h = absurd cc

  of_declared_in : (o : Option ℕ) (type item : Name) (y : NamedExpression) → item_of_declared schema o type item ≡ Ok y → law.expression y ≡ true
  of_declared_in None type item y h = absurd cc
  of_declared_in (Some k) type item y h = enumeration_in (is_marked schema.enumerations k) type item k y h

  item_of_by_in : (o : Option NamedExpression) (type item : Name) (y : NamedExpression) → item_of_by schema o type item ≡ Ok (Some y) → law.expression y ≡ true
  item_of_by_in (Some x) type item y h = absurd cc
  item_of_by_in None type item y h =
      let found = given_ok Some (item_of_declared schema (and_then (declared schema type.text) (as_defined schema)) type item) (Some y) h in
      let same : found.0 ≡ y = cc in
      of_declared_in (and_then (declared schema type.text) (as_defined schema)) type item y (found.1.0 ∙ ap Ok same)

  item_of_in : (s : Scope) (type item : Name) (y : NamedExpression) → item_of schema s type item ≡ Ok (Some y) → law.expression y ≡ true
  item_of_in s type item y h = item_of_by_in (value schema s type) type item y h

  itself_by : (b : Bool) (at : ℕ) (y : NamedExpression) → (if b then Ok e.Itself else refused Undeclared at) ≡ Ok y → law.expression y ≡ true
  itself_by true at y h = let same : e.Itself ≡ y = cc in expression_made NamedExpression-F.Itself y (e.rolls-Itself ∙ same) refl
  itself_by false at y h = absurd cc

  itself_in : (s : Scope) (at : ℕ) (y : NamedExpression) → itself s at ≡ Ok y → law.expression y ≡ true
  itself_in s at y h = itself_by s.has_self at y h

  abbrev InExpression : Expression → Type 0
  InExpression x = (s : Scope) (w : s.family ≡ []) (y : NamedExpression) → expression schema s x ≡ Ok y → law.expression y ≡ true

  abbrev InQualifier : Qualifier → Type 0
  InQualifier x = (s : Scope) (w : s.family ≡ []) (y : NamedQualifier) → (bound_qualifier schema x).in_scope s ≡ Ok y → law.qualifier y ≡ true

  abbrev InInterval : Interval → Type 0
  InInterval x = (s : Scope) (w : s.family ≡ []) (y : NamedInterval) → bound_interval schema x s ≡ Ok y → law.interval y ≡ true

  abbrev InOperation : Operation → Type 0
  InOperation x = (s : Scope) (w : s.family ≡ []) (y : NamedOperation) → bound_operation schema x s ≡ Ok y → law.operation y ≡ true

  abbrev InQuery : Query → Type 0
  InQuery x = (s : Scope) (w : s.family ≡ []) (y : NamedQuery) → bound_query schema x s ≡ Ok y → law.query y ≡ true

  -- parts that are in range
  abbrev PE : Type 0
  PE = (x : Expression) × InExpression x

  abbrev PQ : Type 0
  PQ = (x : Qualifier) × InQualifier x

  abbrev PI : Type 0
  PI = (x : Interval) × InInterval x

  abbrev PO : Type 0
  PO = (x : Operation) × InOperation x

  abbrev PC : Type 0
  PC = (x : Query) × InQuery x

  -- ---- several

  expressions_in : (s : Scope) (w : s.family ≡ []) (xs : List PE) (ys : List NamedExpression) → bind.expressions schema s (map (bound_expression schema) (map (λ p. p.0) xs)) ≡ Ok ys
      → law.all (map law.expression ys) ≡ true
  expressions_in s w xs ys h = all_parts (λ p. p.0) (bound_expression schema) (λ b. b.in_scope s) law.expression (λ part. part)
      (λ p. p.1 s w) xs ys (each_ok (λ b. b.in_scope s) (map (bound_expression schema) (map (λ p. p.0) xs)) ys h)

  qualifiers_in : (s : Scope) (w : s.family ≡ []) (xs : List PQ) (ys : List NamedQualifier) → bind.qualifiers schema s (map (bound_qualifier schema) (map (λ p. p.0) xs)) ≡ Ok ys
      → law.all (map law.qualifier ys) ≡ true
  qualifiers_in s w xs ys h = all_parts (λ p. p.0) (bound_qualifier schema) (λ b. b.in_scope s) law.qualifier (λ part. part)
      (λ p. p.1 s w) xs ys (each_ok (λ b. b.in_scope s) (map (bound_qualifier schema) (map (λ p. p.0) xs)) ys h)

  operations_in : (s : Scope) (w : s.family ≡ []) (xs : List PO) (ys : List NamedOperation) → each (λ o. o s) (map (bound_operation schema) (map (λ p. p.0) xs)) ≡ Ok ys
      → law.all (map law.operation ys) ≡ true
  operations_in s w xs ys h = all_parts (λ p. p.0) (bound_operation schema) (λ o. o s) law.operation (λ part. part)
      (λ p. p.1 s w) xs ys (each_ok (λ o. o s) (map (bound_operation schema) (map (λ p. p.0) xs)) ys h)

  -- ---- expressions, variant by variant

  literal_in : (literal : Literal) (s : Scope) (w : s.family ≡ []) (y : NamedExpression) → fine (e.Literal literal) ≡ Ok y → law.expression y ≡ true
  literal_in literal s w y h = let same : e.Literal literal ≡ y = cc in expression_made (NamedExpression-F.Literal literal) y (e.rolls-Literal literal ∙ same) refl

  indeterminate_in : (s : Scope) (w : s.family ≡ []) (y : NamedExpression) → fine e.Indeterminate ≡ Ok y → law.expression y ≡ true
  indeterminate_in s w y h = let same : e.Indeterminate ≡ y = cc in expression_made NamedExpression-F.Indeterminate y (e.rolls-Indeterminate ∙ same) refl

  call_in : (n : Name) (xs : List PE) (s : Scope) (w : s.family ≡ []) (y : NamedExpression)
      → given (λ p. e.Call p.0 n.at p.1) (both (function schema s n) (bind.expressions schema s (map (bound_expression schema) (map (λ p. p.0) xs)))) ≡ Ok y
      → law.expression y ≡ true
  call_in n xs s w y h =
      let found = given_ok _ _ y h in
      let parts = both_ok _ _ found.0 found.1.0 in
      expression_made (NamedExpression-F.Call found.0.0 n.at found.0.1) y (e.rolls-Call found.0.0 n.at found.0.1 ∙ found.1.1)
      (expressions_in s w xs found.0.1 parts.1)

  built_in_in : (word : BuiltInFunction) (at : ℕ) (xs : List PE) (s : Scope) (w : s.family ≡ []) (y : NamedExpression)
      → given (e.BuiltIn word at) (bind.expressions schema s (map (bound_expression schema) (map (λ p. p.0) xs))) ≡ Ok y → law.expression y ≡ true
  built_in_in word at xs s w y h =
      let found = given_ok _ _ y h in
      expression_made (NamedExpression-F.BuiltIn word at found.0) y (e.rolls-BuiltIn word at found.0 ∙ found.1.1) (expressions_in s w xs found.0 found.1.0)

  initializer_in : (xs : List PE) (s : Scope) (w : s.family ≡ []) (y : NamedExpression)
      → given e.Initializer (bind.expressions schema s (map (bound_expression schema) (map (λ p. p.0) xs))) ≡ Ok y → law.expression y ≡ true
  initializer_in xs s w y h =
      let found = given_ok _ _ y h in
      expression_made (NamedExpression-F.Initializer found.0) y (e.rolls-Initializer found.0 ∙ found.1.1) (expressions_in s w xs found.0 found.1.0)

  unary_in : (operator : UnaryOperator) (at : ℕ) (p : PE) (s : Scope) (w : s.family ≡ []) (y : NamedExpression)
      → given (e.Unary operator at) ((bound_expression schema p.0).in_scope s) ≡ Ok y → law.expression y ≡ true
  unary_in operator at p s w y h =
      let found = given_ok _ _ y h in
      expression_made (NamedExpression-F.Unary operator at found.0) y (e.rolls-Unary operator at found.0 ∙ found.1.1) (p.1 s w found.0 found.1.0)

  chain_in : (p : PE) (xs : List PO) (s : Scope) (w : s.family ≡ []) (y : NamedExpression)
      → given (λ p. e.Chain p.0 p.1) (both ((bound_expression schema p.0).in_scope s) (each (λ o. o s) (map (bound_operation schema) (map (λ p. p.0) xs)))) ≡ Ok y
      → law.expression y ≡ true
  chain_in p xs s w y h =
      let found = given_ok _ _ y h in
      let parts = both_ok _ _ found.0 found.1.0 in
      expression_made (NamedExpression-F.Chain found.0.0 found.0.1) y (e.rolls-Chain found.0.0 found.0.1 ∙ found.1.1)
      (true_and _ _ (p.1 s w found.0.0 parts.0) (operations_in s w xs found.0.1 parts.1))

  interval_expression_in : (p : PI) (s : Scope) (w : s.family ≡ []) (y : NamedExpression) → given e.Interval (bound_interval schema p.0 s) ≡ Ok y → law.expression y ≡ true
  interval_expression_in p s w y h =
      let found = given_ok _ _ y h in
      expression_made (NamedExpression-F.Interval found.0) y (e.rolls-Interval found.0 ∙ found.1.1) (p.1 s w found.0 found.1.0)

  query_expression_in : (p : PC) (s : Scope) (w : s.family ≡ []) (y : NamedExpression) → given e.Query (bound_query schema p.0 s) ≡ Ok y → law.expression y ≡ true
  query_expression_in p s w y h =
      let found = given_ok _ _ y h in
      expression_made (NamedExpression-F.Query found.0) y (e.rolls-Query found.0 ∙ found.1.1) (p.1 s w found.0 found.1.0)

  -- ---- what is taken of a value

  with_in : (o : Outcome NamedExpression) (xs : List PQ) (s : Scope) (w : s.family ≡ []) (y : NamedExpression) → ((z : NamedExpression) → o ≡ Ok z → law.expression z ≡ true)
      → bind.with_qualifiers schema s o (map (bound_qualifier schema) (map (λ p. p.0) xs)) ≡ Ok y → law.expression y ≡ true
  with_in o xs s w y base h =
      let found = given_ok _ _ y h in
      let parts = both_ok _ _ found.0 found.1.0 in
      expression_made (NamedExpression-F.Qualified found.0.0 found.0.1) y (e.rolls-Qualified found.0.0 found.0.1 ∙ found.1.1)
      (true_and _ _ (base found.0.0 parts.0) (qualifiers_in s w xs found.0.1 parts.1))

  item_with_in : (o : Outcome NamedExpression) (xs : List PQ) (s : Scope) (w : s.family ≡ []) (y : NamedExpression) → ((z : NamedExpression) → o ≡ Ok z → law.expression z ≡ true)
      → bind.item_with schema s o (map (bound_qualifier schema) (map (λ p. p.0) xs)) ≡ Ok y → law.expression y ≡ true
  item_with_in o [] s w y base h = base y h
  item_with_in o (p ∷ xs) s w y base h = with_in o (p ∷ xs) s w y base h

  first_item_in : (s : Scope) (w : s.family ≡ []) (a b : Option Name) (y : NamedExpression) → bind.first_item schema s a b ≡ Ok (Some y) → law.expression y ≡ true
  first_item_in s w (Some type) (Some item) y h = item_of_in s type item y h
  first_item_in s w None b y h = absurd cc
  first_item_in s w (Some type) None y h = absurd cc

  qualified_by_in : (p : PE) (q : PQ) (xs : List PQ) (s : Scope) (w : s.family ≡ []) (o : Outcome (Option NamedExpression)) (y : NamedExpression)
      → ((z : NamedExpression) → o ≡ Ok (Some z) → law.expression z ≡ true)
      → bind.qualified_by schema s (bound_expression schema p.0) (bound_qualifier schema q.0) (map (bound_qualifier schema) (map (λ p. p.0) xs)) o ≡ Ok y
      → law.expression y ≡ true
  qualified_by_in p q xs s w (Ok (Some item)) y known h = item_with_in (Ok item) xs s w y (λ z is. known z (let same : item ≡ z = cc in ap (λ i. Ok (Some i)) same)) h
  qualified_by_in p q xs s w (Ok None) y known h = with_in ((bound_expression schema p.0).in_scope s) (q ∷ xs) s w y (p.1 s w) h
  qualified_by_in p q xs s w (Err fault) y known h = item_with_in (Err fault) xs s w y (λ z is. absurd cc) h

  qualified_in : (p : PE) (xs : List PQ) (s : Scope) (w : s.family ≡ []) (y : NamedExpression)
      → bind.qualified schema s (bound_expression schema p.0) (map (bound_qualifier schema) (map (λ p. p.0) xs)) ≡ Ok y → law.expression y ≡ true
  qualified_in p [] s w y h = with_in ((bound_expression schema p.0).in_scope s) [] s w y (p.1 s w) h
  qualified_in p (q ∷ xs) s w y h = qualified_by_in p q xs s w (bind.first_item schema s (bound_expression schema p.0).alone (bound_qualifier schema q.0).attribute) y
      (first_item_in s w (bound_expression schema p.0).alone (bound_qualifier schema q.0).attribute) h

  -- ---- qualifiers

  taken_in : (at : ℕ) (n : Name) (s : Scope) (w : s.family ≡ []) (y : NamedQualifier) → fine (q.Attribute at n) ≡ Ok y → law.qualifier y ≡ true
  taken_in at n s w y h = let same : q.Attribute at n ≡ y = cc in qualifier_made (NamedQualifier-F.«NamedQualifier::Attribute» at n) y (q.rolls-Attribute at n ∙ same) refl

  group_in : (at : ℕ) (n : Name) (s : Scope) (w : s.family ≡ []) (y : NamedQualifier) → given (q.Group at) (entity schema n) ≡ Ok y → law.qualifier y ≡ true
  group_in at n s w y h =
      let found = given_ok _ _ y h in
      qualifier_made (NamedQualifier-F.Group at found.0) y (q.rolls-Group at found.0 ∙ found.1.1) refl

  index_in : (at : ℕ) (p : PE) (s : Scope) (w : s.family ≡ []) (y : NamedQualifier) → given (q.Index at) ((bound_expression schema p.0).in_scope s) ≡ Ok y → law.qualifier y ≡ true
  index_in at p s w y h =
      let found = given_ok _ _ y h in
      qualifier_made (NamedQualifier-F.Index at found.0) y (q.rolls-Index at found.0 ∙ found.1.1) (p.1 s w found.0 found.1.0)

  range_in : (at : ℕ) (low high : PE) (s : Scope) (w : s.family ≡ []) (y : NamedQualifier)
      → given (λ p. q.Range at p.0 p.1) (both ((bound_expression schema low.0).in_scope s) ((bound_expression schema high.0).in_scope s)) ≡ Ok y → law.qualifier y ≡ true
  range_in at low high s w y h =
      let found = given_ok _ _ y h in
      let parts = both_ok _ _ found.0 found.1.0 in
      qualifier_made (NamedQualifier-F.Range at found.0.0 found.0.1) y (q.rolls-Range at found.0.0 found.0.1 ∙ found.1.1)
      (true_and _ _ (low.1 s w found.0.0 parts.0) (high.1 s w found.0.1 parts.1))

  -- ---- one layer of each tree

  abbrev shed-Expression : Expression-F PE PQ PI PO PC → Expression-F Expression Qualifier Interval Operation Query
  shed-Expression = map-Expression PE PQ PI PO PC Expression Qualifier Interval Operation Query (λ p. p.0) (λ p. p.0) (λ p. p.0) (λ p. p.0) (λ p. p.0)

  abbrev shed-Qualifier : Qualifier-F PE PQ PI PO PC → Qualifier-F Expression Qualifier Interval Operation Query
  shed-Qualifier = map-Qualifier PE PQ PI PO PC Expression Qualifier Interval Operation Query (λ p. p.0) (λ p. p.0) (λ p. p.0) (λ p. p.0) (λ p. p.0)

  abbrev shed-Interval : Interval-F PE PQ PI PO PC → Interval-F Expression Qualifier Interval Operation Query
  shed-Interval = map-Interval PE PQ PI PO PC Expression Qualifier Interval Operation Query (λ p. p.0) (λ p. p.0) (λ p. p.0) (λ p. p.0) (λ p. p.0)

  abbrev shed-Operation : Operation-F PE PQ PI PO PC → Operation-F Expression Qualifier Interval Operation Query
  shed-Operation = map-Operation PE PQ PI PO PC Expression Qualifier Interval Operation Query (λ p. p.0) (λ p. p.0) (λ p. p.0) (λ p. p.0) (λ p. p.0)

  abbrev shed-Query : Query-F PE PQ PI PO PC → Query-F Expression Qualifier Interval Operation Query
  shed-Query = map-Query PE PQ PI PO PC Expression Qualifier Interval Operation Query (λ p. p.0) (λ p. p.0) (λ p. p.0) (λ p. p.0) (λ p. p.0)

  -- ---- what a tree stands for, by its layer

  stood_expression : (x : Expression-F Expression Qualifier Interval Operation Query) (s : Scope) (y : NamedExpression) → expression schema s (roll-Expression x) ≡ Ok y
      → (bind.expression_layer schema (map-Expression Expression Qualifier Interval Operation Query Bound BoundQualifier BoundInterval BoundOperation BoundQuery (bound_expression schema) (bound_qualifier schema) (bound_interval schema) (bound_operation schema) (bound_query schema) x)).in_scope s ≡ Ok y
  unfolding bound_expression bound_qualifier bound_interval bound_operation bound_query
  stood_expression x s y h = sym (ap (λ b. b.in_scope s) (fold-roll-Expression Bound BoundQualifier BoundInterval BoundOperation BoundQuery
      (bind.expression_layer schema) (bind.qualifier_layer schema) (bind.interval_layer schema) (bind.operation_layer schema) (bind.query_layer schema) x)) ∙ h

  stood_qualifier : (x : Qualifier-F Expression Qualifier Interval Operation Query) (s : Scope) (y : NamedQualifier) → (bound_qualifier schema (roll-Qualifier x)).in_scope s ≡ Ok y
      → (bind.qualifier_layer schema (map-Qualifier Expression Qualifier Interval Operation Query Bound BoundQualifier BoundInterval BoundOperation BoundQuery (bound_expression schema) (bound_qualifier schema) (bound_interval schema) (bound_operation schema) (bound_query schema) x)).in_scope s ≡ Ok y
  unfolding bound_expression bound_qualifier bound_interval bound_operation bound_query
  stood_qualifier x s y h = sym (ap (λ b. b.in_scope s) (fold-roll-Qualifier Bound BoundQualifier BoundInterval BoundOperation BoundQuery
      (bind.expression_layer schema) (bind.qualifier_layer schema) (bind.interval_layer schema) (bind.operation_layer schema) (bind.query_layer schema) x)) ∙ h

  stood_interval : (x : Interval-F Expression Qualifier Interval Operation Query) (s : Scope) (y : NamedInterval) → bound_interval schema (roll-Interval x) s ≡ Ok y
      → bind.interval_layer schema (map-Interval Expression Qualifier Interval Operation Query Bound BoundQualifier BoundInterval BoundOperation BoundQuery (bound_expression schema) (bound_qualifier schema) (bound_interval schema) (bound_operation schema) (bound_query schema) x) s ≡ Ok y
  unfolding bound_expression bound_qualifier bound_interval bound_operation bound_query
  stood_interval x s y h = sym (ap (λ b. b s) (fold-roll-Interval Bound BoundQualifier BoundInterval BoundOperation BoundQuery
      (bind.expression_layer schema) (bind.qualifier_layer schema) (bind.interval_layer schema) (bind.operation_layer schema) (bind.query_layer schema) x)) ∙ h

  stood_operation : (x : Operation-F Expression Qualifier Interval Operation Query) (s : Scope) (y : NamedOperation) → bound_operation schema (roll-Operation x) s ≡ Ok y
      → bind.operation_layer schema (map-Operation Expression Qualifier Interval Operation Query Bound BoundQualifier BoundInterval BoundOperation BoundQuery (bound_expression schema) (bound_qualifier schema) (bound_interval schema) (bound_operation schema) (bound_query schema) x) s ≡ Ok y
  unfolding bound_expression bound_qualifier bound_interval bound_operation bound_query
  stood_operation x s y h = sym (ap (λ b. b s) (fold-roll-Operation Bound BoundQualifier BoundInterval BoundOperation BoundQuery
      (bind.expression_layer schema) (bind.qualifier_layer schema) (bind.interval_layer schema) (bind.operation_layer schema) (bind.query_layer schema) x)) ∙ h

  stood_query : (x : Query-F Expression Qualifier Interval Operation Query) (s : Scope) (y : NamedQuery) → bound_query schema (roll-Query x) s ≡ Ok y
      → bind.query_layer schema (map-Query Expression Qualifier Interval Operation Query Bound BoundQualifier BoundInterval BoundOperation BoundQuery (bound_expression schema) (bound_qualifier schema) (bound_interval schema) (bound_operation schema) (bound_query schema) x) s ≡ Ok y
  unfolding bound_expression bound_qualifier bound_interval bound_operation bound_query
  stood_query x s y h = sym (ap (λ b. b s) (fold-roll-Query Bound BoundQualifier BoundInterval BoundOperation BoundQuery
      (bind.expression_layer schema) (bind.qualifier_layer schema) (bind.interval_layer schema) (bind.operation_layer schema) (bind.query_layer schema) x)) ∙ h

  -- ---- one layer of each tree

  expression_layer_in : (x : Expression-F PE PQ PI PO PC) → InExpression (roll-Expression (shed-Expression x))
  expression_layer_in (Expression-F.Literal literal) s w y h = literal_in literal s w y (stood_expression (shed-Expression (Expression-F.Literal literal)) s y h)
  expression_layer_in (Expression-F.Name n) s w y h = name_in s w n y (stood_expression (shed-Expression (Expression-F.Name n)) s y h)
  expression_layer_in (Expression-F.Itself at) s w y h = itself_in s at y (stood_expression (shed-Expression (Expression-F.Itself at)) s y h)
  expression_layer_in Expression-F.Indeterminate s w y h = indeterminate_in s w y (stood_expression (shed-Expression Expression-F.Indeterminate) s y h)
  expression_layer_in (Expression-F.Call n xs) s w y h = call_in n xs s w y (stood_expression (shed-Expression (Expression-F.Call n xs)) s y h)
  expression_layer_in (Expression-F.BuiltIn word at xs) s w y h = built_in_in word at xs s w y (stood_expression (shed-Expression (Expression-F.BuiltIn word at xs)) s y h)
  expression_layer_in (Expression-F.Qualified p xs) s w y h = qualified_in p xs s w y (stood_expression (shed-Expression (Expression-F.Qualified p xs)) s y h)
  expression_layer_in (Expression-F.Unary operator at p) s w y h = unary_in operator at p s w y (stood_expression (shed-Expression (Expression-F.Unary operator at p)) s y h)
  expression_layer_in (Expression-F.Chain p xs) s w y h = chain_in p xs s w y (stood_expression (shed-Expression (Expression-F.Chain p xs)) s y h)
  expression_layer_in (Expression-F.Interval p) s w y h = interval_expression_in p s w y (stood_expression (shed-Expression (Expression-F.Interval p)) s y h)
  expression_layer_in (Expression-F.Query p) s w y h = query_expression_in p s w y (stood_expression (shed-Expression (Expression-F.Query p)) s y h)
  expression_layer_in (Expression-F.Initializer xs) s w y h = initializer_in xs s w y (stood_expression (shed-Expression (Expression-F.Initializer xs)) s y h)

  qualifier_layer_in : (x : Qualifier-F PE PQ PI PO PC) → InQualifier (roll-Qualifier (shed-Qualifier x))
  qualifier_layer_in (Qualifier-F.Attribute at n) s w y h = taken_in at n s w y (stood_qualifier (shed-Qualifier (Qualifier-F.Attribute at n)) s y h)
  qualifier_layer_in (Qualifier-F.Group at n) s w y h = group_in at n s w y (stood_qualifier (shed-Qualifier (Qualifier-F.Group at n)) s y h)
  qualifier_layer_in (Qualifier-F.Index at p) s w y h = index_in at p s w y (stood_qualifier (shed-Qualifier (Qualifier-F.Index at p)) s y h)
  qualifier_layer_in (Qualifier-F.Range at low high) s w y h = range_in at low high s w y (stood_qualifier (shed-Qualifier (Qualifier-F.Range at low high)) s y h)

  interval_layer_in : (x : Interval-F PE PQ PI PO PC) → InInterval (roll-Interval (shed-Interval x))
  interval_layer_in x s w y h =
      let found = given_ok _ _ y (stood_interval (shed-Interval x) s y h) in
      let parts = both_ok _ _ found.0 found.1.0 in
      let first = both_ok _ _ found.0.0 parts.0 in
      interval_made _ y found.1.1
      (true_and _ _ (true_and _ _ (x.low.1 s w found.0.0.0 first.0) (x.item.1 s w found.0.0.1 first.1)) (x.high.1 s w found.0.1 parts.1))

  operation_layer_in : (x : Operation-F PE PQ PI PO PC) → InOperation (roll-Operation (shed-Operation x))
  operation_layer_in x s w y h =
      let found = given_ok _ _ y (stood_operation (shed-Operation x) s y h) in
      operation_made _ y found.1.1 (x.right.1 s w found.0 found.1.0)

  query_layer_in : (x : Query-F PE PQ PI PO PC) → InQuery (roll-Query (shed-Query x))
  query_layer_in x s w y h =
      let found = given_ok _ _ y (stood_query (shed-Query x) s y h) in
      let parts = both_ok _ _ found.0 found.1.0 in
      query_made _ y found.1.1 (true_and _ _ (x.source.1 s w found.0.0 parts.0) (x.condition.1 (within s x.variable.text) w found.0.1 parts.1))

  -- ---- whole trees

  pub expression_in : (x : Expression) → InExpression x
  expression_in = ind-Expression InExpression InQualifier InInterval InOperation InQuery
      (λ x y is. subst (λ z. InExpression (roll-Expression z)) is (expression_layer_in y))
      (λ x y is. subst (λ z. InQualifier (roll-Qualifier z)) is (qualifier_layer_in y))
      (λ x y is. subst (λ z. InInterval (roll-Interval z)) is (interval_layer_in y))
      (λ x y is. subst (λ z. InOperation (roll-Operation z)) is (operation_layer_in y))
      (λ x y is. subst (λ z. InQuery (roll-Query z)) is (query_layer_in y))
