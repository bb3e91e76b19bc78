-- Expressions with their names bound are in range.
use Rattle.std.proofs.Common.{◌≡◌, ℕ, suc, true, List, [], ◌∷◌, map, Option, Some, None, Ok, Err, refl, sym, ap, subst, ◌∙◌, arith}
use Rattle.std.specs.List.{list_all}
use Rattle.ex_tree.specs.declared.expression.BuiltInFunction.{BuiltInFunction}
use Rattle.ex_tree.specs.declared.expression.Expression.{Expression, roll-Expression, map-Expression}
use Rattle.ex_tree.specs.declared.expression.Expression.TheFolds.{fold-roll-Expression, fold-roll-Qualifier, fold-roll-Interval, fold-roll-Operation, fold-roll-Query, ind-Expression}
use Rattle.ex_tree.specs.declared.expression.Expression.TheOpen.{Expression-F, Qualifier-F, Interval-F, Operation-F, Query-F}
use Rattle.ex_tree.specs.declared.expression.Interval.{Interval, roll-Interval, map-Interval}
use Rattle.ex_tree.specs.declared.expression.Literal.{Literal}
use Rattle.ex_tree.specs.declared.expression.Name.{Name}
use Rattle.ex_tree.specs.declared.expression.Operation.{Operation, roll-Operation, map-Operation}
use Rattle.ex_tree.specs.declared.expression.Qualifier.{Qualifier, roll-Qualifier, map-Qualifier}
use Rattle.ex_tree.specs.declared.expression.Query.{Query, roll-Query, map-Query}
use Rattle.ex_tree.specs.declared.expression.UnaryOperator.{UnaryOperator}
use Rattle.ex_named.specs.declared.expression.NamedExpression.{NamedExpression}
use Rattle.ex_named.specs.declared.expression.NamedExpression.TheVariants as e
use Rattle.ex_named.specs.declared.expression.NamedExpression.TheOpen.{NamedExpression-F, NamedQualifier-F}
use Rattle.ex_named.specs.declared.expression.NamedInterval.{NamedInterval}
use Rattle.ex_named.specs.declared.expression.NamedOperation.{NamedOperation}
use Rattle.ex_named.specs.declared.expression.NamedQualifier.{NamedQualifier}
use Rattle.ex_named.specs.declared.expression.NamedQualifier.TheVariants as q
use Rattle.ex_named.specs.declared.expression.NamedQuery.{NamedQuery}
use Rattle.ex_named.specs.Expressions as bind
use Rattle.ex_named.specs.Expressions.{Bound, BoundQualifier, BoundInterval, BoundOperation, BoundQuery, bound_expression, expression}
use Rattle.ex_named.specs.Outcomes.{Outcome, given, both, each}
use Rattle.ex_named.specs.Scopes.{Declarations, Scope, function, entity, within}
use Rattle.ex_bind.specs.Trees.{bound_qualifier, bound_interval, bound_operation, bound_query}
use Rattle.ex_resolve.proofs.Layers.{qualifier, interval, operation, query, expression_made, qualifier_made, interval_made, operation_made, query_made}
use Rattle.ex_resolve.proofs.Meanings.{IsIn, variables_of, name_in, itself_in, function_in, entity_in, item_of_in}
use Rattle.ex_resolve.proofs.Truths.{true_and, all_parts}
use Rattle.ex_resolve.proofs.Wholes.{given_ok, both_ok, each_ok}
use Rattle.ex_resolve.specs.Ranges as range
use Rattle.ex_resolve.specs.Ranges.{Range}

abbrev pub fine : {A : Type 0} → A → Outcome A
fine a = Ok a

module _ (r : Range) (schema : Declarations) (in_range : IsIn r schema) where
  abbrev InExpression : Expression → Type 0
  InExpression x = (s : Scope) (y : NamedExpression) → expression schema s x ≡ Ok y → range.expression r y (variables_of s) ≡ true

  abbrev InQualifier : Qualifier → Type 0
  InQualifier x = (s : Scope) (y : NamedQualifier) → (bound_qualifier schema x).in_scope s ≡ Ok y → qualifier r y (variables_of s) ≡ true

  abbrev InInterval : Interval → Type 0
  InInterval x = (s : Scope) (y : NamedInterval) → bound_interval schema x s ≡ Ok y → interval r y (variables_of s) ≡ true

  abbrev InOperation : Operation → Type 0
  InOperation x = (s : Scope) (y : NamedOperation) → bound_operation schema x s ≡ Ok y → operation r y (variables_of s) ≡ true

  abbrev InQuery : Query → Type 0
  InQuery x = (s : Scope) (y : NamedQuery) → bound_query schema x s ≡ Ok y → query r y (variables_of s) ≡ true

  -- parts that are in range
  abbrev PE : Type 0
  PE = (x : Expression) × InExpression x

  abbrev PQ : Type 0
  PQ = (x : Qualifier) × InQualifier x

  abbrev PI : Type 0
  PI = (x : Interval) × InInterval x

  abbrev PO : Type 0
  PO = (x : Operation) × InOperation x

  abbrev PC : Type 0
  PC = (x : Query) × InQuery x

  -- ---- several

  expressions_in : (s : Scope) (xs : List PE) (ys : List NamedExpression) → bind.expressions schema s (map (bound_expression schema) (map (λ p. p.0) xs)) ≡ Ok ys
      → list_all (λ part. part (variables_of s)) (map (range.expression r) ys) ≡ true
  expressions_in s xs ys h = all_parts (λ p. p.0) (bound_expression schema) (λ b. b.in_scope s) (range.expression r) (λ part. part (variables_of s))
      (λ p. p.1 s) xs ys (each_ok (λ b. b.in_scope s) (map (bound_expression schema) (map (λ p. p.0) xs)) ys h)

  qualifiers_in : (s : Scope) (xs : List PQ) (ys : List NamedQualifier) → bind.qualifiers schema s (map (bound_qualifier schema) (map (λ p. p.0) xs)) ≡ Ok ys
      → list_all (λ part. part (variables_of s)) (map (qualifier r) ys) ≡ true
  qualifiers_in s xs ys h = all_parts (λ p. p.0) (bound_qualifier schema) (λ b. b.in_scope s) (qualifier r) (λ part. part (variables_of s))
      (λ p. p.1 s) xs ys (each_ok (λ b. b.in_scope s) (map (bound_qualifier schema) (map (λ p. p.0) xs)) ys h)

  operations_in : (s : Scope) (xs : List PO) (ys : List NamedOperation) → each (λ o. o s) (map (bound_operation schema) (map (λ p. p.0) xs)) ≡ Ok ys
      → list_all (λ part. part (variables_of s)) (map (operation r) ys) ≡ true
  operations_in s xs ys h = all_parts (λ p. p.0) (bound_operation schema) (λ o. o s) (operation r) (λ part. part (variables_of s))
      (λ p. p.1 s) xs ys (each_ok (λ o. o s) (map (bound_operation schema) (map (λ p. p.0) xs)) ys h)

  -- ---- expressions, variant by variant

  literal_in : (literal : Literal) (s : Scope) (y : NamedExpression) → fine (e.Literal literal) ≡ Ok y → range.expression r y (variables_of s) ≡ true
  literal_in literal s y h = let same : e.Literal literal ≡ y = cc in expression_made r (NamedExpression-F.Literal literal) y (variables_of s) (e.rolls-Literal literal ∙ same) refl

  indeterminate_in : (s : Scope) (y : NamedExpression) → fine e.Indeterminate ≡ Ok y → range.expression r y (variables_of s) ≡ true
  indeterminate_in s y h = let same : e.Indeterminate ≡ y = cc in expression_made r NamedExpression-F.Indeterminate y (variables_of s) (e.rolls-Indeterminate ∙ same) refl

  call_in : (n : Name) (xs : List PE) (s : Scope) (y : NamedExpression)
      → given (λ p. e.Call p.0 n.at p.1) (both (function schema s n) (bind.expressions schema s (map (bound_expression schema) (map (λ p. p.0) xs)))) ≡ Ok y
      → range.expression r y (variables_of s) ≡ true
  call_in n xs s y h =
      let found = given_ok _ _ y h in
      let parts = both_ok _ _ found.0 found.1.0 in
      expression_made r (NamedExpression-F.Call found.0.0 n.at found.0.1) y (variables_of s) (e.rolls-Call found.0.0 n.at found.0.1 ∙ found.1.1)
      (true_and _ _ (function_in r schema in_range s n found.0.0 parts.0) (expressions_in s xs found.0.1 parts.1))

  built_in_in : (word : BuiltInFunction) (at : ℕ) (xs : List PE) (s : Scope) (y : NamedExpression)
      → given (e.BuiltIn word at) (bind.expressions schema s (map (bound_expression schema) (map (λ p. p.0) xs))) ≡ Ok y → range.expression r y (variables_of s) ≡ true
  built_in_in word at xs s y h =
      let found = given_ok _ _ y h in
      expression_made r (NamedExpression-F.BuiltIn word at found.0) y (variables_of s) (e.rolls-BuiltIn word at found.0 ∙ found.1.1) (expressions_in s xs found.0 found.1.0)

  initializer_in : (xs : List PE) (s : Scope) (y : NamedExpression)
      → given e.Initializer (bind.expressions schema s (map (bound_expression schema) (map (λ p. p.0) xs))) ≡ Ok y → range.expression r y (variables_of s) ≡ true
  initializer_in xs s y h =
      let found = given_ok _ _ y h in
      expression_made r (NamedExpression-F.Initializer found.0) y (variables_of s) (e.rolls-Initializer found.0 ∙ found.1.1) (expressions_in s xs found.0 found.1.0)

  unary_in : (operator : UnaryOperator) (at : ℕ) (p : PE) (s : Scope) (y : NamedExpression)
      → given (e.Unary operator at) ((bound_expression schema p.0).in_scope s) ≡ Ok y → range.expression r y (variables_of s) ≡ true
  unary_in operator at p s y h =
      let found = given_ok _ _ y h in
      expression_made r (NamedExpression-F.Unary operator at found.0) y (variables_of s) (e.rolls-Unary operator at found.0 ∙ found.1.1) (p.1 s found.0 found.1.0)

  chain_in : (p : PE) (xs : List PO) (s : Scope) (y : NamedExpression)
      → given (λ p. e.Chain p.0 p.1) (both ((bound_expression schema p.0).in_scope s) (each (λ o. o s) (map (bound_operation schema) (map (λ p. p.0) xs)))) ≡ Ok y
      → range.expression r y (variables_of s) ≡ true
  chain_in p xs s y h =
      let found = given_ok _ _ y h in
      let parts = both_ok _ _ found.0 found.1.0 in
      expression_made r (NamedExpression-F.Chain found.0.0 found.0.1) y (variables_of s) (e.rolls-Chain found.0.0 found.0.1 ∙ found.1.1)
      (true_and _ _ (p.1 s found.0.0 parts.0) (operations_in s xs found.0.1 parts.1))

  interval_expression_in : (p : PI) (s : Scope) (y : NamedExpression) → given e.Interval (bound_interval schema p.0 s) ≡ Ok y → range.expression r y (variables_of s) ≡ true
  interval_expression_in p s y h =
      let found = given_ok _ _ y h in
      expression_made r (NamedExpression-F.Interval found.0) y (variables_of s) (e.rolls-Interval found.0 ∙ found.1.1) (p.1 s found.0 found.1.0)

  query_expression_in : (p : PC) (s : Scope) (y : NamedExpression) → given e.Query (bound_query schema p.0 s) ≡ Ok y → range.expression r y (variables_of s) ≡ true
  query_expression_in p s y h =
      let found = given_ok _ _ y h in
      expression_made r (NamedExpression-F.Query found.0) y (variables_of s) (e.rolls-Query found.0 ∙ found.1.1) (p.1 s found.0 found.1.0)

  -- ---- what is taken of a value

  with_in : (o : Outcome NamedExpression) (xs : List PQ) (s : Scope) (y : NamedExpression) → ((z : NamedExpression) → o ≡ Ok z → range.expression r z (variables_of s) ≡ true)
      → bind.with_qualifiers schema s o (map (bound_qualifier schema) (map (λ p. p.0) xs)) ≡ Ok y → range.expression r y (variables_of s) ≡ true
  with_in o xs s y base h =
      let found = given_ok _ _ y h in
      let parts = both_ok _ _ found.0 found.1.0 in
      expression_made r (NamedExpression-F.Qualified found.0.0 found.0.1) y (variables_of s) (e.rolls-Qualified found.0.0 found.0.1 ∙ found.1.1)
      (true_and _ _ (base found.0.0 parts.0) (qualifiers_in s xs found.0.1 parts.1))

  item_with_in : (o : Outcome NamedExpression) (xs : List PQ) (s : Scope) (y : NamedExpression) → ((z : NamedExpression) → o ≡ Ok z → range.expression r z (variables_of s) ≡ true)
      → bind.item_with schema s o (map (bound_qualifier schema) (map (λ p. p.0) xs)) ≡ Ok y → range.expression r y (variables_of s) ≡ true
  item_with_in o [] s y base h = base y h
  item_with_in o (p ∷ xs) s y base h = with_in o (p ∷ xs) s y base h

  first_item_in : (s : Scope) (a b : Option Name) (y : NamedExpression) → bind.first_item schema s a b ≡ Ok (Some y) → range.expression r y (variables_of s) ≡ true
  first_item_in s (Some type) (Some item) y h = item_of_in r schema in_range s type item y h
  first_item_in s None b y h = absurd cc
  first_item_in s (Some type) None y h = absurd cc

  qualified_by_in : (p : PE) (q : PQ) (xs : List PQ) (s : Scope) (o : Outcome (Option NamedExpression)) (y : NamedExpression)
      → ((z : NamedExpression) → o ≡ Ok (Some z) → range.expression r z (variables_of s) ≡ true)
      → bind.qualified_by schema s (bound_expression schema p.0) (bound_qualifier schema q.0) (map (bound_qualifier schema) (map (λ p. p.0) xs)) o ≡ Ok y
      → range.expression r y (variables_of s) ≡ true
  qualified_by_in p q xs s (Ok (Some item)) y known h = item_with_in (Ok item) xs s y (λ z is. known z (let same : item ≡ z = cc in ap (λ i. Ok (Some i)) same)) h
  qualified_by_in p q xs s (Ok None) y known h = with_in ((bound_expression schema p.0).in_scope s) (q ∷ xs) s y (p.1 s) h
  qualified_by_in p q xs s (Err fault) y known h = item_with_in (Err fault) xs s y (λ z is. absurd cc) h

  qualified_in : (p : PE) (xs : List PQ) (s : Scope) (y : NamedExpression)
      → bind.qualified schema s (bound_expression schema p.0) (map (bound_qualifier schema) (map (λ p. p.0) xs)) ≡ Ok y → range.expression r y (variables_of s) ≡ true
  qualified_in p [] s y h = with_in ((bound_expression schema p.0).in_scope s) [] s y (p.1 s) h
  qualified_in p (q ∷ xs) s y h = qualified_by_in p q xs s (bind.first_item schema s (bound_expression schema p.0).alone (bound_qualifier schema q.0).attribute) y
      (first_item_in s (bound_expression schema p.0).alone (bound_qualifier schema q.0).attribute) h

  -- ---- qualifiers

  taken_in : (at : ℕ) (n : Name) (s : Scope) (y : NamedQualifier) → fine (q.Attribute at n) ≡ Ok y → qualifier r y (variables_of s) ≡ true
  taken_in at n s y h = let same : q.Attribute at n ≡ y = cc in qualifier_made r (NamedQualifier-F.«NamedQualifier::Attribute» at n) y (variables_of s) (q.rolls-Attribute at n ∙ same) refl

  group_in : (at : ℕ) (n : Name) (s : Scope) (y : NamedQualifier) → given (q.Group at) (entity schema n) ≡ Ok y → qualifier r y (variables_of s) ≡ true
  group_in at n s y h =
      let found = given_ok _ _ y h in
      qualifier_made r (NamedQualifier-F.Group at found.0) y (variables_of s) (q.rolls-Group at found.0 ∙ found.1.1) (entity_in r schema in_range n found.0 found.1.0)

  index_in : (at : ℕ) (p : PE) (s : Scope) (y : NamedQualifier) → given (q.Index at) ((bound_expression schema p.0).in_scope s) ≡ Ok y → qualifier r y (variables_of s) ≡ true
  index_in at p s y h =
      let found = given_ok _ _ y h in
      qualifier_made r (NamedQualifier-F.Index at found.0) y (variables_of s) (q.rolls-Index at found.0 ∙ found.1.1) (p.1 s found.0 found.1.0)

  range_in : (at : ℕ) (low high : PE) (s : Scope) (y : NamedQualifier)
      → given (λ p. q.Range at p.0 p.1) (both ((bound_expression schema low.0).in_scope s) ((bound_expression schema high.0).in_scope s)) ≡ Ok y → qualifier r y (variables_of s) ≡ true
  range_in at low high s y h =
      let found = given_ok _ _ y h in
      let parts = both_ok _ _ found.0 found.1.0 in
      qualifier_made r (NamedQualifier-F.Range at found.0.0 found.0.1) y (variables_of s) (q.rolls-Range at found.0.0 found.0.1 ∙ found.1.1)
      (true_and _ _ (low.1 s found.0.0 parts.0) (high.1 s found.0.1 parts.1))

  -- ---- one layer of each tree

  abbrev shed-Expression : Expression-F PE PQ PI PO PC → Expression-F Expression Qualifier Interval Operation Query
  shed-Expression = map-Expression PE PQ PI PO PC Expression Qualifier Interval Operation Query (λ p. p.0) (λ p. p.0) (λ p. p.0) (λ p. p.0) (λ p. p.0)

  abbrev shed-Qualifier : Qualifier-F PE PQ PI PO PC → Qualifier-F Expression Qualifier Interval Operation Query
  shed-Qualifier = map-Qualifier PE PQ PI PO PC Expression Qualifier Interval Operation Query (λ p. p.0) (λ p. p.0) (λ p. p.0) (λ p. p.0) (λ p. p.0)

  abbrev shed-Interval : Interval-F PE PQ PI PO PC → Interval-F Expression Qualifier Interval Operation Query
  shed-Interval = map-Interval PE PQ PI PO PC Expression Qualifier Interval Operation Query (λ p. p.0) (λ p. p.0) (λ p. p.0) (λ p. p.0) (λ p. p.0)

  abbrev shed-Operation : Operation-F PE PQ PI PO PC → Operation-F Expression Qualifier Interval Operation Query
  shed-Operation = map-Operation PE PQ PI PO PC Expression Qualifier Interval Operation Query (λ p. p.0) (λ p. p.0) (λ p. p.0) (λ p. p.0) (λ p. p.0)

  abbrev shed-Query : Query-F PE PQ PI PO PC → Query-F Expression Qualifier Interval Operation Query
  shed-Query = map-Query PE PQ PI PO PC Expression Qualifier Interval Operation Query (λ p. p.0) (λ p. p.0) (λ p. p.0) (λ p. p.0) (λ p. p.0)

  -- ---- what a tree stands for, by its layer

  stood_expression : (x : Expression-F Expression Qualifier Interval Operation Query) (s : Scope) (y : NamedExpression) → expression schema s (roll-Expression x) ≡ Ok y
      → (bind.expression_layer schema (map-Expression Expression Qualifier Interval Operation Query Bound BoundQualifier BoundInterval BoundOperation BoundQuery (bound_expression schema) (bound_qualifier schema) (bound_interval schema) (bound_operation schema) (bound_query schema) x)).in_scope s ≡ Ok y
  unfolding bound_expression bound_qualifier bound_interval bound_operation bound_query
  stood_expression x s y h = sym (ap (λ b. b.in_scope s) (fold-roll-Expression Bound BoundQualifier BoundInterval BoundOperation BoundQuery
      (bind.expression_layer schema) (bind.qualifier_layer schema) (bind.interval_layer schema) (bind.operation_layer schema) (bind.query_layer schema) x)) ∙ h

  stood_qualifier : (x : Qualifier-F Expression Qualifier Interval Operation Query) (s : Scope) (y : NamedQualifier) → (bound_qualifier schema (roll-Qualifier x)).in_scope s ≡ Ok y
      → (bind.qualifier_layer schema (map-Qualifier Expression Qualifier Interval Operation Query Bound BoundQualifier BoundInterval BoundOperation BoundQuery (bound_expression schema) (bound_qualifier schema) (bound_interval schema) (bound_operation schema) (bound_query schema) x)).in_scope s ≡ Ok y
  unfolding bound_expression bound_qualifier bound_interval bound_operation bound_query
  stood_qualifier x s y h = sym (ap (λ b. b.in_scope s) (fold-roll-Qualifier Bound BoundQualifier BoundInterval BoundOperation BoundQuery
      (bind.expression_layer schema) (bind.qualifier_layer schema) (bind.interval_layer schema) (bind.operation_layer schema) (bind.query_layer schema) x)) ∙ h

  stood_interval : (x : Interval-F Expression Qualifier Interval Operation Query) (s : Scope) (y : NamedInterval) → bound_interval schema (roll-Interval x) s ≡ Ok y
      → bind.interval_layer schema (map-Interval Expression Qualifier Interval Operation Query Bound BoundQualifier BoundInterval BoundOperation BoundQuery (bound_expression schema) (bound_qualifier schema) (bound_interval schema) (bound_operation schema) (bound_query schema) x) s ≡ Ok y
  unfolding bound_expression bound_qualifier bound_interval bound_operation bound_query
  stood_interval x s y h = sym (ap (λ b. b s) (fold-roll-Interval Bound BoundQualifier BoundInterval BoundOperation BoundQuery
      (bind.expression_layer schema) (bind.qualifier_layer schema) (bind.interval_layer schema) (bind.operation_layer schema) (bind.query_layer schema) x)) ∙ h

  stood_operation : (x : Operation-F Expression Qualifier Interval Operation Query) (s : Scope) (y : NamedOperation) → bound_operation schema (roll-Operation x) s ≡ Ok y
      → bind.operation_layer schema (map-Operation Expression Qualifier Interval Operation Query Bound BoundQualifier BoundInterval BoundOperation BoundQuery (bound_expression schema) (bound_qualifier schema) (bound_interval schema) (bound_operation schema) (bound_query schema) x) s ≡ Ok y
  unfolding bound_expression bound_qualifier bound_interval bound_operation bound_query
  stood_operation x s y h = sym (ap (λ b. b s) (fold-roll-Operation Bound BoundQualifier BoundInterval BoundOperation BoundQuery
      (bind.expression_layer schema) (bind.qualifier_layer schema) (bind.interval_layer schema) (bind.operation_layer schema) (bind.query_layer schema) x)) ∙ h

  stood_query : (x : Query-F Expression Qualifier Interval Operation Query) (s : Scope) (y : NamedQuery) → bound_query schema (roll-Query x) s ≡ Ok y
      → bind.query_layer schema (map-Query Expression Qualifier Interval Operation Query Bound BoundQualifier BoundInterval BoundOperation BoundQuery (bound_expression schema) (bound_qualifier schema) (bound_interval schema) (bound_operation schema) (bound_query schema) x) s ≡ Ok y
  unfolding bound_expression bound_qualifier bound_interval bound_operation bound_query
  stood_query x s y h = sym (ap (λ b. b s) (fold-roll-Query Bound BoundQualifier BoundInterval BoundOperation BoundQuery
      (bind.expression_layer schema) (bind.qualifier_layer schema) (bind.interval_layer schema) (bind.operation_layer schema) (bind.query_layer schema) x)) ∙ h

  -- ---- one layer of each tree

  expression_layer_in : (x : Expression-F PE PQ PI PO PC) → InExpression (roll-Expression (shed-Expression x))
  expression_layer_in (Expression-F.Literal literal) s y h = literal_in literal s y (stood_expression (shed-Expression (Expression-F.Literal literal)) s y h)
  expression_layer_in (Expression-F.Name n) s y h = name_in r schema in_range s n y (stood_expression (shed-Expression (Expression-F.Name n)) s y h)
  expression_layer_in (Expression-F.Itself at) s y h = itself_in r schema in_range s at y (stood_expression (shed-Expression (Expression-F.Itself at)) s y h)
  expression_layer_in Expression-F.Indeterminate s y h = indeterminate_in s y (stood_expression (shed-Expression Expression-F.Indeterminate) s y h)
  expression_layer_in (Expression-F.Call n xs) s y h = call_in n xs s y (stood_expression (shed-Expression (Expression-F.Call n xs)) s y h)
  expression_layer_in (Expression-F.BuiltIn word at xs) s y h = built_in_in word at xs s y (stood_expression (shed-Expression (Expression-F.BuiltIn word at xs)) s y h)
  expression_layer_in (Expression-F.Qualified p xs) s y h = qualified_in p xs s y (stood_expression (shed-Expression (Expression-F.Qualified p xs)) s y h)
  expression_layer_in (Expression-F.Unary operator at p) s y h = unary_in operator at p s y (stood_expression (shed-Expression (Expression-F.Unary operator at p)) s y h)
  expression_layer_in (Expression-F.Chain p xs) s y h = chain_in p xs s y (stood_expression (shed-Expression (Expression-F.Chain p xs)) s y h)
  expression_layer_in (Expression-F.Interval p) s y h = interval_expression_in p s y (stood_expression (shed-Expression (Expression-F.Interval p)) s y h)
  expression_layer_in (Expression-F.Query p) s y h = query_expression_in p s y (stood_expression (shed-Expression (Expression-F.Query p)) s y h)
  expression_layer_in (Expression-F.Initializer xs) s y h = initializer_in xs s y (stood_expression (shed-Expression (Expression-F.Initializer xs)) s y h)

  qualifier_layer_in : (x : Qualifier-F PE PQ PI PO PC) → InQualifier (roll-Qualifier (shed-Qualifier x))
  qualifier_layer_in (Qualifier-F.Attribute at n) s y h = taken_in at n s y (stood_qualifier (shed-Qualifier (Qualifier-F.Attribute at n)) s y h)
  qualifier_layer_in (Qualifier-F.Group at n) s y h = group_in at n s y (stood_qualifier (shed-Qualifier (Qualifier-F.Group at n)) s y h)
  qualifier_layer_in (Qualifier-F.Index at p) s y h = index_in at p s y (stood_qualifier (shed-Qualifier (Qualifier-F.Index at p)) s y h)
  qualifier_layer_in (Qualifier-F.Range at low high) s y h = range_in at low high s y (stood_qualifier (shed-Qualifier (Qualifier-F.Range at low high)) s y h)

  interval_layer_in : (x : Interval-F PE PQ PI PO PC) → InInterval (roll-Interval (shed-Interval x))
  interval_layer_in x s y h =
      let found = given_ok _ _ y (stood_interval (shed-Interval x) s y h) in
      let parts = both_ok _ _ found.0 found.1.0 in
      let first = both_ok _ _ found.0.0 parts.0 in
      interval_made r _ y (variables_of s) found.1.1
      (true_and _ _ (true_and _ _ (x.low.1 s found.0.0.0 first.0) (x.item.1 s found.0.0.1 first.1)) (x.high.1 s found.0.1 parts.1))

  operation_layer_in : (x : Operation-F PE PQ PI PO PC) → InOperation (roll-Operation (shed-Operation x))
  operation_layer_in x s y h =
      let found = given_ok _ _ y (stood_operation (shed-Operation x) s y h) in
      operation_made r _ y (variables_of s) found.1.1 (x.right.1 s found.0 found.1.0)

  -- a variable more is open in the condition
  query_layer_in : (x : Query-F PE PQ PI PO PC) → InQuery (roll-Query (shed-Query x))
  query_layer_in x s y h =
      let one_more : suc (variables_of s) ≡ variables_of (within s x.variable.text) = omega arith in
      let found = given_ok _ _ y (stood_query (shed-Query x) s y h) in
      let parts = both_ok _ _ found.0 found.1.0 in
      query_made r _ y (variables_of s) found.1.1
      (true_and _ _ (x.source.1 s found.0.0 parts.0)
      (ap (range.expression r found.0.1) one_more ∙ x.condition.1 (within s x.variable.text) found.0.1 parts.1))

  -- ---- whole trees

  pub expression_in : (x : Expression) → InExpression x
  expression_in = ind-Expression InExpression InQualifier InInterval InOperation InQuery
      (λ x y is. subst (λ z. InExpression (roll-Expression z)) is (expression_layer_in y))
      (λ x y is. subst (λ z. InQualifier (roll-Qualifier z)) is (qualifier_layer_in y))
      (λ x y is. subst (λ z. InInterval (roll-Interval z)) is (interval_layer_in y))
      (λ x y is. subst (λ z. InOperation (roll-Operation z)) is (operation_layer_in y))
      (λ x y is. subst (λ z. InQuery (roll-Query z)) is (query_layer_in y))
