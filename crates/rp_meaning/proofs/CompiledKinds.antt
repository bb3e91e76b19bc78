-- What is said of the value of an expression that is compiled is what is said of it by its types.
use Rattle.std.proofs.Common.{◌≡◌, List, [], ◌∷◌, map, refl, sym, ap, ◌∙◌, subst}
use Rattle.ex_kinds.specs.declared.typed.Typed.{Typed}
use Rattle.ex_named.specs.declared.expression.NamedExpression.{NamedExpression, roll-NamedExpression, map-NamedExpression}
use Rattle.ex_named.specs.declared.expression.NamedExpression.TheFolds.{fold-roll-NamedExpression, fold-roll-NamedQualifier, fold-roll-NamedInterval, fold-roll-NamedOperation, fold-roll-NamedQuery, ind-NamedExpression, ind-NamedQualifier}
use Rattle.ex_named.specs.declared.expression.NamedExpression.TheOpen.{NamedExpression-F, NamedQualifier-F, NamedInterval-F, NamedOperation-F, NamedQuery-F}
use Rattle.ex_named.specs.declared.expression.NamedInterval.{NamedInterval, roll-NamedInterval, map-NamedInterval}
use Rattle.ex_named.specs.declared.expression.NamedOperation.{NamedOperation, roll-NamedOperation, map-NamedOperation}
use Rattle.ex_named.specs.declared.expression.NamedQualifier.{NamedQualifier, roll-NamedQualifier, map-NamedQualifier}
use Rattle.ex_named.specs.declared.expression.NamedQuery.{NamedQuery, roll-NamedQuery, map-NamedQuery}
use Rattle.ex_typing.specs.Expressions as typing
use Rattle.ex_typing.specs.Expressions.{TypingScope, TypedExpression, TypedQualifier, TypedOperation, typed_expression}
use Rattle.ex_typing.specs.Trees.{typed_qualifier, typed_interval, typed_operation, typed_query}
use Rattle.rp_meaning.specs.CompiledExpressions as spec
use Rattle.rp_meaning.specs.CompiledExpressions.{Declared, CompiledExpression, CompiledQualifier, CompiledInterval, CompiledOperation, CompiledQuery, compiled_expression}
use Rattle.rp_meaning.specs.CompiledTrees.{compiled_qualifier, compiled_interval, compiled_operation, compiled_query}

module _ (schema : Declared) where
  -- ---- what is said of each tree is the same

  abbrev Same : NamedExpression → Type 0
  Same x = (compiled_expression schema x).typed ≡ typed_expression schema.known x

  abbrev SameQualifier : NamedQualifier → Type 0
  SameQualifier x = (compiled_qualifier schema x).typed ≡ typed_qualifier schema.known x

  abbrev SameInterval : NamedInterval → Type 0
  SameInterval x = (compiled_interval schema x).typed ≡ typed_interval schema.known x

  abbrev SameOperation : NamedOperation → Type 0
  SameOperation x = (compiled_operation schema x).typed ≡ typed_operation schema.known x

  abbrev SameQuery : NamedQuery → Type 0
  SameQuery x = (compiled_query schema x).typed ≡ typed_query schema.known x

  abbrev Part : Type 0
  Part = (x : NamedExpression) × Same x

  abbrev QualifierPart : Type 0
  QualifierPart = (x : NamedQualifier) × SameQualifier x

  abbrev IntervalPart : Type 0
  IntervalPart = (x : NamedInterval) × SameInterval x

  abbrev OperationPart : Type 0
  OperationPart = (x : NamedOperation) × SameOperation x

  abbrev QueryPart : Type 0
  QueryPart = (x : NamedQuery) × SameQuery x

  -- ---- a layer

  abbrev expression_of : NamedExpression-F Part QualifierPart IntervalPart OperationPart QueryPart → NamedExpression-F NamedExpression NamedQualifier NamedInterval NamedOperation NamedQuery
  expression_of = map-NamedExpression Part QualifierPart IntervalPart OperationPart QueryPart NamedExpression NamedQualifier NamedInterval NamedOperation NamedQuery (λ p. p.0) (λ p. p.0) (λ p. p.0) (λ p. p.0) (λ p. p.0)

  abbrev qualifier_of : NamedQualifier-F Part QualifierPart IntervalPart OperationPart QueryPart → NamedQualifier-F NamedExpression NamedQualifier NamedInterval NamedOperation NamedQuery
  qualifier_of = map-NamedQualifier Part QualifierPart IntervalPart OperationPart QueryPart NamedExpression NamedQualifier NamedInterval NamedOperation NamedQuery (λ p. p.0) (λ p. p.0) (λ p. p.0) (λ p. p.0) (λ p. p.0)

  abbrev interval_of : NamedInterval-F Part QualifierPart IntervalPart OperationPart QueryPart → NamedInterval-F NamedExpression NamedQualifier NamedInterval NamedOperation NamedQuery
  interval_of = map-NamedInterval Part QualifierPart IntervalPart OperationPart QueryPart NamedExpression NamedQualifier NamedInterval NamedOperation NamedQuery (λ p. p.0) (λ p. p.0) (λ p. p.0) (λ p. p.0) (λ p. p.0)

  abbrev operation_of : NamedOperation-F Part QualifierPart IntervalPart OperationPart QueryPart → NamedOperation-F NamedExpression NamedQualifier NamedInterval NamedOperation NamedQuery
  operation_of = map-NamedOperation Part QualifierPart IntervalPart OperationPart QueryPart NamedExpression NamedQualifier NamedInterval NamedOperation NamedQuery (λ p. p.0) (λ p. p.0) (λ p. p.0) (λ p. p.0) (λ p. p.0)

  abbrev query_of : NamedQuery-F Part QualifierPart IntervalPart OperationPart QueryPart → NamedQuery-F NamedExpression NamedQualifier NamedInterval NamedOperation NamedQuery
  query_of = map-NamedQuery Part QualifierPart IntervalPart OperationPart QueryPart NamedExpression NamedQualifier NamedInterval NamedOperation NamedQuery (λ p. p.0) (λ p. p.0) (λ p. p.0) (λ p. p.0) (λ p. p.0)

  abbrev Layer : NamedExpression-F NamedExpression NamedQualifier NamedInterval NamedOperation NamedQuery → CompiledExpression
  Layer x = spec.expression_layer schema (map-NamedExpression NamedExpression NamedQualifier NamedInterval NamedOperation NamedQuery CompiledExpression CompiledQualifier CompiledInterval CompiledOperation CompiledQuery
      (compiled_expression schema) (compiled_qualifier schema) (compiled_interval schema) (compiled_operation schema) (compiled_query schema) x)

  abbrev QualifierLayer : NamedQualifier-F NamedExpression NamedQualifier NamedInterval NamedOperation NamedQuery → CompiledQualifier
  QualifierLayer x = spec.qualifier_layer schema (map-NamedQualifier NamedExpression NamedQualifier NamedInterval NamedOperation NamedQuery CompiledExpression CompiledQualifier CompiledInterval CompiledOperation CompiledQuery
      (compiled_expression schema) (compiled_qualifier schema) (compiled_interval schema) (compiled_operation schema) (compiled_query schema) x)

  abbrev IntervalLayer : NamedInterval-F NamedExpression NamedQualifier NamedInterval NamedOperation NamedQuery → CompiledInterval
  IntervalLayer x = spec.interval_layer schema (map-NamedInterval NamedExpression NamedQualifier NamedInterval NamedOperation NamedQuery CompiledExpression CompiledQualifier CompiledInterval CompiledOperation CompiledQuery
      (compiled_expression schema) (compiled_qualifier schema) (compiled_interval schema) (compiled_operation schema) (compiled_query schema) x)

  abbrev OperationLayer : NamedOperation-F NamedExpression NamedQualifier NamedInterval NamedOperation NamedQuery → CompiledOperation
  OperationLayer x = spec.operation_layer schema (map-NamedOperation NamedExpression NamedQualifier NamedInterval NamedOperation NamedQuery CompiledExpression CompiledQualifier CompiledInterval CompiledOperation CompiledQuery
      (compiled_expression schema) (compiled_qualifier schema) (compiled_interval schema) (compiled_operation schema) (compiled_query schema) x)

  abbrev QueryLayer : NamedQuery-F NamedExpression NamedQualifier NamedInterval NamedOperation NamedQuery → CompiledQuery
  QueryLayer x = spec.query_layer schema (map-NamedQuery NamedExpression NamedQualifier NamedInterval NamedOperation NamedQuery CompiledExpression CompiledQualifier CompiledInterval CompiledOperation CompiledQuery
      (compiled_expression schema) (compiled_qualifier schema) (compiled_interval schema) (compiled_operation schema) (compiled_query schema) x)

  abbrev Said : NamedExpression-F NamedExpression NamedQualifier NamedInterval NamedOperation NamedQuery → TypedExpression
  Said x = typing.expression_layer schema.known (map-NamedExpression NamedExpression NamedQualifier NamedInterval NamedOperation NamedQuery TypedExpression TypedQualifier (TypingScope → Typed) TypedOperation (TypingScope → Typed)
      (typed_expression schema.known) (typed_qualifier schema.known) (typed_interval schema.known) (typed_operation schema.known) (typed_query schema.known) x)

  abbrev QualifierSaid : NamedQualifier-F NamedExpression NamedQualifier NamedInterval NamedOperation NamedQuery → TypedQualifier
  QualifierSaid x = typing.qualifier_layer schema.known (map-NamedQualifier NamedExpression NamedQualifier NamedInterval NamedOperation NamedQuery TypedExpression TypedQualifier (TypingScope → Typed) TypedOperation (TypingScope → Typed)
      (typed_expression schema.known) (typed_qualifier schema.known) (typed_interval schema.known) (typed_operation schema.known) (typed_query schema.known) x)

  abbrev IntervalSaid : NamedInterval-F NamedExpression NamedQualifier NamedInterval NamedOperation NamedQuery → TypingScope → Typed
  IntervalSaid x = typing.interval_layer schema.known (map-NamedInterval NamedExpression NamedQualifier NamedInterval NamedOperation NamedQuery TypedExpression TypedQualifier (TypingScope → Typed) TypedOperation (TypingScope → Typed)
      (typed_expression schema.known) (typed_qualifier schema.known) (typed_interval schema.known) (typed_operation schema.known) (typed_query schema.known) x)

  abbrev OperationSaid : NamedOperation-F NamedExpression NamedQualifier NamedInterval NamedOperation NamedQuery → TypedOperation
  OperationSaid x = typing.operation_layer schema.known (map-NamedOperation NamedExpression NamedQualifier NamedInterval NamedOperation NamedQuery TypedExpression TypedQualifier (TypingScope → Typed) TypedOperation (TypingScope → Typed)
      (typed_expression schema.known) (typed_qualifier schema.known) (typed_interval schema.known) (typed_operation schema.known) (typed_query schema.known) x)

  abbrev QuerySaid : NamedQuery-F NamedExpression NamedQualifier NamedInterval NamedOperation NamedQuery → TypingScope → Typed
  QuerySaid x = typing.query_layer schema.known (map-NamedQuery NamedExpression NamedQualifier NamedInterval NamedOperation NamedQuery TypedExpression TypedQualifier (TypingScope → Typed) TypedOperation (TypingScope → Typed)
      (typed_expression schema.known) (typed_qualifier schema.known) (typed_interval schema.known) (typed_operation schema.known) (typed_query schema.known) x)

  -- ---- what a tree comes to that is made of parts

  compiled-roll : (x : NamedExpression-F NamedExpression NamedQualifier NamedInterval NamedOperation NamedQuery) → compiled_expression schema (roll-NamedExpression x) ≡ Layer x
  unfolding compiled_expression compiled_qualifier compiled_interval compiled_operation compiled_query
  compiled-roll x = fold-roll-NamedExpression CompiledExpression CompiledQualifier CompiledInterval CompiledOperation CompiledQuery (spec.expression_layer schema) (spec.qualifier_layer schema) (spec.interval_layer schema) (spec.operation_layer schema) (spec.query_layer schema) x

  qualifier-roll : (x : NamedQualifier-F NamedExpression NamedQualifier NamedInterval NamedOperation NamedQuery) → compiled_qualifier schema (roll-NamedQualifier x) ≡ QualifierLayer x
  unfolding compiled_expression compiled_qualifier compiled_interval compiled_operation compiled_query
  qualifier-roll x = fold-roll-NamedQualifier CompiledExpression CompiledQualifier CompiledInterval CompiledOperation CompiledQuery (spec.expression_layer schema) (spec.qualifier_layer schema) (spec.interval_layer schema) (spec.operation_layer schema) (spec.query_layer schema) x

  interval-roll : (x : NamedInterval-F NamedExpression NamedQualifier NamedInterval NamedOperation NamedQuery) → compiled_interval schema (roll-NamedInterval x) ≡ IntervalLayer x
  unfolding compiled_expression compiled_qualifier compiled_interval compiled_operation compiled_query
  interval-roll x = fold-roll-NamedInterval CompiledExpression CompiledQualifier CompiledInterval CompiledOperation CompiledQuery (spec.expression_layer schema) (spec.qualifier_layer schema) (spec.interval_layer schema) (spec.operation_layer schema) (spec.query_layer schema) x

  operation-roll : (x : NamedOperation-F NamedExpression NamedQualifier NamedInterval NamedOperation NamedQuery) → compiled_operation schema (roll-NamedOperation x) ≡ OperationLayer x
  unfolding compiled_expression compiled_qualifier compiled_interval compiled_operation compiled_query
  operation-roll x = fold-roll-NamedOperation CompiledExpression CompiledQualifier CompiledInterval CompiledOperation CompiledQuery (spec.expression_layer schema) (spec.qualifier_layer schema) (spec.interval_layer schema) (spec.operation_layer schema) (spec.query_layer schema) x

  query-roll : (x : NamedQuery-F NamedExpression NamedQualifier NamedInterval NamedOperation NamedQuery) → compiled_query schema (roll-NamedQuery x) ≡ QueryLayer x
  unfolding compiled_expression compiled_qualifier compiled_interval compiled_operation compiled_query
  query-roll x = fold-roll-NamedQuery CompiledExpression CompiledQualifier CompiledInterval CompiledOperation CompiledQuery (spec.expression_layer schema) (spec.qualifier_layer schema) (spec.interval_layer schema) (spec.operation_layer schema) (spec.query_layer schema) x

  said-roll : (x : NamedExpression-F NamedExpression NamedQualifier NamedInterval NamedOperation NamedQuery) → typed_expression schema.known (roll-NamedExpression x) ≡ Said x
  unfolding typed_expression typed_qualifier typed_interval typed_operation typed_query
  said-roll x = fold-roll-NamedExpression TypedExpression TypedQualifier (TypingScope → Typed) TypedOperation (TypingScope → Typed) (typing.expression_layer schema.known) (typing.qualifier_layer schema.known) (typing.interval_layer schema.known) (typing.operation_layer schema.known) (typing.query_layer schema.known) x

  qualifier_said-roll : (x : NamedQualifier-F NamedExpression NamedQualifier NamedInterval NamedOperation NamedQuery) → typed_qualifier schema.known (roll-NamedQualifier x) ≡ QualifierSaid x
  unfolding typed_expression typed_qualifier typed_interval typed_operation typed_query
  qualifier_said-roll x = fold-roll-NamedQualifier TypedExpression TypedQualifier (TypingScope → Typed) TypedOperation (TypingScope → Typed) (typing.expression_layer schema.known) (typing.qualifier_layer schema.known) (typing.interval_layer schema.known) (typing.operation_layer schema.known) (typing.query_layer schema.known) x

  interval_said-roll : (x : NamedInterval-F NamedExpression NamedQualifier NamedInterval NamedOperation NamedQuery) → typed_interval schema.known (roll-NamedInterval x) ≡ IntervalSaid x
  unfolding typed_expression typed_qualifier typed_interval typed_operation typed_query
  interval_said-roll x = fold-roll-NamedInterval TypedExpression TypedQualifier (TypingScope → Typed) TypedOperation (TypingScope → Typed) (typing.expression_layer schema.known) (typing.qualifier_layer schema.known) (typing.interval_layer schema.known) (typing.operation_layer schema.known) (typing.query_layer schema.known) x

  operation_said-roll : (x : NamedOperation-F NamedExpression NamedQualifier NamedInterval NamedOperation NamedQuery) → typed_operation schema.known (roll-NamedOperation x) ≡ OperationSaid x
  unfolding typed_expression typed_qualifier typed_interval typed_operation typed_query
  operation_said-roll x = fold-roll-NamedOperation TypedExpression TypedQualifier (TypingScope → Typed) TypedOperation (TypingScope → Typed) (typing.expression_layer schema.known) (typing.qualifier_layer schema.known) (typing.interval_layer schema.known) (typing.operation_layer schema.known) (typing.query_layer schema.known) x

  query_said-roll : (x : NamedQuery-F NamedExpression NamedQualifier NamedInterval NamedOperation NamedQuery) → typed_query schema.known (roll-NamedQuery x) ≡ QuerySaid x
  unfolding typed_expression typed_qualifier typed_interval typed_operation typed_query
  query_said-roll x = fold-roll-NamedQuery TypedExpression TypedQualifier (TypingScope → Typed) TypedOperation (TypingScope → Typed) (typing.expression_layer schema.known) (typing.qualifier_layer schema.known) (typing.interval_layer schema.known) (typing.operation_layer schema.known) (typing.query_layer schema.known) x

  -- ---- lists

  all-same : (ps : List Part) → map (λ y. y.typed) (map (compiled_expression schema) (map (λ p. p.0) ps)) ≡ map (typed_expression schema.known) (map (λ p. p.0) ps)
  all-same [] = refl
  all-same (p ∷ ps) = λ i. p.1 i ∷ all-same ps i

  qualifiers-same : (ps : List QualifierPart) → map (λ y. y.typed) (map (compiled_qualifier schema) (map (λ p. p.0) ps)) ≡ map (typed_qualifier schema.known) (map (λ p. p.0) ps)
  qualifiers-same [] = refl
  qualifiers-same (p ∷ ps) = λ i. p.1 i ∷ qualifiers-same ps i

  operations-same : (ps : List OperationPart) → map (λ y. y.typed) (map (compiled_operation schema) (map (λ p. p.0) ps)) ≡ map (typed_operation schema.known) (map (λ p. p.0) ps)
  operations-same [] = refl
  operations-same (p ∷ ps) = λ i. p.1 i ∷ operations-same ps i

  -- ---- a layer of parts of which the same is said

  expression-step : (y : NamedExpression-F Part QualifierPart IntervalPart OperationPart QueryPart) → (Layer (expression_of y)).typed ≡ Said (expression_of y)
  expression-step (NamedExpression-F.Literal value) = refl
  expression-step NamedExpression-F.Itself = refl
  expression-step NamedExpression-F.Indeterminate = refl
  expression-step (NamedExpression-F.Variable slot) = refl
  expression-step (NamedExpression-F.«NamedExpression::Attribute» name) = refl
  expression-step (NamedExpression-F.Constant number) = refl
  expression-step (NamedExpression-F.Population entity) = refl
  expression-step (NamedExpression-F.Item item) = refl
  expression-step (NamedExpression-F.AmbiguousItem at) = refl
  expression-step (NamedExpression-F.Call function at arguments) = λ i. typing.expression_layer schema.known (NamedExpression-F.Call function at (all-same arguments i))
  expression-step (NamedExpression-F.BuiltIn word at arguments) = λ i. typing.expression_layer schema.known (NamedExpression-F.BuiltIn word at (all-same arguments i))
  expression-step (NamedExpression-F.Qualified base qualifiers) = λ i. typing.expression_layer schema.known (NamedExpression-F.Qualified (base.1 i) (qualifiers-same qualifiers i))
  expression-step (NamedExpression-F.Unary operator at operand) = λ i. typing.expression_layer schema.known (NamedExpression-F.Unary operator at (operand.1 i))
  expression-step (NamedExpression-F.Chain left operations) = λ i. typing.expression_layer schema.known (NamedExpression-F.Chain (left.1 i) (operations-same operations i))
  expression-step (NamedExpression-F.Interval interval) = λ i. typing.expression_layer schema.known (NamedExpression-F.Interval (interval.1 i))
  expression-step (NamedExpression-F.Query query) = λ i. typing.expression_layer schema.known (NamedExpression-F.Query (query.1 i))
  expression-step (NamedExpression-F.Initializer elements) = λ i. typing.expression_layer schema.known (NamedExpression-F.Initializer (all-same elements i))

  qualifier-step : (y : NamedQualifier-F Part QualifierPart IntervalPart OperationPart QueryPart) → (QualifierLayer (qualifier_of y)).typed ≡ QualifierSaid (qualifier_of y)
  qualifier-step (NamedQualifier-F.«NamedQualifier::Attribute» at name) = refl
  qualifier-step (NamedQualifier-F.Group at entity) = refl
  qualifier-step (NamedQualifier-F.Index at index) = λ i. typing.qualifier_layer schema.known (NamedQualifier-F.Index at (index.1 i))
  qualifier-step (NamedQualifier-F.Range at low high) = λ i. typing.qualifier_layer schema.known (NamedQualifier-F.Range at (low.1 i) (high.1 i))

  interval-step : (y : NamedInterval-F Part QualifierPart IntervalPart OperationPart QueryPart) → (IntervalLayer (interval_of y)).typed ≡ IntervalSaid (interval_of y)
  interval-step y = λ i. typing.interval_layer schema.known (record { low = y.low.1 i; low_operator = y.low_operator; low_at = y.low_at; item = y.item.1 i; high_operator = y.high_operator; high_at = y.high_at; high = y.high.1 i })

  operation-step : (y : NamedOperation-F Part QualifierPart IntervalPart OperationPart QueryPart) → (OperationLayer (operation_of y)).typed ≡ OperationSaid (operation_of y)
  operation-step y = λ i. typing.operation_layer schema.known (record { operator = y.operator; at = y.at; right = y.right.1 i })

  query-step : (y : NamedQuery-F Part QualifierPart IntervalPart OperationPart QueryPart) → (QueryLayer (query_of y)).typed ≡ QuerySaid (query_of y)
  query-step y = λ i. typing.query_layer schema.known (record { at = y.at; source = y.source.1 i; condition = y.condition.1 i })

  -- ---- whole trees

  expression-made : (x : NamedExpression-F NamedExpression NamedQualifier NamedInterval NamedOperation NamedQuery) (y : NamedExpression-F Part QualifierPart IntervalPart OperationPart QueryPart) → expression_of y ≡ x → Same (roll-NamedExpression x)
  expression-made x y is = subst (λ z. Same (roll-NamedExpression z)) is (ap (λ c. c.typed) (compiled-roll (expression_of y)) ∙ expression-step y ∙ sym (said-roll (expression_of y)))

  qualifier-made : (x : NamedQualifier-F NamedExpression NamedQualifier NamedInterval NamedOperation NamedQuery) (y : NamedQualifier-F Part QualifierPart IntervalPart OperationPart QueryPart) → qualifier_of y ≡ x → SameQualifier (roll-NamedQualifier x)
  qualifier-made x y is = subst (λ z. SameQualifier (roll-NamedQualifier z)) is (ap (λ c. c.typed) (qualifier-roll (qualifier_of y)) ∙ qualifier-step y ∙ sym (qualifier_said-roll (qualifier_of y)))

  interval-made : (x : NamedInterval-F NamedExpression NamedQualifier NamedInterval NamedOperation NamedQuery) (y : NamedInterval-F Part QualifierPart IntervalPart OperationPart QueryPart) → interval_of y ≡ x → SameInterval (roll-NamedInterval x)
  interval-made x y is = subst (λ z. SameInterval (roll-NamedInterval z)) is (ap (λ c. c.typed) (interval-roll (interval_of y)) ∙ interval-step y ∙ sym (interval_said-roll (interval_of y)))

  operation-made : (x : NamedOperation-F NamedExpression NamedQualifier NamedInterval NamedOperation NamedQuery) (y : NamedOperation-F Part QualifierPart IntervalPart OperationPart QueryPart) → operation_of y ≡ x → SameOperation (roll-NamedOperation x)
  operation-made x y is = subst (λ z. SameOperation (roll-NamedOperation z)) is (ap (λ c. c.typed) (operation-roll (operation_of y)) ∙ operation-step y ∙ sym (operation_said-roll (operation_of y)))

  query-made : (x : NamedQuery-F NamedExpression NamedQualifier NamedInterval NamedOperation NamedQuery) (y : NamedQuery-F Part QualifierPart IntervalPart OperationPart QueryPart) → query_of y ≡ x → SameQuery (roll-NamedQuery x)
  query-made x y is = subst (λ z. SameQuery (roll-NamedQuery z)) is (ap (λ c. c.typed) (query-roll (query_of y)) ∙ query-step y ∙ sym (query_said-roll (query_of y)))

  pub expression-same : (x : NamedExpression) → (compiled_expression schema x).typed ≡ typed_expression schema.known x
  expression-same = ind-NamedExpression Same SameQualifier SameInterval SameOperation SameQuery expression-made qualifier-made interval-made operation-made query-made

  pub qualifier-same : (x : NamedQualifier) → (compiled_qualifier schema x).typed ≡ typed_qualifier schema.known x
  qualifier-same = ind-NamedQualifier Same SameQualifier SameInterval SameOperation SameQuery expression-made qualifier-made interval-made operation-made query-made
