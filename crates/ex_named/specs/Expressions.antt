-- Expressions with their names bound, by recursion on the tree.
use Rattle.std.specs.Prelude.{List, [], ◌∷◌, Option, Some, None, Ok, Err}
use Rattle.ex_tree.specs.declared.expression.Name.{Name}
use Rattle.ex_tree.specs.declared.expression.Expression.{Expression}
use Rattle.ex_tree.specs.declared.expression.Expression.TheFolds.{fold-Expression}
use Rattle.ex_tree.specs.declared.expression.Expression.TheOpen.{Expression-F, Qualifier-F, Interval-F, Operation-F, Query-F}
use Rattle.ex_named.specs.declared.expression.NamedExpression.{NamedExpression}
use Rattle.ex_named.specs.declared.expression.NamedExpression.TheVariants as e
use Rattle.ex_named.specs.declared.expression.NamedInterval.{NamedInterval, roll-NamedInterval}
use Rattle.ex_named.specs.declared.expression.NamedOperation.{NamedOperation, roll-NamedOperation}
use Rattle.ex_named.specs.declared.expression.NamedQualifier.{NamedQualifier}
use Rattle.ex_named.specs.declared.expression.NamedQualifier.TheVariants as q
use Rattle.ex_named.specs.declared.expression.NamedQuery.{NamedQuery, roll-NamedQuery}
use Rattle.ex_named.specs.Outcomes.{Outcome, given, both, each}
use Rattle.ex_named.specs.Scopes.{Declarations, Scope, name, itself, function, entity, item_of, within}

-- What an expression stands for in a scope. Where it is a name alone, that name may be a type's in front of an item.
pub record Bound : Type 0 where
  pub in_scope : Scope → Outcome NamedExpression
  pub alone : Option Name

-- What a qualifier stands for in a scope. Where it takes an attribute, that may be an item behind a type's name.
pub record BoundQualifier : Type 0 where
  pub in_scope : Scope → Outcome NamedQualifier
  pub attribute : Option Name

abbrev pub BoundInterval : Type 0
BoundInterval = Scope → Outcome NamedInterval

abbrev pub BoundOperation : Type 0
BoundOperation = Scope → Outcome NamedOperation

abbrev pub BoundQuery : Type 0
BoundQuery = Scope → Outcome NamedQuery

abbrev pub bound : (Scope → Outcome NamedExpression) → Bound
bound meaning = record { in_scope = meaning; alone = None }

abbrev pub bound_qualifier : (Scope → Outcome NamedQualifier) → BoundQualifier
bound_qualifier meaning = record { in_scope = meaning; attribute = None }

module _ (schema : Declarations) where
  abbrev pub expressions : Scope → List Bound → Outcome (List NamedExpression)
  expressions s = each (λ b. b.in_scope s)

  -- ---- qualifiers

  abbrev pub qualifiers : Scope → List BoundQualifier → Outcome (List NamedQualifier)
  qualifiers s = each (λ q. q.in_scope s)

  abbrev pub with_qualifiers : Scope → Outcome NamedExpression → List BoundQualifier → Outcome NamedExpression
  with_qualifiers s base qs = given (λ p. e.Qualified p.0 p.1) (both base (qualifiers s qs))

  -- `type.item` alone, or what is taken of it
  abbrev pub item_with : Scope → Outcome NamedExpression → List BoundQualifier → Outcome NamedExpression
  item_with s item [] = item
  item_with s item (q ∷ qs) = with_qualifiers s item (q ∷ qs)

  -- the item, where the base is a name alone and an attribute is taken of it first
  abbrev pub first_item : Scope → Option Name → Option Name → Outcome (Option NamedExpression)
  first_item s (Some type) (Some item) = item_of schema s type item
  first_item s _ _ = Ok None

  abbrev pub qualified_by : Scope → Bound → BoundQualifier → List BoundQualifier → Outcome (Option NamedExpression) → Outcome NamedExpression
  qualified_by s base q qs (Ok (Some item)) = item_with s (Ok item) qs
  qualified_by s base q qs (Ok None) = with_qualifiers s (base.in_scope s) (q ∷ qs)
  qualified_by s base q qs (Err fault) = item_with s (Err fault) qs

  abbrev pub qualified : Scope → Bound → List BoundQualifier → Outcome NamedExpression
  qualified s base [] = with_qualifiers s (base.in_scope s) []
  qualified s base (q ∷ qs) = qualified_by s base q qs (first_item s base.alone q.attribute)

  -- ---- one layer of each tree, given what its parts stand for

  abbrev pub expression_layer : Expression-F Bound BoundQualifier BoundInterval BoundOperation BoundQuery → Bound
  expression_layer (Expression-F.Literal literal) = bound (λ s. Ok (e.Literal literal))
  expression_layer (Expression-F.Name n) = record { in_scope = λ s. name schema s n; alone = Some n }
  expression_layer (Expression-F.Itself at) = bound (λ s. itself s at)
  expression_layer Expression-F.Indeterminate = bound (λ s. Ok e.Indeterminate)
  expression_layer (Expression-F.Call n arguments) = bound (λ s. given (λ p. e.Call p.0 n.at p.1) (both (function schema s n) (expressions s arguments)))
  expression_layer (Expression-F.BuiltIn word at arguments) = bound (λ s. given (e.BuiltIn word at) (expressions s arguments))
  expression_layer (Expression-F.Qualified base qs) = bound (λ s. qualified s base qs)
  expression_layer (Expression-F.Unary operator at operand) = bound (λ s. given (e.Unary operator at) (operand.in_scope s))
  expression_layer (Expression-F.Chain left operations) = bound (λ s. given (λ p. e.Chain p.0 p.1) (both (left.in_scope s) (each (λ o. o s) operations)))
  expression_layer (Expression-F.Interval interval) = bound (λ s. given e.Interval (interval s))
  expression_layer (Expression-F.Query query) = bound (λ s. given e.Query (query s))
  expression_layer (Expression-F.Initializer elements) = bound (λ s. given e.Initializer (expressions s elements))

  abbrev pub qualifier_layer : Qualifier-F Bound BoundQualifier BoundInterval BoundOperation BoundQuery → BoundQualifier
  qualifier_layer (Qualifier-F.Attribute at n) = record { in_scope = λ s. Ok (q.Attribute at n); attribute = Some n }
  qualifier_layer (Qualifier-F.Group at n) = bound_qualifier (λ s. given (q.Group at) (entity schema n))
  qualifier_layer (Qualifier-F.Index at index) = bound_qualifier (λ s. given (q.Index at) (index.in_scope s))
  qualifier_layer (Qualifier-F.Range at low high) = bound_qualifier (λ s. given (λ p. q.Range at p.0 p.1) (both (low.in_scope s) (high.in_scope s)))

  abbrev pub interval_layer : Interval-F Bound BoundQualifier BoundInterval BoundOperation BoundQuery → BoundInterval
  interval_layer i = λ s. given
      (λ p. roll-NamedInterval (record { low = p.0.0; low_operator = i.low_operator; low_at = i.low_at; item = p.0.1; high_operator = i.high_operator; high_at = i.high_at; high = p.1 }))
      (both (both (i.low.in_scope s) (i.item.in_scope s)) (i.high.in_scope s))

  abbrev pub operation_layer : Operation-F Bound BoundQualifier BoundInterval BoundOperation BoundQuery → BoundOperation
  operation_layer o = λ s. given (λ right. roll-NamedOperation (record { operator = o.operator; at = o.at; right = right })) (o.right.in_scope s)

  -- the variable stands in the condition alone
  abbrev pub query_layer : Query-F Bound BoundQualifier BoundInterval BoundOperation BoundQuery → BoundQuery
  query_layer query = λ s. given (λ p. roll-NamedQuery (record { at = query.at; source = p.0; condition = p.1 }))
      (both (query.source.in_scope s) (query.condition.in_scope (within s query.variable.text)))

  -- ---- whole trees

  unfoldable pub bound_expression : Expression → Bound
  bound_expression = fold-Expression Bound BoundQualifier BoundInterval BoundOperation BoundQuery
      expression_layer qualifier_layer interval_layer operation_layer query_layer

  abbrev pub expression : Scope → Expression → Outcome NamedExpression
  expression s x = (bound_expression x).in_scope s
