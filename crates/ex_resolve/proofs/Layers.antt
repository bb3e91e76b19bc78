-- Trees are in range where their layers are.
use Rattle.std.proofs.Common.{◌≡◌, ℕ, Bool, true, sym, ap, ◌∙◌}
use Rattle.ex_named.specs.declared.declaration.NamedSupertype.{NamedSupertype, roll-NamedSupertype, map-NamedSupertype}
use Rattle.ex_named.specs.declared.declaration.NamedSupertype.TheFolds.{fold-roll-NamedSupertype}
use Rattle.ex_named.specs.declared.declaration.NamedSupertype.TheOpen.{NamedSupertype-F}
use Rattle.ex_named.specs.declared.expression.NamedDataType.{NamedDataType, roll-NamedDataType, map-NamedDataType}
use Rattle.ex_named.specs.declared.expression.NamedDataType.TheFolds.{fold-roll-NamedDataType}
use Rattle.ex_named.specs.declared.expression.NamedDataType.TheOpen.{NamedDataType-F}
use Rattle.ex_named.specs.declared.expression.NamedExpression.{NamedExpression, roll-NamedExpression, map-NamedExpression}
use Rattle.ex_named.specs.declared.expression.NamedExpression.TheFolds.{fold-NamedQualifier, fold-NamedInterval, fold-NamedOperation, fold-NamedQuery, fold-roll-NamedExpression, fold-roll-NamedQualifier, fold-roll-NamedInterval, fold-roll-NamedOperation, fold-roll-NamedQuery}
use Rattle.ex_named.specs.declared.expression.NamedExpression.TheOpen.{NamedExpression-F, NamedQualifier-F, NamedInterval-F, NamedOperation-F, NamedQuery-F}
use Rattle.ex_named.specs.declared.expression.NamedInterval.{NamedInterval, roll-NamedInterval, map-NamedInterval}
use Rattle.ex_named.specs.declared.expression.NamedOperation.{NamedOperation, roll-NamedOperation, map-NamedOperation}
use Rattle.ex_named.specs.declared.expression.NamedQualifier.{NamedQualifier, roll-NamedQualifier, map-NamedQualifier}
use Rattle.ex_named.specs.declared.expression.NamedQuery.{NamedQuery, roll-NamedQuery, map-NamedQuery}
use Rattle.ex_named.specs.declared.statement.NamedCase.{NamedCase, roll-NamedCase, map-NamedCase}
use Rattle.ex_named.specs.declared.statement.NamedCaseAction.{NamedCaseAction, roll-NamedCaseAction, map-NamedCaseAction}
use Rattle.ex_named.specs.declared.statement.NamedStatement.{NamedStatement, roll-NamedStatement, map-NamedStatement}
use Rattle.ex_named.specs.declared.statement.NamedStatement.TheFolds.{fold-NamedCase, fold-NamedCaseAction, fold-roll-NamedStatement, fold-roll-NamedCase, fold-roll-NamedCaseAction}
use Rattle.ex_named.specs.declared.statement.NamedStatement.TheOpen.{NamedStatement-F, NamedCaseAction-F, NamedCase-F}
use Rattle.ex_resolve.specs.Ranges as range
use Rattle.ex_resolve.specs.Ranges.{Range, InOpen}

module _ (r : Range) where
  -- ---- what else an expression is made of

  unfoldable pub qualifier : NamedQualifier → InOpen
  qualifier = fold-NamedQualifier InOpen InOpen InOpen InOpen InOpen
      (range.expression_layer r) (range.qualifier_layer r) (range.interval_layer r) (range.operation_layer r) (range.query_layer r)

  unfoldable pub interval : NamedInterval → InOpen
  interval = fold-NamedInterval InOpen InOpen InOpen InOpen InOpen
      (range.expression_layer r) (range.qualifier_layer r) (range.interval_layer r) (range.operation_layer r) (range.query_layer r)

  unfoldable pub operation : NamedOperation → InOpen
  operation = fold-NamedOperation InOpen InOpen InOpen InOpen InOpen
      (range.expression_layer r) (range.qualifier_layer r) (range.interval_layer r) (range.operation_layer r) (range.query_layer r)

  unfoldable pub query : NamedQuery → InOpen
  query = fold-NamedQuery InOpen InOpen InOpen InOpen InOpen
      (range.expression_layer r) (range.qualifier_layer r) (range.interval_layer r) (range.operation_layer r) (range.query_layer r)

  pub expression_made : (x : NamedExpression-F NamedExpression NamedQualifier NamedInterval NamedOperation NamedQuery) (y : NamedExpression) (n : ℕ) → roll-NamedExpression x ≡ y
      → range.expression_layer r (map-NamedExpression NamedExpression NamedQualifier NamedInterval NamedOperation NamedQuery InOpen InOpen InOpen InOpen InOpen (range.expression r) qualifier interval operation query x) n ≡ true → range.expression r y n ≡ true
  unfolding range.expression qualifier interval operation query
  expression_made x y n is h = ap (λ z. range.expression r z n) (sym is) ∙ ap (λ f. f n) (fold-roll-NamedExpression InOpen InOpen InOpen InOpen InOpen (range.expression_layer r) (range.qualifier_layer r) (range.interval_layer r) (range.operation_layer r) (range.query_layer r) x) ∙ h

  pub qualifier_made : (x : NamedQualifier-F NamedExpression NamedQualifier NamedInterval NamedOperation NamedQuery) (y : NamedQualifier) (n : ℕ) → roll-NamedQualifier x ≡ y
      → range.qualifier_layer r (map-NamedQualifier NamedExpression NamedQualifier NamedInterval NamedOperation NamedQuery InOpen InOpen InOpen InOpen InOpen (range.expression r) qualifier interval operation query x) n ≡ true → qualifier y n ≡ true
  unfolding range.expression qualifier interval operation query
  qualifier_made x y n is h = ap (λ z. qualifier z n) (sym is) ∙ ap (λ f. f n) (fold-roll-NamedQualifier InOpen InOpen InOpen InOpen InOpen (range.expression_layer r) (range.qualifier_layer r) (range.interval_layer r) (range.operation_layer r) (range.query_layer r) x) ∙ h

  pub interval_made : (x : NamedInterval-F NamedExpression NamedQualifier NamedInterval NamedOperation NamedQuery) (y : NamedInterval) (n : ℕ) → roll-NamedInterval x ≡ y
      → range.interval_layer r (map-NamedInterval NamedExpression NamedQualifier NamedInterval NamedOperation NamedQuery InOpen InOpen InOpen InOpen InOpen (range.expression r) qualifier interval operation query x) n ≡ true → interval y n ≡ true
  unfolding range.expression qualifier interval operation query
  interval_made x y n is h = ap (λ z. interval z n) (sym is) ∙ ap (λ f. f n) (fold-roll-NamedInterval InOpen InOpen InOpen InOpen InOpen (range.expression_layer r) (range.qualifier_layer r) (range.interval_layer r) (range.operation_layer r) (range.query_layer r) x) ∙ h

  pub operation_made : (x : NamedOperation-F NamedExpression NamedQualifier NamedInterval NamedOperation NamedQuery) (y : NamedOperation) (n : ℕ) → roll-NamedOperation x ≡ y
      → range.operation_layer r (map-NamedOperation NamedExpression NamedQualifier NamedInterval NamedOperation NamedQuery InOpen InOpen InOpen InOpen InOpen (range.expression r) qualifier interval operation query x) n ≡ true → operation y n ≡ true
  unfolding range.expression qualifier interval operation query
  operation_made x y n is h = ap (λ z. operation z n) (sym is) ∙ ap (λ f. f n) (fold-roll-NamedOperation InOpen InOpen InOpen InOpen InOpen (range.expression_layer r) (range.qualifier_layer r) (range.interval_layer r) (range.operation_layer r) (range.query_layer r) x) ∙ h

  pub query_made : (x : NamedQuery-F NamedExpression NamedQualifier NamedInterval NamedOperation NamedQuery) (y : NamedQuery) (n : ℕ) → roll-NamedQuery x ≡ y
      → range.query_layer r (map-NamedQuery NamedExpression NamedQualifier NamedInterval NamedOperation NamedQuery InOpen InOpen InOpen InOpen InOpen (range.expression r) qualifier interval operation query x) n ≡ true → query y n ≡ true
  unfolding range.expression qualifier interval operation query
  query_made x y n is h = ap (λ z. query z n) (sym is) ∙ ap (λ f. f n) (fold-roll-NamedQuery InOpen InOpen InOpen InOpen InOpen (range.expression_layer r) (range.qualifier_layer r) (range.interval_layer r) (range.operation_layer r) (range.query_layer r) x) ∙ h

  -- ---- what else a statement is made of

  unfoldable pub case : NamedCase → InOpen
  case = fold-NamedCase InOpen InOpen InOpen (range.statement_layer r) (range.case_layer r) (range.case_action_layer r)

  unfoldable pub case_action : NamedCaseAction → InOpen
  case_action = fold-NamedCaseAction InOpen InOpen InOpen (range.statement_layer r) (range.case_layer r) (range.case_action_layer r)

  pub statement_made : (x : NamedStatement-F NamedStatement NamedCase NamedCaseAction) (y : NamedStatement) (n : ℕ) → roll-NamedStatement x ≡ y
      → range.statement_layer r (map-NamedStatement NamedStatement NamedCase NamedCaseAction InOpen InOpen InOpen (range.statement r) case case_action x) n ≡ true → range.statement r y n ≡ true
  unfolding range.statement case case_action
  statement_made x y n is h = ap (λ z. range.statement r z n) (sym is) ∙ ap (λ f. f n) (fold-roll-NamedStatement InOpen InOpen InOpen (range.statement_layer r) (range.case_layer r) (range.case_action_layer r) x) ∙ h

  pub case_made : (x : NamedCase-F NamedStatement NamedCase NamedCaseAction) (y : NamedCase) (n : ℕ) → roll-NamedCase x ≡ y
      → range.case_layer r (map-NamedCase NamedStatement NamedCase NamedCaseAction InOpen InOpen InOpen (range.statement r) case case_action x) n ≡ true → case y n ≡ true
  unfolding range.statement case case_action
  case_made x y n is h = ap (λ z. case z n) (sym is) ∙ ap (λ f. f n) (fold-roll-NamedCase InOpen InOpen InOpen (range.statement_layer r) (range.case_layer r) (range.case_action_layer r) x) ∙ h

  pub case_action_made : (x : NamedCaseAction-F NamedStatement NamedCase NamedCaseAction) (y : NamedCaseAction) (n : ℕ) → roll-NamedCaseAction x ≡ y
      → range.case_action_layer r (map-NamedCaseAction NamedStatement NamedCase NamedCaseAction InOpen InOpen InOpen (range.statement r) case case_action x) n ≡ true → case_action y n ≡ true
  unfolding range.statement case case_action
  case_action_made x y n is h = ap (λ z. case_action z n) (sym is) ∙ ap (λ f. f n) (fold-roll-NamedCaseAction InOpen InOpen InOpen (range.statement_layer r) (range.case_layer r) (range.case_action_layer r) x) ∙ h

  -- ---- types and supertype expressions

  pub data_type_made : (x : NamedDataType-F NamedDataType) (y : NamedDataType) → roll-NamedDataType x ≡ y
      → range.data_type_layer r (map-NamedDataType NamedDataType Bool (range.data_type r) x) ≡ true → range.data_type r y ≡ true
  unfolding range.data_type
  data_type_made x y is h = ap (range.data_type r) (sym is) ∙ fold-roll-NamedDataType Bool (range.data_type_layer r) x ∙ h

  pub supertype_made : (x : NamedSupertype-F NamedSupertype) (y : NamedSupertype) → roll-NamedSupertype x ≡ y
      → range.supertype_layer r (map-NamedSupertype NamedSupertype Bool (range.supertype r) x) ≡ true → range.supertype r y ≡ true
  unfolding range.supertype
  supertype_made x y is h = ap (range.supertype r) (sym is) ∙ fold-roll-NamedSupertype Bool (range.supertype_layer r) x ∙ h
