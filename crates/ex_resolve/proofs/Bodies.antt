-- Statements with their names bound are in range.
use Rattle.std.proofs.Common.{◌≡◌, ℕ, suc, Bool, true, List, map, Option, Some, None, Ok, refl, sym, ap, subst, ◌∙◌, arith}
use Rattle.std.specs.List.{list_all}
use Rattle.ex_tree.specs.declared.expression.Expression.{Expression}
use Rattle.ex_tree.specs.declared.expression.Name.{Name}
use Rattle.ex_tree.specs.declared.statement.Case.{Case, roll-Case, map-Case, fold-Case}
use Rattle.ex_tree.specs.declared.statement.CaseAction.{CaseAction, roll-CaseAction, map-CaseAction, fold-CaseAction}
use Rattle.ex_tree.specs.declared.statement.Increment.{Increment}
use Rattle.ex_tree.specs.declared.statement.RepeatControl.{RepeatControl}
use Rattle.ex_tree.specs.declared.statement.Statement.{Statement, roll-Statement, map-Statement}
use Rattle.ex_tree.specs.declared.statement.Statement.TheFolds.{fold-roll-Statement, fold-roll-Case, fold-roll-CaseAction, ind-Statement}
use Rattle.ex_tree.specs.declared.statement.Statement.TheShapes.{former-Case-otherwise}
use Rattle.ex_tree.specs.declared.statement.Statement.TheOpen.{Statement-F, Case-F, CaseAction-F}
use Rattle.ex_named.specs.declared.expression.NamedExpression.{NamedExpression}
use Rattle.ex_named.specs.declared.statement.NamedCase.{NamedCase}
use Rattle.ex_named.specs.declared.statement.NamedCaseAction.{NamedCaseAction}
use Rattle.ex_named.specs.declared.statement.NamedIncrement.{NamedIncrement}
use Rattle.ex_named.specs.declared.statement.NamedRepeatControl.{NamedRepeatControl}
use Rattle.ex_named.specs.declared.statement.NamedStatement.{NamedStatement}
use Rattle.ex_named.specs.declared.statement.NamedStatement.TheVariants as n
use Rattle.ex_named.specs.declared.statement.NamedStatement.TheShapes.{former-NamedCase-otherwise}
use Rattle.ex_named.specs.declared.statement.NamedStatement.TheOpen.{NamedStatement-F}
use Rattle.ex_named.specs.Expressions.{expression}
use Rattle.ex_named.specs.Outcomes.{Outcome, given, both, each, optional}
use Rattle.ex_named.specs.Scopes.{Declarations, Scope, assigned, within}
use Rattle.ex_named.specs.Statements as bind
use Rattle.ex_named.specs.Statements.{BoundStatement, BoundCase, BoundCaseAction, bound_statement, statement, statements}
use Rattle.ex_resolve.proofs.Layers.{case, case_action, statement_made, case_made, case_action_made}
use Rattle.ex_resolve.proofs.Meanings.{IsIn, variables_of, assigned_below}
use Rattle.ex_resolve.proofs.Trees.{expression_in, fine}
use Rattle.ex_resolve.proofs.Truths.{true_and, all_gave, all_parts}
use Rattle.ex_resolve.proofs.Wholes.{given_ok, both_ok, each_ok}
use Rattle.ex_resolve.specs.Ranges as range
use Rattle.ex_resolve.specs.Ranges.{Range, InOpen}

pub optional_in : {A B : Type 0} (bind : A → Outcome B) (test : B → Bool) → ((x : A) (y : B) → bind x ≡ Ok y → test y ≡ true)
    → (o : Option A) (found : Option B) → optional bind o ≡ Ok found → range.optional test found ≡ true
optional_in bind test holds None found h = let same : None ≡ found = cc in ap (range.optional test) (sym same)
optional_in bind test holds (Some x) found h =
    let whole = given_ok Some (bind x) found h in
    ap (range.optional test) (sym whole.1.1) ∙ holds x whole.0 whole.1.0

module _ (schema : Declarations) where
  unfoldable bound_case : Case → BoundCase
  bound_case = fold-Case BoundStatement BoundCase BoundCaseAction (bind.statement_layer schema) (bind.case_layer schema) (bind.case_action_layer schema)

  unfoldable bound_case_action : CaseAction → BoundCaseAction
  bound_case_action = fold-CaseAction BoundStatement BoundCase BoundCaseAction (bind.statement_layer schema) (bind.case_layer schema) (bind.case_action_layer schema)

module _ (r : Range) (schema : Declarations) (in_range : IsIn r schema) where
  -- ---- what governs a REPEAT

  increment_in : (s : Scope) (x : Increment) (y : NamedIncrement) → bind.increment schema s x ≡ Ok y → range.increment r (variables_of s) y ≡ true
  unfolding bind.increment range.increment
  increment_in s x y h =
      let found = given_ok _ _ y h in
      let parts = both_ok _ _ found.0 found.1.0 in
      let bounds = both_ok _ _ found.0.0 parts.0 in
      ap (range.increment r (variables_of s)) (sym found.1.1)
      ∙ true_and _ _ (true_and _ _ (expression_in r schema in_range x.first s found.0.0.0 bounds.0) (expression_in r schema in_range x.last s found.0.0.1 bounds.1))
      (optional_in (expression schema s) (λ z. range.expression r z (variables_of s)) (λ a b. expression_in r schema in_range a s b) x.step found.0.1 parts.1)

  -- the variable of a REPEAT is open in its turns
  turn_by : (s : Scope) (o : Option Increment) (found : Option NamedIncrement) → optional (bind.increment schema s) o ≡ Ok found
      → range.in_turn r (variables_of s) found ≡ variables_of (bind.in_turn s o)
  turn_by s None found h = let same : None ≡ found = cc in ap (range.in_turn r (variables_of s)) (sym same)
  turn_by s (Some x) found h =
      let one_more : suc (variables_of s) ≡ variables_of (within s x.variable.text) = omega arith in
      let whole = given_ok Some (bind.increment schema s x) found h in
      ap (range.in_turn r (variables_of s)) (sym whole.1.1) ∙ one_more

  abbrev InControl : Scope → RepeatControl → NamedRepeatControl → Type 0
  InControl s x y = (range.repeat_control r (variables_of s) y ≡ true) × (range.in_turn r (variables_of s) y.increment ≡ variables_of (bind.in_turn s x.increment))

  condition_in : (s : Scope) (n : ℕ) → n ≡ variables_of s → (o : Option Expression) (found : Option NamedExpression) → optional (expression schema s) o ≡ Ok found
      → range.optional (λ z. range.expression r z n) found ≡ true
  condition_in s n is o found h = ap (λ k. range.optional (λ z. range.expression r z k) found) is
      ∙ optional_in (expression schema s) (λ z. range.expression r z (variables_of s)) (λ a b. expression_in r schema in_range a s b) o found h

  control_in : (s : Scope) (x : RepeatControl) (y : NamedRepeatControl) → bind.repeat_control schema s x ≡ Ok y → InControl s x y
  unfolding bind.repeat_control range.repeat_control
  control_in s x y h =
      let found = given_ok _ _ y h in
      let parts = both_ok _ _ found.0 found.1.0 in
      let first = both_ok _ _ found.0.0 parts.0 in
      let turn = turn_by s x.increment found.0.0.0 first.0 in
      let is : InControl s x (record { increment = found.0.0.0; while_condition = found.0.0.1; until_condition = found.0.1 }) = (
        true_and _ _ (true_and _ _
            (optional_in (bind.increment schema s) (range.increment r (variables_of s)) (increment_in s) x.increment found.0.0.0 first.0)
            (condition_in (bind.in_turn s x.increment) _ turn x.while_condition found.0.0.1 first.1))
            (condition_in (bind.in_turn s x.increment) _ turn x.until_condition found.0.1 parts.1),
        turn,
      ) in
      subst (InControl s x) found.1.1 is

  -- ---- parts that are in range

  abbrev InStatement : Statement → Type 0
  InStatement x = (s : Scope) (y : NamedStatement) → statement schema s x ≡ Ok y → range.statement r y (variables_of s) ≡ true

  abbrev InCase : Case → Type 0
  InCase x = (s : Scope) (y : NamedCase) → bound_case schema x s ≡ Ok y → case r y (variables_of s) ≡ true

  abbrev InCaseAction : CaseAction → Type 0
  InCaseAction x = (s : Scope) (y : NamedCaseAction) → bound_case_action schema x s ≡ Ok y → case_action r y (variables_of s) ≡ true

  abbrev PS : Type 0
  PS = (x : Statement) × InStatement x

  abbrev PC : Type 0
  PC = (x : Case) × InCase x

  abbrev PA : Type 0
  PA = (x : CaseAction) × InCaseAction x

  sequence_in : (s : Scope) (xs : List PS) (ys : List NamedStatement) → bind.statements_in schema s (map (bound_statement schema) (map (λ p. p.0) xs)) ≡ Ok ys
      → list_all (λ part. part (variables_of s)) (map (range.statement r) ys) ≡ true
  sequence_in s xs ys h = all_parts (λ p. p.0) (bound_statement schema) (λ b. b s) (range.statement r) (λ part. part (variables_of s))
      (λ p. p.1 s) xs ys (each_ok (λ b. b s) (map (bound_statement schema) (map (λ p. p.0) xs)) ys h)

  actions_in : (s : Scope) (xs : List PA) (ys : List NamedCaseAction) → each (λ a. a s) (map (bound_case_action schema) (map (λ p. p.0) xs)) ≡ Ok ys
      → list_all (λ part. part (variables_of s)) (map (case_action r) ys) ≡ true
  actions_in s xs ys h = all_parts (λ p. p.0) (bound_case_action schema) (λ a. a s) (case_action r) (λ part. part (variables_of s))
      (λ p. p.1 s) xs ys (each_ok (λ a. a s) (map (bound_case_action schema) (map (λ p. p.0) xs)) ys h)

  -- ---- statements, variant by variant

  null_in : (s : Scope) (y : NamedStatement) → fine n.Null ≡ Ok y → range.statement r y (variables_of s) ≡ true
  null_in s y h = let same : n.Null ≡ y = cc in statement_made r NamedStatement-F.Null y (variables_of s) (n.rolls-Null ∙ same) refl

  escape_in : (s : Scope) (y : NamedStatement) → fine n.Escape ≡ Ok y → range.statement r y (variables_of s) ≡ true
  escape_in s y h = let same : n.Escape ≡ y = cc in statement_made r NamedStatement-F.Escape y (variables_of s) (n.rolls-Escape ∙ same) refl

  skip_in : (s : Scope) (y : NamedStatement) → fine n.Skip ≡ Ok y → range.statement r y (variables_of s) ≡ true
  skip_in s y h = let same : n.Skip ≡ y = cc in statement_made r NamedStatement-F.Skip y (variables_of s) (n.rolls-Skip ∙ same) refl

  assignment_in : (variable : Name) (value : Expression) (s : Scope) (y : NamedStatement)
      → given (λ p. n.Assignment p.0 variable.at p.1) (both (assigned s variable) (expression schema s value)) ≡ Ok y → range.statement r y (variables_of s) ≡ true
  assignment_in variable value s y h =
      let found = given_ok _ _ y h in
      let parts = both_ok _ _ found.0 found.1.0 in
      statement_made r (NamedStatement-F.Assignment found.0.0 variable.at found.0.1) y (variables_of s) (n.rolls-Assignment found.0.0 variable.at found.0.1 ∙ found.1.1)
      (true_and _ _ (assigned_below s variable found.0.0 parts.0) (expression_in r schema in_range value s found.0.1 parts.1))

  case_statement_in : (p : PC) (s : Scope) (y : NamedStatement) → given n.Case (bound_case schema p.0 s) ≡ Ok y → range.statement r y (variables_of s) ≡ true
  case_statement_in p s y h =
      let found = given_ok _ _ y h in
      statement_made r (NamedStatement-F.Case found.0) y (variables_of s) (n.rolls-Case found.0 ∙ found.1.1) (p.1 s found.0 found.1.0)

  compound_in : (xs : List PS) (s : Scope) (y : NamedStatement)
      → given n.Compound (bind.statements_in schema s (map (bound_statement schema) (map (λ p. p.0) xs))) ≡ Ok y → range.statement r y (variables_of s) ≡ true
  compound_in xs s y h =
      let found = given_ok _ _ y h in
      statement_made r (NamedStatement-F.Compound found.0) y (variables_of s) (n.rolls-Compound found.0 ∙ found.1.1) (sequence_in s xs found.0 found.1.0)

  if_in : (test : Expression) (xs zs : List PS) (s : Scope) (y : NamedStatement)
      → given (λ p. n.If p.0.0 p.0.1 p.1) (both (both (expression schema s test) (bind.statements_in schema s (map (bound_statement schema) (map (λ p. p.0) xs))))
      (bind.statements_in schema s (map (bound_statement schema) (map (λ p. p.0) zs)))) ≡ Ok y
      → range.statement r y (variables_of s) ≡ true
  if_in test xs zs s y h =
      let found = given_ok _ _ y h in
      let parts = both_ok _ _ found.0 found.1.0 in
      let first = both_ok _ _ found.0.0 parts.0 in
      statement_made r (NamedStatement-F.If found.0.0.0 found.0.0.1 found.0.1) y (variables_of s) (n.rolls-If found.0.0.0 found.0.0.1 found.0.1 ∙ found.1.1)
      (true_and _ _ (true_and _ _ (expression_in r schema in_range test s found.0.0.0 first.0) (sequence_in s xs found.0.0.1 first.1)) (sequence_in s zs found.0.1 parts.1))

  repeat_in : (control : RepeatControl) (xs : List PS) (s : Scope) (y : NamedStatement)
      → given (λ p. n.Repeat p.0 p.1) (both (bind.repeat_control schema s control) (bind.statements_in schema (bind.in_turn s control.increment) (map (bound_statement schema) (map (λ p. p.0) xs)))) ≡ Ok y
      → range.statement r y (variables_of s) ≡ true
  repeat_in control xs s y h =
      let found = given_ok _ _ y h in
      let parts = both_ok _ _ found.0 found.1.0 in
      let governed = control_in s control found.0.0 parts.0 in
      statement_made r (NamedStatement-F.Repeat found.0.0 found.0.1) y (variables_of s) (n.rolls-Repeat found.0.0 found.0.1 ∙ found.1.1)
      (true_and _ _ governed.0
      (ap (λ k. list_all (λ part. part k) (map (range.statement r) found.0.1)) governed.1 ∙ sequence_in (bind.in_turn s control.increment) xs found.0.1 parts.1))

  return_in : (at : ℕ) (value : Expression) (s : Scope) (y : NamedStatement) → given (n.Return at) (expression schema s value) ≡ Ok y → range.statement r y (variables_of s) ≡ true
  return_in at value s y h =
      let found = given_ok _ _ y h in
      statement_made r (NamedStatement-F.Return at found.0) y (variables_of s) (n.rolls-Return at found.0 ∙ found.1.1) (expression_in r schema in_range value s found.0 found.1.0)

  abbrev shed-Statement : Statement-F PS PC PA → Statement-F Statement Case CaseAction
  shed-Statement = map-Statement PS PC PA Statement Case CaseAction (λ p. p.0) (λ p. p.0) (λ p. p.0)

  abbrev shed-Case : Case-F PS PC PA → Case-F Statement Case CaseAction
  shed-Case = map-Case PS PC PA Statement Case CaseAction (λ p. p.0) (λ p. p.0) (λ p. p.0)

  abbrev shed-CaseAction : CaseAction-F PS PC PA → CaseAction-F Statement Case CaseAction
  shed-CaseAction = map-CaseAction PS PC PA Statement Case CaseAction (λ p. p.0) (λ p. p.0) (λ p. p.0)

  stood_statement : (x : Statement-F Statement Case CaseAction) (s : Scope) (y : NamedStatement) → statement schema s (roll-Statement x) ≡ Ok y
      → bind.statement_layer schema (map-Statement Statement Case CaseAction BoundStatement BoundCase BoundCaseAction (bound_statement schema) (bound_case schema) (bound_case_action schema) x) s ≡ Ok y
  unfolding bound_statement bound_case bound_case_action
  stood_statement x s y h = sym (ap (λ b. b s) (fold-roll-Statement BoundStatement BoundCase BoundCaseAction (bind.statement_layer schema) (bind.case_layer schema) (bind.case_action_layer schema) x)) ∙ h

  stood_case : (x : Case-F Statement Case CaseAction) (s : Scope) (y : NamedCase) → bound_case schema (roll-Case x) s ≡ Ok y
      → bind.case_layer schema (map-Case Statement Case CaseAction BoundStatement BoundCase BoundCaseAction (bound_statement schema) (bound_case schema) (bound_case_action schema) x) s ≡ Ok y
  unfolding bound_statement bound_case bound_case_action
  stood_case x s y h = sym (ap (λ b. b s) (fold-roll-Case BoundStatement BoundCase BoundCaseAction (bind.statement_layer schema) (bind.case_layer schema) (bind.case_action_layer schema) x)) ∙ h

  stood_case_action : (x : CaseAction-F Statement Case CaseAction) (s : Scope) (y : NamedCaseAction) → bound_case_action schema (roll-CaseAction x) s ≡ Ok y
      → bind.case_action_layer schema (map-CaseAction Statement Case CaseAction BoundStatement BoundCase BoundCaseAction (bound_statement schema) (bound_case schema) (bound_case_action schema) x) s ≡ Ok y
  unfolding bound_statement bound_case bound_case_action
  stood_case_action x s y h = sym (ap (λ b. b s) (fold-roll-CaseAction BoundStatement BoundCase BoundCaseAction (bind.statement_layer schema) (bind.case_layer schema) (bind.case_action_layer schema) x)) ∙ h

  -- ---- one layer of each tree

  statement_layer_in : (x : Statement-F PS PC PA) → InStatement (roll-Statement (shed-Statement x))
  statement_layer_in Statement-F.Null s y h = null_in s y (stood_statement (shed-Statement Statement-F.Null) s y h)
  statement_layer_in (Statement-F.Assignment variable value) s y h = assignment_in variable value s y (stood_statement (shed-Statement (Statement-F.Assignment variable value)) s y h)
  statement_layer_in (Statement-F.Case p) s y h = case_statement_in p s y (stood_statement (shed-Statement (Statement-F.Case p)) s y h)
  statement_layer_in (Statement-F.Compound xs) s y h = compound_in xs s y (stood_statement (shed-Statement (Statement-F.Compound xs)) s y h)
  statement_layer_in Statement-F.Escape s y h = escape_in s y (stood_statement (shed-Statement Statement-F.Escape) s y h)
  statement_layer_in (Statement-F.If test xs zs) s y h = if_in test xs zs s y (stood_statement (shed-Statement (Statement-F.If test xs zs)) s y h)
  statement_layer_in (Statement-F.Repeat control xs) s y h = repeat_in control xs s y (stood_statement (shed-Statement (Statement-F.Repeat control xs)) s y h)
  statement_layer_in (Statement-F.Return at value) s y h = return_in at value s y (stood_statement (shed-Statement (Statement-F.Return at value)) s y h)
  statement_layer_in Statement-F.Skip s y h = skip_in s y (stood_statement (shed-Statement Statement-F.Skip) s y h)

  otherwise_in : (s : Scope) (o : Option PS) (found : Option NamedStatement)
      → optional (λ b. b s) (former-Case-otherwise.map Statement BoundStatement (bound_statement schema) (former-Case-otherwise.map PS Statement (λ p. p.0) o)) ≡ Ok found
      → range.optional (λ part. part (variables_of s)) (former-NamedCase-otherwise.map NamedStatement InOpen (range.statement r) found) ≡ true
  otherwise_in s None found h = let same : None ≡ found = cc in ap (λ o. range.optional (λ part. part (variables_of s)) (former-NamedCase-otherwise.map NamedStatement InOpen (range.statement r) o)) (sym same)
  otherwise_in s (Some p) found h =
      let whole = given_ok Some _ found h in
      ap (λ o. range.optional (λ part. part (variables_of s)) (former-NamedCase-otherwise.map NamedStatement InOpen (range.statement r) o)) (sym whole.1.1) ∙ p.1 s whole.0 whole.1.0

  case_layer_in : (x : Case-F PS PC PA) → InCase (roll-Case (shed-Case x))
  case_layer_in x s y h =
      let found = given_ok _ _ y (stood_case (shed-Case x) s y h) in
      let parts = both_ok _ _ found.0 found.1.0 in
      let first = both_ok _ _ found.0.0 parts.0 in
      case_made r _ y (variables_of s) found.1.1
      (true_and _ _ (true_and _ _ (expression_in r schema in_range x.selector s found.0.0.0 first.0) (actions_in s x.actions found.0.0.1 first.1)) (otherwise_in s x.otherwise found.0.1 parts.1))

  case_action_layer_in : (x : CaseAction-F PS PC PA) → InCaseAction (roll-CaseAction (shed-CaseAction x))
  case_action_layer_in x s y h =
      let found = given_ok _ _ y (stood_case_action (shed-CaseAction x) s y h) in
      let parts = both_ok _ _ found.0 found.1.0 in
      case_action_made r _ y (variables_of s) found.1.1
      (true_and _ _ (all_gave (expression schema s) (λ z. range.expression r z (variables_of s)) (λ a b. expression_in r schema in_range a s b) x.labels found.0.0 (each_ok (expression schema s) x.labels found.0.0 parts.0))
      (x.statement.1 s found.0.1 parts.1))

  -- ---- whole trees

  statement_in : (x : Statement) → InStatement x
  statement_in = ind-Statement InStatement InCase InCaseAction
      (λ x y is. subst (λ z. InStatement (roll-Statement z)) is (statement_layer_in y))
      (λ x y is. subst (λ z. InCase (roll-Case z)) is (case_layer_in y))
      (λ x y is. subst (λ z. InCaseAction (roll-CaseAction z)) is (case_action_layer_in y))

  pub statements_in : (s : Scope) (xs : List Statement) (ys : List NamedStatement) → statements schema s xs ≡ Ok ys → list_all (λ y. range.statement r y (variables_of s)) ys ≡ true
  statements_in s xs ys h = all_gave (statement schema s) (λ y. range.statement r y (variables_of s)) (λ x y. statement_in x s y) xs ys (each_ok (statement schema s) xs ys h)
