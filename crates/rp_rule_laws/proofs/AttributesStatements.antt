-- Statements of functions and rules use no attribute by its name alone.
use Rattle.std.proofs.Common.{◌≡◌, ℕ, Bool, true, List, [], map, Option, Some, None, Ok, refl, sym, ap, subst, ◌∙◌}
use Rattle.std.specs.List.{list_all}
use Rattle.ex_tree.specs.declared.expression.Expression.{Expression}
use Rattle.ex_tree.specs.declared.expression.Name.{Name}
use Rattle.ex_tree.specs.declared.statement.Case.{Case, roll-Case, map-Case, fold-Case}
use Rattle.ex_tree.specs.declared.statement.CaseAction.{CaseAction, roll-CaseAction, map-CaseAction, fold-CaseAction}
use Rattle.ex_tree.specs.declared.statement.Increment.{Increment}
use Rattle.ex_tree.specs.declared.statement.RepeatControl.{RepeatControl}
use Rattle.ex_tree.specs.declared.statement.Statement.{Statement, roll-Statement, map-Statement}
use Rattle.ex_tree.specs.declared.statement.Statement.TheFolds.{fold-roll-Statement, fold-roll-Case, fold-roll-CaseAction, ind-Statement}
use Rattle.ex_tree.specs.declared.statement.Statement.TheShapes.{former-Case-otherwise}
use Rattle.ex_tree.specs.declared.statement.Statement.TheOpen.{Statement-F, Case-F, CaseAction-F}
use Rattle.ex_named.specs.declared.statement.NamedCase.{NamedCase, roll-NamedCase, map-NamedCase}
use Rattle.ex_named.specs.declared.statement.NamedCaseAction.{NamedCaseAction, roll-NamedCaseAction, map-NamedCaseAction}
use Rattle.ex_named.specs.declared.statement.NamedIncrement.{NamedIncrement}
use Rattle.ex_named.specs.declared.statement.NamedRepeatControl.{NamedRepeatControl}
use Rattle.ex_named.specs.declared.statement.NamedStatement.{NamedStatement, roll-NamedStatement, map-NamedStatement}
use Rattle.ex_named.specs.declared.statement.NamedStatement.TheVariants as n
use Rattle.ex_named.specs.declared.statement.NamedStatement.TheFolds.{fold-roll-NamedCase, fold-roll-NamedCaseAction, fold-roll-NamedStatement}
use Rattle.ex_named.specs.declared.statement.NamedStatement.TheShapes.{former-NamedCase-otherwise}
use Rattle.ex_named.specs.declared.statement.NamedStatement.TheOpen.{NamedStatement-F, NamedCase-F, NamedCaseAction-F}
use Rattle.ex_named.specs.Expressions.{expression}
use Rattle.ex_named.specs.Outcomes.{Outcome, given, both, each, optional}
use Rattle.ex_named.specs.Scopes.{Declarations, Scope, assigned}
use Rattle.ex_named.specs.Statements as bind
use Rattle.ex_named.specs.Statements.{BoundStatement, BoundCase, BoundCaseAction, bound_statement, statement, statements}
use Rattle.ex_resolve.proofs.Truths.{true_and, all_gave, all_parts}
use Rattle.ex_resolve.proofs.Wholes.{given_ok, both_ok, each_ok}
use Rattle.rp_rule_laws.proofs.AttributesBound.{expression_in, fine}
use Rattle.rp_rule_laws.specs.Attributes as law

-- ---- a tree, by its layer

statement_made : (x : NamedStatement-F NamedStatement NamedCase NamedCaseAction) (y : NamedStatement) → roll-NamedStatement x ≡ y
    → law.statement_layer (map-NamedStatement NamedStatement NamedCase NamedCaseAction Bool Bool Bool law.statement law.case law.case_action x) ≡ true → law.statement y ≡ true
unfolding law.statement law.case law.case_action
statement_made x y is h = ap law.statement (sym is) ∙ fold-roll-NamedStatement Bool Bool Bool law.statement_layer law.case_layer law.case_action_layer x ∙ h

case_made : (x : NamedCase-F NamedStatement NamedCase NamedCaseAction) (y : NamedCase) → roll-NamedCase x ≡ y
    → law.case_layer (map-NamedCase NamedStatement NamedCase NamedCaseAction Bool Bool Bool law.statement law.case law.case_action x) ≡ true → law.case y ≡ true
unfolding law.statement law.case law.case_action
case_made x y is h = ap law.case (sym is) ∙ fold-roll-NamedCase Bool Bool Bool law.statement_layer law.case_layer law.case_action_layer x ∙ h

case_action_made : (x : NamedCaseAction-F NamedStatement NamedCase NamedCaseAction) (y : NamedCaseAction) → roll-NamedCaseAction x ≡ y
    → law.case_action_layer (map-NamedCaseAction NamedStatement NamedCase NamedCaseAction Bool Bool Bool law.statement law.case law.case_action x) ≡ true → law.case_action y ≡ true
unfolding law.statement law.case law.case_action
case_action_made x y is h = ap law.case_action (sym is) ∙ fold-roll-NamedCaseAction Bool Bool Bool law.statement_layer law.case_layer law.case_action_layer x ∙ h

pub optional_in : {A B : Type 0} (bind : A → Outcome B) (test : B → Bool) → ((x : A) (y : B) → bind x ≡ Ok y → test y ≡ true)
    → (o : Option A) (found : Option B) → optional bind o ≡ Ok found → law.optional test found ≡ true
optional_in bind test holds None found h = let same : None ≡ found = cc in ap (law.optional test) (sym same)
optional_in bind test holds (Some x) found h =
    let whole = given_ok Some (bind x) found h in
    ap (law.optional test) (sym whole.1.1) ∙ holds x whole.0 whole.1.0

module _ (schema : Declarations) where
  unfoldable bound_case : Case → BoundCase
  bound_case = fold-Case BoundStatement BoundCase BoundCaseAction (bind.statement_layer schema) (bind.case_layer schema) (bind.case_action_layer schema)

  unfoldable bound_case_action : CaseAction → BoundCaseAction
  bound_case_action = fold-CaseAction BoundStatement BoundCase BoundCaseAction (bind.statement_layer schema) (bind.case_layer schema) (bind.case_action_layer schema)

module _ (schema : Declarations) where
  -- ---- what governs a REPEAT

  increment_in : (s : Scope) (w : s.family ≡ []) (x : Increment) (y : NamedIncrement) → bind.increment schema s x ≡ Ok y → law.increment y ≡ true
  unfolding bind.increment
  increment_in s w x y h =
      let found = given_ok _ _ y h in
      let parts = both_ok _ _ found.0 found.1.0 in
      let bounds = both_ok _ _ found.0.0 parts.0 in
      ap law.increment (sym found.1.1)
      ∙ true_and _ _ (true_and _ _ (expression_in schema x.first s w found.0.0.0 bounds.0) (expression_in schema x.last s w found.0.0.1 bounds.1))
      (optional_in (expression schema s) law.expression (λ a b. expression_in schema a s w b) x.step found.0.1 parts.1)

  turn_family : (s : Scope) (w : s.family ≡ []) (o : Option Increment) → (bind.in_turn s o).family ≡ []
  turn_family s w None = w
  turn_family s w (Some x) = w

  control_in : (s : Scope) (w : s.family ≡ []) (x : RepeatControl) (y : NamedRepeatControl) → bind.repeat_control schema s x ≡ Ok y → law.repeat_control y ≡ true
  unfolding bind.repeat_control
  control_in s w x y h =
      let found = given_ok _ _ y h in
      let parts = both_ok _ _ found.0 found.1.0 in
      let first = both_ok _ _ found.0.0 parts.0 in
      let inside = turn_family s w x.increment in
      let turn : Scope = bind.in_turn s x.increment in
      ap law.repeat_control (sym found.1.1)
      ∙ true_and _ _ (true_and _ _
      (optional_in (bind.increment schema s) law.increment (increment_in s w) x.increment found.0.0.0 first.0)
      (optional_in (expression schema turn) law.expression (λ a b. expression_in schema a turn inside b) x.while_condition found.0.0.1 first.1))
      (optional_in (expression schema turn) law.expression (λ a b. expression_in schema a turn inside b) x.until_condition found.0.1 parts.1)

  -- ---- parts that are in range

  abbrev InStatement : Statement → Type 0
  InStatement x = (s : Scope) (w : s.family ≡ []) (y : NamedStatement) → statement schema s x ≡ Ok y → law.statement y ≡ true

  abbrev InCase : Case → Type 0
  InCase x = (s : Scope) (w : s.family ≡ []) (y : NamedCase) → bound_case schema x s ≡ Ok y → law.case y ≡ true

  abbrev InCaseAction : CaseAction → Type 0
  InCaseAction x = (s : Scope) (w : s.family ≡ []) (y : NamedCaseAction) → bound_case_action schema x s ≡ Ok y → law.case_action y ≡ true

  abbrev PS : Type 0
  PS = (x : Statement) × InStatement x

  abbrev PC : Type 0
  PC = (x : Case) × InCase x

  abbrev PA : Type 0
  PA = (x : CaseAction) × InCaseAction x

  sequence_in : (s : Scope) (w : s.family ≡ []) (xs : List PS) (ys : List NamedStatement) → bind.statements_in schema s (map (bound_statement schema) (map (λ p. p.0) xs)) ≡ Ok ys
      → law.all (map law.statement ys) ≡ true
  sequence_in s w xs ys h = all_parts (λ p. p.0) (bound_statement schema) (λ b. b s) law.statement (λ part. part)
      (λ p. p.1 s w) xs ys (each_ok (λ b. b s) (map (bound_statement schema) (map (λ p. p.0) xs)) ys h)

  actions_in : (s : Scope) (w : s.family ≡ []) (xs : List PA) (ys : List NamedCaseAction) → each (λ a. a s) (map (bound_case_action schema) (map (λ p. p.0) xs)) ≡ Ok ys
      → law.all (map law.case_action ys) ≡ true
  actions_in s w xs ys h = all_parts (λ p. p.0) (bound_case_action schema) (λ a. a s) law.case_action (λ part. part)
      (λ p. p.1 s w) xs ys (each_ok (λ a. a s) (map (bound_case_action schema) (map (λ p. p.0) xs)) ys h)

  -- ---- statements, variant by variant

  null_in : (s : Scope) (w : s.family ≡ []) (y : NamedStatement) → fine n.Null ≡ Ok y → law.statement y ≡ true
  null_in s w y h = let same : n.Null ≡ y = cc in statement_made NamedStatement-F.Null y (n.rolls-Null ∙ same) refl

  escape_in : (s : Scope) (w : s.family ≡ []) (y : NamedStatement) → fine n.Escape ≡ Ok y → law.statement y ≡ true
  escape_in s w y h = let same : n.Escape ≡ y = cc in statement_made NamedStatement-F.Escape y (n.rolls-Escape ∙ same) refl

  skip_in : (s : Scope) (w : s.family ≡ []) (y : NamedStatement) → fine n.Skip ≡ Ok y → law.statement y ≡ true
  skip_in s w y h = let same : n.Skip ≡ y = cc in statement_made NamedStatement-F.Skip y (n.rolls-Skip ∙ same) refl

  assignment_in : (variable : Name) (value : Expression) (s : Scope) (w : s.family ≡ []) (y : NamedStatement)
      → given (λ p. n.Assignment p.0 variable.at p.1) (both (assigned s variable) (expression schema s value)) ≡ Ok y → law.statement y ≡ true
  assignment_in variable value s w y h =
      let found = given_ok _ _ y h in
      let parts = both_ok _ _ found.0 found.1.0 in
      statement_made (NamedStatement-F.Assignment found.0.0 variable.at found.0.1) y (n.rolls-Assignment found.0.0 variable.at found.0.1 ∙ found.1.1)
      (expression_in schema value s w found.0.1 parts.1)

  case_statement_in : (p : PC) (s : Scope) (w : s.family ≡ []) (y : NamedStatement) → given n.Case (bound_case schema p.0 s) ≡ Ok y → law.statement y ≡ true
  case_statement_in p s w y h =
      let found = given_ok _ _ y h in
      statement_made (NamedStatement-F.Case found.0) y (n.rolls-Case found.0 ∙ found.1.1) (p.1 s w found.0 found.1.0)

  compound_in : (xs : List PS) (s : Scope) (w : s.family ≡ []) (y : NamedStatement)
      → given n.Compound (bind.statements_in schema s (map (bound_statement schema) (map (λ p. p.0) xs))) ≡ Ok y → law.statement y ≡ true
  compound_in xs s w y h =
      let found = given_ok _ _ y h in
      statement_made (NamedStatement-F.Compound found.0) y (n.rolls-Compound found.0 ∙ found.1.1) (sequence_in s w xs found.0 found.1.0)

  if_in : (test : Expression) (xs zs : List PS) (s : Scope) (w : s.family ≡ []) (y : NamedStatement)
      → given (λ p. n.If p.0.0 p.0.1 p.1) (both (both (expression schema s test) (bind.statements_in schema s (map (bound_statement schema) (map (λ p. p.0) xs))))
      (bind.statements_in schema s (map (bound_statement schema) (map (λ p. p.0) zs)))) ≡ Ok y
      → law.statement y ≡ true
  if_in test xs zs s w y h =
      let found = given_ok _ _ y h in
      let parts = both_ok _ _ found.0 found.1.0 in
      let first = both_ok _ _ found.0.0 parts.0 in
      statement_made (NamedStatement-F.If found.0.0.0 found.0.0.1 found.0.1) y (n.rolls-If found.0.0.0 found.0.0.1 found.0.1 ∙ found.1.1)
      (true_and _ _ (true_and _ _ (expression_in schema test s w found.0.0.0 first.0) (sequence_in s w xs found.0.0.1 first.1)) (sequence_in s w zs found.0.1 parts.1))

  repeat_in : (control : RepeatControl) (xs : List PS) (s : Scope) (w : s.family ≡ []) (y : NamedStatement)
      → given (λ p. n.Repeat p.0 p.1) (both (bind.repeat_control schema s control) (bind.statements_in schema (bind.in_turn s control.increment) (map (bound_statement schema) (map (λ p. p.0) xs)))) ≡ Ok y
      → law.statement y ≡ true
  repeat_in control xs s w y h =
      let found = given_ok _ _ y h in
      let parts = both_ok _ _ found.0 found.1.0 in
      statement_made (NamedStatement-F.Repeat found.0.0 found.0.1) y (n.rolls-Repeat found.0.0 found.0.1 ∙ found.1.1)
      (true_and _ _ (control_in s w control found.0.0 parts.0) (sequence_in (bind.in_turn s control.increment) (turn_family s w control.increment) xs found.0.1 parts.1))

  return_in : (at : ℕ) (value : Expression) (s : Scope) (w : s.family ≡ []) (y : NamedStatement) → given (n.Return at) (expression schema s value) ≡ Ok y → law.statement y ≡ true
  return_in at value s w y h =
      let found = given_ok _ _ y h in
      statement_made (NamedStatement-F.Return at found.0) y (n.rolls-Return at found.0 ∙ found.1.1) (expression_in schema value s w found.0 found.1.0)

  abbrev shed-Statement : Statement-F PS PC PA → Statement-F Statement Case CaseAction
  shed-Statement = map-Statement PS PC PA Statement Case CaseAction (λ p. p.0) (λ p. p.0) (λ p. p.0)

  abbrev shed-Case : Case-F PS PC PA → Case-F Statement Case CaseAction
  shed-Case = map-Case PS PC PA Statement Case CaseAction (λ p. p.0) (λ p. p.0) (λ p. p.0)

  abbrev shed-CaseAction : CaseAction-F PS PC PA → CaseAction-F Statement Case CaseAction
  shed-CaseAction = map-CaseAction PS PC PA Statement Case CaseAction (λ p. p.0) (λ p. p.0) (λ p. p.0)

  stood_statement : (x : Statement-F Statement Case CaseAction) (s : Scope) (y : NamedStatement) → statement schema s (roll-Statement x) ≡ Ok y
      → bind.statement_layer schema (map-Statement Statement Case CaseAction BoundStatement BoundCase BoundCaseAction (bound_statement schema) (bound_case schema) (bound_case_action schema) x) s ≡ Ok y
  unfolding bound_statement bound_case bound_case_action
  stood_statement x s y h = sym (ap (λ b. b s) (fold-roll-Statement BoundStatement BoundCase BoundCaseAction (bind.statement_layer schema) (bind.case_layer schema) (bind.case_action_layer schema) x)) ∙ h

  stood_case : (x : Case-F Statement Case CaseAction) (s : Scope) (y : NamedCase) → bound_case schema (roll-Case x) s ≡ Ok y
      → bind.case_layer schema (map-Case Statement Case CaseAction BoundStatement BoundCase BoundCaseAction (bound_statement schema) (bound_case schema) (bound_case_action schema) x) s ≡ Ok y
  unfolding bound_statement bound_case bound_case_action
  stood_case x s y h = sym (ap (λ b. b s) (fold-roll-Case BoundStatement BoundCase BoundCaseAction (bind.statement_layer schema) (bind.case_layer schema) (bind.case_action_layer schema) x)) ∙ h

  stood_case_action : (x : CaseAction-F Statement Case CaseAction) (s : Scope) (y : NamedCaseAction) → bound_case_action schema (roll-CaseAction x) s ≡ Ok y
      → bind.case_action_layer schema (map-CaseAction Statement Case CaseAction BoundStatement BoundCase BoundCaseAction (bound_statement schema) (bound_case schema) (bound_case_action schema) x) s ≡ Ok y
  unfolding bound_statement bound_case bound_case_action
  stood_case_action x s y h = sym (ap (λ b. b s) (fold-roll-CaseAction BoundStatement BoundCase BoundCaseAction (bind.statement_layer schema) (bind.case_layer schema) (bind.case_action_layer schema) x)) ∙ h

  -- ---- one layer of each tree

  statement_layer_in : (x : Statement-F PS PC PA) → InStatement (roll-Statement (shed-Statement x))
  statement_layer_in Statement-F.Null s w y h = null_in s w y (stood_statement (shed-Statement Statement-F.Null) s y h)
  statement_layer_in (Statement-F.Assignment variable value) s w y h = assignment_in variable value s w y (stood_statement (shed-Statement (Statement-F.Assignment variable value)) s y h)
  statement_layer_in (Statement-F.Case p) s w y h = case_statement_in p s w y (stood_statement (shed-Statement (Statement-F.Case p)) s y h)
  statement_layer_in (Statement-F.Compound xs) s w y h = compound_in xs s w y (stood_statement (shed-Statement (Statement-F.Compound xs)) s y h)
  statement_layer_in Statement-F.Escape s w y h = escape_in s w y (stood_statement (shed-Statement Statement-F.Escape) s y h)
  statement_layer_in (Statement-F.If test xs zs) s w y h = if_in test xs zs s w y (stood_statement (shed-Statement (Statement-F.If test xs zs)) s y h)
  statement_layer_in (Statement-F.Repeat control xs) s w y h = repeat_in control xs s w y (stood_statement (shed-Statement (Statement-F.Repeat control xs)) s y h)
  statement_layer_in (Statement-F.Return at value) s w y h = return_in at value s w y (stood_statement (shed-Statement (Statement-F.Return at value)) s y h)
  statement_layer_in Statement-F.Skip s w y h = skip_in s w y (stood_statement (shed-Statement Statement-F.Skip) s y h)

  otherwise_in : (s : Scope) (w : s.family ≡ []) (o : Option PS) (found : Option NamedStatement)
      → optional (λ b. b s) (former-Case-otherwise.map Statement BoundStatement (bound_statement schema) (former-Case-otherwise.map PS Statement (λ p. p.0) o)) ≡ Ok found
      → law.optional (λ part. part) (former-NamedCase-otherwise.map NamedStatement Bool law.statement found) ≡ true
  otherwise_in s w None found h = let same : None ≡ found = cc in ap (λ o. law.optional (λ part. part) (former-NamedCase-otherwise.map NamedStatement Bool law.statement o)) (sym same)
  otherwise_in s w (Some p) found h =
      let whole = given_ok Some _ found h in
      ap (λ o. law.optional (λ part. part) (former-NamedCase-otherwise.map NamedStatement Bool law.statement o)) (sym whole.1.1) ∙ p.1 s w whole.0 whole.1.0

  case_layer_in : (x : Case-F PS PC PA) → InCase (roll-Case (shed-Case x))
  case_layer_in x s w y h =
      let found = given_ok _ _ y (stood_case (shed-Case x) s y h) in
      let parts = both_ok _ _ found.0 found.1.0 in
      let first = both_ok _ _ found.0.0 parts.0 in
      case_made _ y found.1.1
      (true_and _ _ (true_and _ _ (expression_in schema x.selector s w found.0.0.0 first.0) (actions_in s w x.actions found.0.0.1 first.1)) (otherwise_in s w x.otherwise found.0.1 parts.1))

  case_action_layer_in : (x : CaseAction-F PS PC PA) → InCaseAction (roll-CaseAction (shed-CaseAction x))
  case_action_layer_in x s w y h =
      let found = given_ok _ _ y (stood_case_action (shed-CaseAction x) s y h) in
      let parts = both_ok _ _ found.0 found.1.0 in
      case_action_made _ y found.1.1
      (true_and _ _ (all_gave (expression schema s) law.expression (λ a b. expression_in schema a s w b) x.labels found.0.0 (each_ok (expression schema s) x.labels found.0.0 parts.0))
      (x.statement.1 s w found.0.1 parts.1))

  -- ---- whole trees

  statement_in : (x : Statement) → InStatement x
  statement_in = ind-Statement InStatement InCase InCaseAction
      (λ x y is. subst (λ z. InStatement (roll-Statement z)) is (statement_layer_in y))
      (λ x y is. subst (λ z. InCase (roll-Case z)) is (case_layer_in y))
      (λ x y is. subst (λ z. InCaseAction (roll-CaseAction z)) is (case_action_layer_in y))

  pub statements_in : (s : Scope) (w : s.family ≡ []) (xs : List Statement) (ys : List NamedStatement) → statements schema s xs ≡ Ok ys → list_all law.statement ys ≡ true
  statements_in s w xs ys h = all_gave (statement schema s) law.statement (λ x y. statement_in x s w y) xs ys (each_ok (statement schema s) xs ys h)
