-- What the statement comes to that begins with an instruction.
use Rattle.std.proofs.Common.{◌≡◌, ℕ, Option, Some, None, if◌then◌else◌, arith, List, [], ◌∷◌, map, refl, subst, sym, ap, ◌∙◌}
use Rattle.ex_named.specs.declared.expression.NamedDataType.{NamedDataType}
use Rattle.ex_tree.specs.declared.expression.BinaryOperator.{BinaryOperator}
use Rattle.rp_code.specs.Denoted.{Tree, as_statement, at, increment, condition, actions_of, expression_of, expressions_of, statement_of, statements_of}
use Rattle.rp_code.specs.declared.instruction.Instruction.{Instruction}
use Rattle.rp_code.specs.declared.instruction.Instruction.TheVariants as i
use Rattle.rp_code.specs.declared.tree.CaseAction.{CaseAction, roll-CaseAction}
use Rattle.rp_code.specs.declared.tree.Control.{Control}
use Rattle.rp_code.specs.declared.tree.Expression.{Expression}
use Rattle.rp_code.specs.declared.tree.Expression.TheVariants as e
use Rattle.rp_code.specs.declared.tree.Operation.{roll-Operation}
use Rattle.rp_code.specs.declared.tree.Statement.{Statement, map-Statement, roll-Statement}
use Rattle.rp_code.specs.declared.tree.Statement.TheFolds.{fold-roll-Statement, fold-roll-CaseAction, ind-Statement}
use Rattle.rp_code.specs.declared.tree.Statement.TheOpen.{Statement-F, CaseAction-F}
use Rattle.rp_code.specs.declared.tree.Statement.TheVariants as st
use Rattle.rp_eval_parts.specs.Charges.{charged, followed}
use Rattle.rp_meaning.specs.Bare.{is_true}
use Rattle.rp_meaning.specs.Computations.{Computation, and_then, pure, steps}
use Rattle.rp_meaning.specs.Expressions.{Scope, World, expression}
use Rattle.rp_meaning.specs.Statements.{Action, After, Labelled, Next, Escaped, Returned, Skipped, any_equal, assigned, is_hit, labelled, matched, repeats, statement, statements, turn, statement_layer, action_layer}
use Rattle.rp_meaning.specs.Types.{given}
use Rattle.rp_meaning.specs.declared.body.Body.{Body}
use Rattle.rp_meaning.specs.declared.counter.Counter.{Counter}
use Rattle.rp_value.specs.declared.value.Value.{Value}

-- an instruction of no statement
module _ (x : Instruction)
    (no_assignment : (slot : ℕ) (data_type : NamedDataType) → ¬ (x ≡ i.Assignment slot data_type))
    (no_growth : (slot : ℕ) (operator : BinaryOperator) (data_type : NamedDataType) → ¬ (x ≡ i.Growth slot operator data_type))
    (no_case : (actions : ℕ) → ¬ (x ≡ i.Case actions))
    (no_compound : ¬ (x ≡ i.Compound))
    (no_if : (then_part else_part : ℕ) → ¬ (x ≡ i.If then_part else_part))
    (no_repeat : (while_condition until_condition body : ℕ) → ¬ (x ≡ i.Repeat while_condition until_condition body))
    (no_return : ¬ (x ≡ i.Return))
    (no_skip : ¬ (x ≡ i.Skip))
    (no_escape : ¬ (x ≡ i.Escape)) where
  pub none_begins : (part : ℕ → Tree) → as_statement part x ≡ st.Null
  none_begins part = grind arith

module _ (world : World) (turns : ℕ) (below : Body → Computation Value) where
  -- a statement, by its parts
  abbrev pub layer : Statement-F Statement CaseAction → Action
  layer x = statement_layer world turns below (map-Statement Statement CaseAction Action Labelled (statement world turns below) (labelled world turns below) x)

  rolled : (x : Statement-F Statement CaseAction) → statement world turns below (roll-Statement x) ≡ layer x
  unfolding statement labelled
  rolled x = fold-roll-Statement Action Labelled (statement_layer world turns below) (action_layer world turns below) x

  abbrev Waits : Statement → Type 0
  Waits x = (s : Scope) (c : Counter) → steps 1 c ≡ None → statement world turns below x s c ≡ None

  waits-layer : (x : Statement-F Statement CaseAction) (s : Scope) (c : Counter) → steps 1 c ≡ None → layer x s c ≡ None
  waits-layer Statement-F.Null s c none = rw none refl
  waits-layer (Statement-F.Assignment slot data_type value) s c none = rw none refl
  waits-layer (Statement-F.Case selector actions) s c none = rw none refl
  waits-layer (Statement-F.Compound list) s c none = rw none refl
  waits-layer Statement-F.Escape s c none = rw none refl
  waits-layer (Statement-F.If test then_part else_part) s c none = rw none refl
  waits-layer (Statement-F.Repeat control body) s c none = rw none refl
  waits-layer (Statement-F.Return value) s c none = rw none refl
  waits-layer Statement-F.Skip s c none = rw none refl

  waits-roll : (x : Statement-F Statement CaseAction) → Waits (roll-Statement x)
  waits-roll x s c none = ap (λ a. a s c) (rolled x) ∙ waits-layer x s c none

  -- no statement is taken without a step
  pub waits : (x : Statement) → Waits x
  waits = ind-Statement Waits (λ x. Unit {0}) (λ x y is. subst (λ z. Waits (roll-Statement z)) is (waits-roll _)) (λ x y is. tt)

  module _ (s : Scope) (c : Counter) (code rest : List Instruction) (first : Instruction) (split : code ≡ first ∷ rest) where
    abbrev means : Expression → Computation Value
    means x = expression world below x s

    abbrev Is : Computation After → Type 0
    Is m = statement world turns below (statement_of code) s c ≡ charged 1 m c

    is_by : (x : Statement-F Statement CaseAction) (y : Instruction) → first ≡ y → statement_of (y ∷ rest) ≡ roll-Statement x → statement world turns below (statement_of code) s c ≡ layer x s c
    is_by x y same node = ap (λ z. statement world turns below z s c) (ap statement_of (split ∙ ap (λ z. z ∷ rest) same) ∙ node) ∙ ap (λ a. a s c) (rolled x)

    pub assignment_is : (slot : ℕ) (data_type : NamedDataType) → first ≡ i.Assignment slot data_type
        → Is (followed (means (expression_of rest)) (λ a. pure (Next (assigned s slot (given world.schema.types data_type a)))))
    assignment_is slot data_type same = is_by (Statement-F.Assignment slot data_type (expression_of rest)) _ same (sym (st.rolls-Assignment slot data_type (expression_of rest)))

    abbrev growth : ℕ → BinaryOperator → Expression
    growth slot operator = e.Chain (e.Variable slot) (roll-Operation (record { operator = operator; right = expression_of rest }) ∷ [])

    pub growth_is : (slot : ℕ) (operator : BinaryOperator) (data_type : NamedDataType) → first ≡ i.Growth slot operator data_type
        → Is (followed (means (growth slot operator)) (λ a. pure (Next (assigned s slot (given world.schema.types data_type a)))))
    growth_is slot operator data_type same = is_by (Statement-F.Assignment slot data_type (growth slot operator)) _ same (sym (st.rolls-Assignment slot data_type (growth slot operator)))

    pub case_is : (actions : ℕ) → first ≡ i.Case actions
        → Is (followed (means (expression_of rest)) (λ a. matched (expression world below) a (map (labelled world turns below) (at rest actions).actions) s))
    case_is actions same = is_by (Statement-F.Case (expression_of rest) (at rest actions).actions) _ same (sym (st.rolls-Case (expression_of rest) (at rest actions).actions))

    pub compound_is : first ≡ i.Compound → Is (statements world turns below (statements_of rest) s)
    compound_is same = is_by (Statement-F.Compound (statements_of rest)) _ same (sym (st.rolls-Compound (statements_of rest)))

    pub if_is : (then_part else_part : ℕ) → first ≡ i.If then_part else_part
        → Is (followed (means (expression_of rest)) (λ a. if is_true a then statements world turns below (at rest then_part).statements s else statements world turns below (at rest else_part).statements s))
    if_is then_part else_part same = is_by (Statement-F.If (expression_of rest) (at rest then_part).statements (at rest else_part).statements) _ same
        (sym (st.rolls-If (expression_of rest) (at rest then_part).statements (at rest else_part).statements))

    abbrev control : ℕ → ℕ → Control
    control while_condition until_condition = record {
      increment = increment (expressions_of rest);
      while_condition = condition (at rest while_condition).expressions;
      until_condition = condition (at rest until_condition).expressions;
    }

    pub repeat_is : (while_condition until_condition body : ℕ) → first ≡ i.Repeat while_condition until_condition body
        → Is (repeats turns (expression world below) (turn (expression world below) (control while_condition until_condition) (statements world turns below (at rest body).statements)) (increment (expressions_of rest)) s)
    repeat_is while_condition until_condition body same = is_by (Statement-F.Repeat (control while_condition until_condition) (at rest body).statements) _ same
        (sym (st.rolls-Repeat (control while_condition until_condition) (at rest body).statements))

    pub return_is : first ≡ i.Return → Is (followed (means (expression_of rest)) (λ a. pure (Returned a)))
    return_is same = is_by (Statement-F.Return (expression_of rest)) _ same (sym (st.rolls-Return (expression_of rest)))

    pub escape_is : first ≡ i.Escape → Is (pure (Escaped s))
    escape_is same = is_by Statement-F.Escape _ same (sym st.rolls-Escape)

    pub skip_is : first ≡ i.Skip → Is (pure (Skipped s))
    skip_is same = is_by Statement-F.Skip _ same (sym st.rolls-Skip)

  pub null_is : (s : Scope) (c : Counter) (x : Statement) → x ≡ st.Null → statement world turns below x s c ≡ charged 1 (pure (Next s)) c
  null_is s c x is = ap (λ z. statement world turns below z s c) (is ∙ sym st.rolls-Null) ∙ ap (λ a. a s c) (rolled Statement-F.Null)

  -- ---- actions

  abbrev IsLabelled : CaseAction → Type 0
  IsLabelled x = labelled world turns below x ≡ (x.labels, statement world turns below x.statement)

  labelled-roll : (x : CaseAction-F Statement CaseAction) → IsLabelled (roll-CaseAction x)
  unfolding statement labelled
  labelled-roll x = fold-roll-CaseAction Action Labelled (statement_layer world turns below) (action_layer world turns below) x

  abbrev action : Option (List Expression) → Statement → CaseAction
  action labels x = roll-CaseAction (record { labels = labels; statement = x })

  module _ (s : Scope) (c : Counter) (code rest : List Instruction) (first : Instruction) (split : code ≡ first ∷ rest) (a : Value) where
    abbrev runs : List CaseAction → Option (After × Counter)
    runs list = matched (expression world below) a (map (labelled world turns below) list) s c

    abbrev runs_by : Labelled → List CaseAction → Option (After × Counter)
    runs_by x others = and_then (is_hit (expression world below) a x.0 s c) (λ hit. if hit then x.1 s else matched (expression world below) a (map (labelled world turns below) others) s)

    first_by : (labels : Option (List Expression)) (x : Statement) (others : List CaseAction) (y : Instruction) → first ≡ y → actions_of (y ∷ rest) ≡ action labels x ∷ others
        → runs (actions_of code) ≡ runs_by (labels, statement world turns below x) others
    first_by labels x others y same node = ap runs (ap actions_of (split ∙ ap (λ z. z ∷ rest) same) ∙ node) ∙ ap (λ z. runs_by z others) (labelled-roll _)

    pub labels_is : (begins next : ℕ) → first ≡ i.Labels begins next
        → runs (actions_of code) ≡ and_then (any_equal (expression world below) a (expressions_of rest) s c)
        (λ hit. if hit then statement world turns below (at rest begins).statement s else matched (expression world below) a (map (labelled world turns below) (at rest next).actions) s)
    labels_is begins next same = first_by (Some (expressions_of rest)) (at rest begins).statement (at rest next).actions _ same refl

    pub otherwise_is : (next : ℕ) → first ≡ i.Otherwise next → runs (actions_of code) ≡ statement world turns below (statement_of rest) s c
    otherwise_is next same = first_by None (statement_of rest) (at rest next).actions _ same refl
