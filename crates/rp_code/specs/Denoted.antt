-- What lists of instructions denote. Each does: past the end there are `?`, the empty statement, and lists without elements.
use Rattle.std.specs.Prelude.{ℕ, zero, suc, List, [], ◌∷◌, Option, Some, None}
use Rattle.rp_value.specs.declared.value.Value.TheVariants as v
use Rattle.rp_code.specs.declared.tree.CaseAction.{CaseAction, roll-CaseAction}
use Rattle.rp_code.specs.declared.tree.Expression.{Expression}
use Rattle.rp_code.specs.declared.tree.Expression.TheVariants as e
use Rattle.rp_code.specs.declared.tree.Increment.{Increment}
use Rattle.rp_code.specs.declared.tree.Interval.{roll-Interval}
use Rattle.rp_code.specs.declared.tree.Operation.{Operation, roll-Operation}
use Rattle.rp_code.specs.declared.tree.Qualifier.{Qualifier}
use Rattle.rp_code.specs.declared.tree.Qualifier.TheVariants as q
use Rattle.rp_code.specs.declared.tree.Query.{roll-Query}
use Rattle.rp_code.specs.declared.tree.Statement.{Statement}
use Rattle.rp_code.specs.declared.tree.Statement.TheVariants as st
use Rattle.rp_code.specs.declared.instruction.Instruction.{Instruction}
use Rattle.rp_code.specs.declared.instruction.Instruction.TheVariants as i

-- What begins at a place, whatever it is read as.
pub record Tree : Type 0 where
  pub expression : Expression
  pub expressions : List Expression
  pub operations : List Operation
  pub qualifiers : List Qualifier
  pub statement : Statement
  pub statements : List Statement
  pub actions : List CaseAction

-- past the end
abbrev pub nothing : Tree
nothing = record { expression = e.Literal v.Indet; expressions = []; operations = []; qualifiers = []; statement = st.Null; statements = []; actions = [] }

-- ---- what governs a REPEAT

-- the first, the last value, and the step
abbrev pub increment : List Expression → Option Increment
increment (first ∷ last ∷ []) = Some (record { first = first; last = last; step = None })
increment (first ∷ last ∷ step ∷ _) = Some (record { first = first; last = last; step = Some step })
increment _ = None

abbrev pub condition : List Expression → Option Expression
condition [] = None
condition (x ∷ _) = Some x

-- ---- an instruction, given what begins at each distance behind it

module _ (part : ℕ → Tree) where
  abbrev pub as_expression : Instruction → Expression
  as_expression (i.Literal x) = e.Literal x
  as_expression i.Itself = e.Itself
  as_expression (i.Variable slot) = e.Variable slot
  as_expression (i.Attribute a) = e.Attribute a
  as_expression (i.Constant number) = e.Constant number
  as_expression (i.Population entity) = e.Population entity
  as_expression (i.Call number) = e.Call number (part 0).expressions
  as_expression (i.BuiltIn function) = e.BuiltIn function (part 0).expressions
  as_expression (i.UsedIn role) = e.UsedIn (part 0).expression role
  as_expression (i.Unary operator) = e.Unary operator (part 0).expression
  as_expression (i.Qualified qualifiers) = e.Qualified (part 0).expression (part qualifiers).qualifiers
  as_expression (i.QualifiedVariable slot) = e.Qualified (e.Variable slot) (part 0).qualifiers
  as_expression i.QualifiedItself = e.Qualified e.Itself (part 0).qualifiers
  as_expression (i.QualifiedAttribute a) = e.Qualified (e.Attribute a) (part 0).qualifiers
  as_expression (i.Chain operations) = e.Chain (part 0).expression (part operations).operations
  as_expression (i.Interval low_operator item high_operator high) = e.Interval (roll-Interval (record {
    low = (part 0).expression;
    low_operator = low_operator;
    item = (part item).expression;
    high_operator = high_operator;
    high = (part high).expression;
  }))
  as_expression (i.Query condition) = e.Query (roll-Query (record { source = (part 0).expression; condition = (part condition).expression }))
  as_expression i.Initializer = e.Initializer (part 0).expressions
  as_expression _ = e.Literal v.Indet

  abbrev pub as_expressions : Instruction → List Expression
  as_expressions (i.Item next) = (part 0).expression ∷ (part next).expressions
  as_expressions _ = []

  abbrev pub as_operations : Instruction → List Operation
  as_operations (i.Operation operator next) = roll-Operation (record { operator = operator; right = (part 0).expression }) ∷ (part next).operations
  as_operations (i.OperationBy operator x) = roll-Operation (record { operator = operator; right = e.Literal x }) ∷ (part 0).operations
  as_operations (i.OperationByVariable operator slot) = roll-Operation (record { operator = operator; right = e.Variable slot }) ∷ (part 0).operations
  as_operations _ = []

  abbrev pub as_qualifiers : Instruction → List Qualifier
  as_qualifiers (i.OfAttribute attributes) = q.Attribute attributes ∷ (part 0).qualifiers
  as_qualifiers (i.Group entity) = q.Group entity ∷ (part 0).qualifiers
  as_qualifiers (i.Index next) = q.Index (part 0).expression ∷ (part next).qualifiers
  as_qualifiers (i.Range last next) = q.Range (part 0).expression (part last).expression ∷ (part next).qualifiers
  as_qualifiers _ = []

  abbrev pub as_statement : Instruction → Statement
  as_statement (i.Assignment slot data_type) = st.Assignment slot data_type (part 0).expression
  as_statement (i.Growth slot operator data_type) = st.Assignment slot data_type (e.Chain (e.Variable slot) (roll-Operation (record { operator = operator; right = (part 0).expression }) ∷ []))
  as_statement (i.Case actions) = st.Case (part 0).expression (part actions).actions
  as_statement i.Compound = st.Compound (part 0).statements
  as_statement (i.If then_part else_part) = st.If (part 0).expression (part then_part).statements (part else_part).statements
  as_statement (i.Repeat while_condition until_condition body) = st.Repeat (record {
    increment = increment (part 0).expressions;
    while_condition = condition (part while_condition).expressions;
    until_condition = condition (part until_condition).expressions;
  }) (part body).statements
  as_statement i.Return = st.Return (part 0).expression
  as_statement i.Skip = st.Skip
  as_statement i.Escape = st.Escape
  as_statement _ = st.Null

  abbrev pub as_statements : Instruction → List Statement
  as_statements (i.Item next) = (part 0).statement ∷ (part next).statements
  as_statements _ = []

  abbrev pub as_actions : Instruction → List CaseAction
  as_actions (i.Labels statement next) = roll-CaseAction (record { labels = Some (part 0).expressions; statement = (part statement).statement }) ∷ (part next).actions
  as_actions (i.Otherwise next) = roll-CaseAction (record { labels = None; statement = (part 0).statement }) ∷ (part next).actions
  as_actions _ = []

  abbrev pub node : Instruction → Tree
  node x = record {
    expression = as_expression x;
    expressions = as_expressions x;
    operations = as_operations x;
    qualifiers = as_qualifiers x;
    statement = as_statement x;
    statements = as_statements x;
    actions = as_actions x;
  }

-- ---- lists

-- what begins so far on
abbrev pub at : List Instruction → ℕ → Tree
at [] distance = nothing
at (x ∷ others) zero = node (at others) x
at (x ∷ others) (suc distance) = at others distance

abbrev pub expression_of : List Instruction → Expression
expression_of code = (at code 0).expression

abbrev pub expressions_of : List Instruction → List Expression
expressions_of code = (at code 0).expressions

abbrev pub operations_of : List Instruction → List Operation
operations_of code = (at code 0).operations

abbrev pub qualifiers_of : List Instruction → List Qualifier
qualifiers_of code = (at code 0).qualifiers

abbrev pub statement_of : List Instruction → Statement
statement_of code = (at code 0).statement

abbrev pub statements_of : List Instruction → List Statement
statements_of code = (at code 0).statements

abbrev pub actions_of : List Instruction → List CaseAction
actions_of code = (at code 0).actions
