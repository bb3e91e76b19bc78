-- The fault that is told of statements, by recursion on the tree (ISO 10303-11:1994, clause 13).
use Rattle.std.specs.Prelude.{ℕ, Bool, true, ◌&&◌, List, [], ◌∷◌, ◌++◌, map, Option, Some, None, slice_index_or, if◌then◌else◌}
use Rattle.ex_named.specs.declared.statement.NamedIncrement.{NamedIncrement}
use Rattle.ex_named.specs.declared.statement.NamedRepeatControl.{NamedRepeatControl}
use Rattle.ex_named.specs.declared.expression.NamedExpression.{NamedExpression}
use Rattle.ex_named.specs.declared.statement.NamedStatement.{NamedStatement}
use Rattle.ex_named.specs.declared.statement.NamedStatement.TheFolds.{fold-NamedStatement}
use Rattle.ex_named.specs.declared.statement.NamedStatement.TheOpen.{NamedStatement-F, NamedCaseAction-F, NamedCase-F}
use Rattle.ex_kinds.specs.declared.fault.TypeFault.{TypeFault}
use Rattle.ex_kinds.specs.declared.fault.TypeFaultKind.{TypeFaultKind}
use Rattle.ex_kinds.specs.declared.fault.TypeFaultKind.TheVariants.{Assign}
use Rattle.ex_kinds.specs.declared.kind.Sort.TheVariants as k
use Rattle.ex_kinds.specs.declared.typed.Typed.{Typed}
use Rattle.ex_kinds.specs.Faults.{either, fault_at}
use Rattle.ex_kinds.specs.Kinds.{Kinds, itself}
use Rattle.ex_operators.specs.Fitting.{fits, is_integer}
use Rattle.ex_operators.specs.Operators.{case_fault}
use Rattle.ex_typing.specs.Expressions.{Known, TypingScope, within, TypedList, expression, typed_expression, each}

abbrev pub Told : Type 0
Told = Option TypeFault

abbrev pub TypedStatement : Type 0
TypedStatement = TypingScope → Told

-- what the labels may be, and the fault of the action
abbrev pub TypedCaseAction : Type 0
TypedCaseAction = TypingScope → TypedList

abbrev pub told_after : TypingScope → Told → List TypedStatement → Told
told_after s found [] = found
told_after s found (x ∷ xs) = told_after s (either found (x s)) xs

-- of several
abbrev pub told_of : TypingScope → List TypedStatement → Told
told_of s = told_after s None

abbrev pub assign_unless : Bool → ℕ → Told
assign_unless fine at = if fine then None else fault_at Assign at

-- where the conditions and the statements of a REPEAT stand: its variable is INTEGER
abbrev pub in_turn : TypingScope → Option NamedIncrement → TypingScope
in_turn s None = s
in_turn s (Some increment) = within s (itself k.Integer ∷ [])

abbrev pub fault_by : Option TypeFaultKind → ℕ → Told
fault_by None at = None
fault_by (Some kind) at = fault_at kind at

module _ (schema : Known) where
  -- a value that is given to a place of these kinds, whose name stands there
  abbrev pub given_to : Kinds → ℕ → Typed → Told
  given_to place at value = either value.fault (assign_unless (fits schema.types value.kinds place) at)

  unfoldable pub assigned : TypingScope → Kinds → ℕ → NamedExpression → Told
  assigned s place at value = given_to place at (expression schema s value)

  abbrev pub condition : TypingScope → Option NamedExpression → Told
  condition s None = None
  condition s (Some x) = (expression schema s x).fault

  -- ---- what governs a REPEAT

  abbrev pub step_is_integer : TypingScope → Option NamedExpression → Bool
  step_is_integer s None = true
  step_is_integer s (Some x) = is_integer schema.types (expression schema s x).kinds

  abbrev pub are_integers : TypingScope → NamedIncrement → Bool
  are_integers s i = is_integer schema.types (expression schema s i.first).kinds && is_integer schema.types (expression schema s i.last).kinds && step_is_integer s i.step

  unfoldable pub increment : TypingScope → NamedIncrement → Told
  increment s i = either (either (either (expression schema s i.first).fault (expression schema s i.last).fault) (condition s i.step))
      (assign_unless (are_integers s i) i.at)

  abbrev pub optional_increment : TypingScope → Option NamedIncrement → Told
  optional_increment s None = None
  optional_increment s (Some i) = increment s i

  unfoldable pub repeat_control : TypingScope → NamedRepeatControl → Told
  repeat_control s control = either (either (optional_increment s control.increment) (condition (in_turn s control.increment) control.while_condition))
      (condition (in_turn s control.increment) control.until_condition)

  -- ---- CASE

  abbrev pub and_action : TypedList → TypedList → TypedList
  and_action found next = (found.0 ++ next.0, either found.1 next.1)

  abbrev pub actions_after : TypingScope → TypedList → List TypedCaseAction → TypedList
  actions_after s found [] = found
  actions_after s found (a ∷ others) = actions_after s (and_action found (a s)) others

  abbrev pub case_told : ℕ → Typed → TypedList → Told → Told
  case_told at selector actions otherwise = either (either (either selector.fault actions.1) otherwise) (fault_by (case_fault schema.types selector.kinds actions.0) at)

  abbrev pub otherwise_told : TypingScope → Option TypedStatement → Told
  otherwise_told s None = None
  otherwise_told s (Some x) = x s

  -- ---- one layer of each tree, given what is told of its parts

  abbrev pub statement_layer : NamedStatement-F TypedStatement TypedStatement TypedCaseAction → TypedStatement
  statement_layer NamedStatement-F.Null = λ s. None
  statement_layer (NamedStatement-F.Assignment slot at value) = λ s. assigned s (slice_index_or s.variables slot []) at value
  statement_layer (NamedStatement-F.Case case) = case
  statement_layer (NamedStatement-F.Compound statements) = λ s. told_of s statements
  statement_layer NamedStatement-F.Escape = λ s. None
  statement_layer (NamedStatement-F.If test then_part else_part) = λ s. either (either (expression schema s test).fault (told_of s then_part)) (told_of s else_part)
  statement_layer (NamedStatement-F.Repeat control statements) = λ s. either (repeat_control s control) (told_of (in_turn s control.increment) statements)
  statement_layer (NamedStatement-F.Return at value) = λ s. assigned s s.result at value
  statement_layer NamedStatement-F.Skip = λ s. None

  abbrev pub and_statement : TypedList → Told → TypedList
  and_statement labels statement = (labels.0, either labels.1 statement)

  abbrev pub case_action_layer : NamedCaseAction-F TypedStatement TypedStatement TypedCaseAction → TypedCaseAction
  case_action_layer a = λ s. and_statement (each s (map (typed_expression schema) a.labels)) (a.statement s)

  abbrev pub case_layer : NamedCase-F TypedStatement TypedStatement TypedCaseAction → TypedStatement
  case_layer c = λ s. case_told c.at (expression schema s c.selector) (actions_after s ([], None) c.actions) (otherwise_told s c.otherwise)

  -- ---- whole trees

  unfoldable pub typed_statement : NamedStatement → TypedStatement
  typed_statement = fold-NamedStatement TypedStatement TypedStatement TypedCaseAction statement_layer case_layer case_action_layer

  abbrev pub statement : TypingScope → NamedStatement → Told
  statement s x = typed_statement x s

  abbrev pub statements : TypingScope → List NamedStatement → Told
  statements s list = told_of s (map typed_statement list)
