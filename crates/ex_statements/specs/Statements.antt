-- Statements, and the tokens that begin one (ISO 10303-11:1994, clause 13).
use Rattle.std.specs.Prelude.{ℕ, zero, suc, ◌-◌, Bool, true, false, if◌then◌else◌, List, []}
use Rattle.text_forms.specs.Forms.{◌>>=◌, ◌>>◌, pure}
use Rattle.ex_tree.specs.declared.kind.TokenKind.{TokenKind}
use Rattle.ex_tree.specs.declared.kind.TokenKind.TheVariants as k
use Rattle.ex_tree.specs.declared.expression.Expression.{Expression}
use Rattle.ex_tree.specs.declared.statement.Increment.{Increment}
use Rattle.ex_tree.specs.declared.statement.RepeatControl.{RepeatControl}
use Rattle.ex_tree.specs.declared.statement.CaseAction.{CaseAction, roll-CaseAction}
use Rattle.ex_tree.specs.declared.statement.Case.{roll-Case}
use Rattle.ex_tree.specs.declared.statement.Statement.{Statement}
use Rattle.ex_tree.specs.declared.statement.Statement.TheVariants as s
use Rattle.ex_forms.specs.Input.{Parser, Lexemes, kind, sees, peek, expect, enter, eat, refuse, name, many, some, separated, optional}
use Rattle.ex_expressions.specs.Expressions.{expression, simple_expression, begins_expression}
use Rattle.ex_statements.specs.declared.place.Place.{Place}

-- ---- where a statement begins

-- RETURN stands in functions alone, SKIP and ESCAPE in a REPEAT alone
abbrev pub begins_by : Place → TokenKind → Bool
begins_by place k.Identifier = true
begins_by place k.Case = true
begins_by place k.Begin = true
begins_by place k.Escape = place.in_repeat
begins_by place k.If = true
begins_by place k.Semicolon = true
begins_by place k.Repeat = true
begins_by place k.Return = place.in_function
begins_by place k.Skip = place.in_repeat
begins_by place _ = false

abbrev pub begins_statement : Place → Lexemes → Bool
begins_statement place i = begins_by place (kind i)

-- ---- the control of a REPEAT

-- `BY` and the increment
unfoldable pub increment : ℕ → Parser Expression
increment levels = expect k.By >> simple_expression levels

unfoldable pub increment_control : ℕ → Parser Increment
increment_control levels = do
  variable ← name
  expect k.Becomes
  bound_1 ← simple_expression levels
  expect k.To
  bound_2 ← simple_expression levels
  step ← optional (sees k.By) (increment levels)
  pure (record { variable = variable; first = bound_1; last = bound_2; step = step })

-- the condition after this word
unfoldable pub condition : TokenKind → ℕ → Parser Expression
condition word levels = expect word >> expression levels

unfoldable pub repeat_control : ℕ → Parser RepeatControl
repeat_control levels = do
  increment ← optional (sees k.Identifier) (increment_control levels)
  while_condition ← optional (sees k.While) (condition k.While levels)
  until_condition ← optional (sees k.Until) (condition k.Until levels)
  pure (record { increment = increment; while_condition = while_condition; until_condition = until_condition })

-- ---- statements that hold no others

unfoldable pub assignment_stmt : ℕ → Parser Statement
assignment_stmt levels = do
  variable ← name
  expect k.Becomes
  value ← expression levels
  expect k.Semicolon
  pure (s.Assignment variable value)

unfoldable pub escape_stmt : Parser Statement
escape_stmt = do
  expect k.Escape
  expect k.Semicolon
  pure s.Escape

unfoldable pub null_stmt : Parser Statement
null_stmt = do
  expect k.Semicolon
  pure s.Null

unfoldable pub return_stmt : ℕ → Parser Statement
return_stmt levels = do
  word ← expect k.Return
  enter levels k.OpenParenthesis
  value ← expression (levels - 1)
  expect k.CloseParenthesis
  expect k.Semicolon
  pure (s.Return word.at value)

unfoldable pub skip_stmt : Parser Statement
skip_stmt = do
  expect k.Skip
  expect k.Semicolon
  pure s.Skip

-- ---- statements that hold others

-- A statement that stands at `place`, where so many levels are left; `below` reads a statement one level down.
module _ (place : Place) (levels : ℕ) (below : Place → Parser Statement) where
  -- one statement or more, one level down
  abbrev pub inner_statements : Place → Parser (List Statement)
  inner_statements inner_place = some (begins_statement inner_place) (below inner_place)

  abbrev pub case_label : Parser Expression
  case_label = expression (levels - 1)

  unfoldable pub case_action : Parser CaseAction
  case_action = do
    labels ← separated k.Comma case_label
    expect k.Colon
    statement ← below place
    pure (roll-CaseAction (record { labels = labels; statement = statement }))

  -- `OTHERWISE`, and its statement
  unfoldable pub otherwise_action : Parser Statement
  otherwise_action = do
    expect k.Otherwise
    expect k.Colon
    below place

  unfoldable pub case_stmt : Parser Statement
  case_stmt = do
    word ← enter levels k.Case
    selector ← expression (levels - 1)
    expect k.Of
    actions ← many begins_expression case_action
    otherwise ← optional (sees k.Otherwise) otherwise_action
    expect k.EndCase
    expect k.Semicolon
    pure (s.Case (roll-Case (record { at = word.at; selector = selector; actions = actions; otherwise = otherwise })))

  unfoldable pub compound_stmt : Parser Statement
  compound_stmt = do
    enter levels k.Begin
    found ← inner_statements place
    expect k.End
    expect k.Semicolon
    pure (s.Compound found)

  -- the statements after `ELSE`: none where it is not there
  unfoldable pub alternative : Parser (List Statement)
  alternative = do
    is_there ← eat k.Else
    if is_there then inner_statements place else pure []

  unfoldable pub if_stmt : Parser Statement
  if_stmt = do
    enter levels k.If
    condition ← expression (levels - 1)
    expect k.Then
    then_part ← inner_statements place
    else_part ← alternative
    expect k.EndIf
    expect k.Semicolon
    pure (s.If condition then_part else_part)

  -- what follows the control of a REPEAT
  unfoldable pub repeat_body : Parser (List Statement)
  repeat_body = do
    expect k.Semicolon
    found ← inner_statements (record place { in_repeat = true })
    expect k.EndRepeat
    expect k.Semicolon
    pure found

  unfoldable pub repeat_stmt : Parser Statement
  repeat_stmt = do
    enter levels k.Repeat
    control ← repeat_control (levels - 1)
    found ← repeat_body
    pure (s.Repeat control found)

  abbrev pub stmt_by : TokenKind → Parser Statement
  stmt_by k.Identifier = assignment_stmt levels
  stmt_by k.Case = case_stmt
  stmt_by k.Begin = compound_stmt
  stmt_by k.Escape = if place.in_repeat then escape_stmt else refuse
  stmt_by k.If = if_stmt
  stmt_by k.Semicolon = null_stmt
  stmt_by k.Repeat = repeat_stmt
  stmt_by k.Return = if place.in_function then return_stmt levels else refuse
  stmt_by k.Skip = if place.in_repeat then skip_stmt else refuse
  stmt_by _ = refuse

  unfoldable pub stmt : Parser Statement
  stmt = peek >>= stmt_by

-- where so many levels of nesting are left
unfoldable pub statement_at : ℕ → Place → Parser Statement
statement_at zero place = stmt place zero (λ _. refuse)
statement_at (suc levels) place = stmt place (suc levels) (statement_at levels)

-- a statement one level down
abbrev pub below : ℕ → Place → Parser Statement
below zero = λ _. refuse
below (suc levels) = statement_at levels

-- one statement or more, where so many levels of nesting are left
unfoldable pub statements : Place → ℕ → Parser (List Statement)
statements place levels = some (begins_statement place) (statement_at levels place)
