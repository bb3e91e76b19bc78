-- Expressions (ISO 10303-11:1994, clause 12 and Annex A).
use Rattle.std.specs.Prelude.{ℕ, zero, suc, Bool, ◌&&◌, ◌||◌, if◌then◌else◌, List, [], ◌∷◌, Option, Some, None, Ok}
use Rattle.std.specs.List.{list_any}
use Rattle.text_forms.specs.Forms.{◌>>=◌, ◌>>◌, ◌<$>◌, pure}
use Rattle.ex_tree.specs.declared.kind.TokenKind.{TokenKind}
use Rattle.ex_tree.specs.declared.kind.TokenKind.TheVariants as k
use Rattle.ex_tree.specs.declared.expression.BuiltInFunction.{BuiltInFunction}
use Rattle.ex_tree.specs.declared.expression.BuiltInFunction.TheVariants as f
use Rattle.ex_tree.specs.declared.expression.UnaryOperator.{UnaryOperator}
use Rattle.ex_tree.specs.declared.expression.IntervalOperator.{IntervalOperator}
use Rattle.ex_tree.specs.declared.expression.Interval.{roll-Interval}
use Rattle.ex_tree.specs.declared.expression.Query.{roll-Query}
use Rattle.ex_tree.specs.declared.expression.Qualifier.{Qualifier}
use Rattle.ex_tree.specs.declared.expression.Qualifier.TheVariants as q
use Rattle.ex_tree.specs.declared.expression.Expression.{Expression}
use Rattle.ex_tree.specs.declared.expression.Expression.TheVariants as e
use Rattle.ex_forms.specs.Input.{Parser, Lexemes, same_kind, kind, sees, sees_second, next_is, peek, expect, enter, refuse, name, many, separated, optional}
use Rattle.ex_expressions.specs.declared.operators.Rank.TheVariants as rank
use Rattle.ex_expressions.specs.Operators.{unary_operator, interval_operator, chain, once}
use Rattle.ex_expressions.specs.Literals.{begins_literal, literal, signed_real}
use Rattle.ex_expressions.specs.Levels.{Level}

-- ---- the tokens that choose

abbrev pub built_in_function : TokenKind → Option BuiltInFunction
built_in_function k.Abs = Some f.Abs
built_in_function k.BLength = Some f.BLength
built_in_function k.Exists = Some f.Exists
built_in_function k.HiIndex = Some f.HiIndex
built_in_function k.Length = Some f.Length
built_in_function k.LoIndex = Some f.LoIndex
built_in_function k.Nvl = Some f.Nvl
built_in_function k.Odd = Some f.Odd
built_in_function k.SizeOf = Some f.SizeOf
built_in_function k.TypeOf = Some f.TypeOf
built_in_function k.UsedIn = Some f.UsedIn
built_in_function k.ValueIn = Some f.ValueIn
built_in_function _ = None

-- the tokens that begin an expression
abbrev pub first_tokens : List TokenKind
first_tokens = k.Identifier ∷ k.IntegerLiteral ∷ k.RealLiteral ∷ k.SimpleStringLiteral ∷ k.EncodedStringLiteral ∷ k.BinaryLiteral
    ∷ k.True ∷ k.False ∷ k.Unknown ∷ k.Itself ∷ k.QuestionMark ∷ k.OpenParenthesis ∷ k.OpenBracket ∷ k.OpenBrace ∷ k.Query
    ∷ k.Plus ∷ k.Minus ∷ k.Not ∷ k.Abs ∷ k.BLength ∷ k.Exists ∷ k.HiIndex ∷ k.Length ∷ k.LoIndex ∷ k.Nvl ∷ k.Odd ∷ k.SizeOf
    ∷ k.TypeOf ∷ k.UsedIn ∷ k.ValueIn ∷ []

unfoldable pub begins_expression : Lexemes → Bool
begins_expression s = list_any (same_kind (kind s)) first_tokens

abbrev pub begins_sign : Lexemes → Bool
begins_sign s = sees k.Plus s || sees k.Minus s

abbrev pub begins_signed_real : Lexemes → Bool
begins_signed_real s = begins_sign s && sees_second k.RealLiteral s

abbrev pub begins_qualifier : Lexemes → Bool
begins_qualifier s = sees k.Point s || sees k.Backslash s || sees k.OpenBracket s

-- ---- forms that nest nothing

-- `<` or `<=`, and where it stands
abbrev pub interval_op_by : TokenKind → Option IntervalOperator → Parser (IntervalOperator × ℕ)
interval_op_by token None = refuse
interval_op_by token (Some operator) = (λ t. (operator, t.at)) <$> expect token

unfoldable pub interval_op : Parser (IntervalOperator × ℕ)
interval_op = peek >>= (λ k. interval_op_by k (interval_operator k))

-- `.attribute`
unfoldable pub attribute_qualifier : Parser Qualifier
attribute_qualifier = do
  t ← expect k.Point
  attribute ← name
  pure (q.Attribute t.at attribute)

-- `\entity`
unfoldable pub group_qualifier : Parser Qualifier
group_qualifier = do
  t ← expect k.Backslash
  entity ← name
  pure (q.Group t.at entity)

abbrev pub indexed : ℕ → Expression → Option Expression → Qualifier
indexed at first None = q.Index at first
indexed at first (Some last) = q.Range at first last

abbrev pub qualified : Expression → List Qualifier → Expression
qualified base [] = base
qualified base (first ∷ more) = e.Qualified base (first ∷ more)

-- So many levels are left, and `below` has the forms one level down.
module _ (levels : ℕ) (below : Level) where
  -- ---- primaries

  unfoldable pub index_2 : Parser Expression
  index_2 = expect k.Colon >> below.simple_expression

  -- `[index]` or `[first:last]`
  unfoldable pub index_qualifier : Parser Qualifier
  index_qualifier = do
    t ← enter levels k.OpenBracket
    first ← below.simple_expression
    last ← optional (sees k.Colon) index_2
    expect k.CloseBracket
    pure (indexed t.at first last)

  abbrev pub qualifier_by : TokenKind → Parser Qualifier
  qualifier_by k.Point = attribute_qualifier
  qualifier_by k.Backslash = group_qualifier
  qualifier_by k.OpenBracket = index_qualifier
  qualifier_by _ = refuse

  unfoldable pub qualifier : Parser Qualifier
  qualifier = peek >>= qualifier_by

  -- `(`, one parameter or more, and `)`
  unfoldable pub actual_parameter_list : Parser (List Expression)
  actual_parameter_list = do
    enter levels k.OpenParenthesis
    parameters ← separated k.Comma below.expression
    expect k.CloseParenthesis
    pure parameters

  -- a name, or a call of a function of the schema
  unfoldable pub named : Parser Expression
  named = do
    called ← name
    is_call ← next_is k.OpenParenthesis
    if is_call then e.Call called <$> actual_parameter_list else pure (e.Name called)

  abbrev pub built_in_call_by : TokenKind → Option BuiltInFunction → Parser Expression
  built_in_call_by word None = refuse
  built_in_call_by word (Some function) = do
    t ← expect word
    has_list ← next_is k.OpenParenthesis
    if has_list then e.BuiltIn function t.at <$> actual_parameter_list else pure (e.BuiltIn function t.at [])

  -- a function of the language, with a list of parameters or without
  unfoldable pub built_in_call : Parser Expression
  built_in_call = peek >>= (λ k. built_in_call_by k (built_in_function k))

  abbrev pub qualifiable_factor_by : TokenKind → Parser Expression
  qualifiable_factor_by k.Identifier = named
  qualifiable_factor_by k.Itself = (λ t. e.Itself t.at) <$> expect k.Itself
  qualifiable_factor_by k.QuestionMark = expect k.QuestionMark >> pure e.Indeterminate
  qualifiable_factor_by _ = built_in_call

  unfoldable pub qualifiable_factor : Parser Expression
  qualifiable_factor = peek >>= qualifiable_factor_by

  unfoldable pub qualified_factor : Parser Expression
  qualified_factor = do
    base ← qualifiable_factor
    qualifiers ← many begins_qualifier qualifier
    pure (qualified base qualifiers)

  -- Only what is no literal takes qualifiers.
  unfoldable pub primary : Parser Expression
  primary = λ s. if begins_literal s then (e.Literal <$> literal) s else qualified_factor s

  -- ---- factors

  -- Parentheses leave no node.
  unfoldable pub parenthesized : Parser Expression
  parenthesized = do
    enter levels k.OpenParenthesis
    inside ← below.expression
    expect k.CloseParenthesis
    pure inside

  unfoldable pub operand : Parser Expression
  operand = λ s. if sees k.OpenParenthesis s then parenthesized s else primary s

  -- what a unary operator stands before: a sign there is that of a real
  unfoldable pub unary_operand : Parser Expression
  unary_operand = λ s. if begins_sign s then (e.Literal <$> signed_real) s else operand s

  abbrev pub unary_by : TokenKind → Option UnaryOperator → Parser Expression
  unary_by token None = operand
  unary_by token (Some operator) = do
    t ← expect token
    right ← unary_operand
    pure (e.Unary operator t.at right)

  -- an operand, with a unary operator or without
  unfoldable pub unary : Parser Expression
  unary = peek >>= (λ k. unary_by k (unary_operator k))

  -- A sign that the next token of which is a real is that real's, and no operator.
  unfoldable pub signed : Parser Expression
  signed = λ s. if begins_signed_real s then (e.Literal <$> signed_real) s else unary s

  abbrev pub elements : Parser (List Expression)
  elements = λ s. if sees k.CloseBracket s then Ok ([], s) else separated k.Comma below.expression s

  -- `[`, no element or more, and `]`
  unfoldable pub aggregate_initializer : Parser Expression
  aggregate_initializer = do
    enter levels k.OpenBracket
    found ← elements
    expect k.CloseBracket
    pure (e.Initializer found)

  -- `{ low < item <= high }`
  unfoldable pub interval : Parser Expression
  interval = do
    enter levels k.OpenBrace
    low ← below.simple_expression
    lower ← interval_op
    item ← below.simple_expression
    upper ← interval_op
    high ← below.simple_expression
    expect k.CloseBrace
    pure (e.Interval (roll-Interval (record {
      low = low;
      low_operator = lower.0;
      low_at = lower.1;
      item = item;
      high_operator = upper.0;
      high_at = upper.1;
      high = high;
    })))

  -- `QUERY(variable <* source | condition)`
  unfoldable pub query_expression : Parser Expression
  query_expression = do
    t ← expect k.Query
    enter levels k.OpenParenthesis
    variable ← name
    expect k.QuerySource
    source ← below.simple_expression
    expect k.Bar
    condition ← below.expression
    expect k.CloseParenthesis
    pure (e.Query (roll-Query (record { at = t.at; variable = variable; source = source; condition = condition })))

  abbrev pub simple_factor_by : TokenKind → Parser Expression
  simple_factor_by k.OpenBracket = aggregate_initializer
  simple_factor_by k.OpenBrace = interval
  simple_factor_by k.Query = query_expression
  simple_factor_by _ = signed

  unfoldable pub simple_factor : Parser Expression
  simple_factor = peek >>= simple_factor_by

  -- ---- expressions, by how tightly their operators bind

  abbrev pub factor : Parser Expression
  factor = once rank.Powering simple_factor

  abbrev pub term : Parser Expression
  term = chain rank.Multiplying factor

  abbrev pub simple_expression_with : Parser Expression
  simple_expression_with = chain rank.Adding term

  abbrev pub expression_with : Parser Expression
  expression_with = once rank.Relating simple_expression_with

  abbrev pub level_with : Level
  level_with = record { expression = expression_with; simple_expression = simple_expression_with }

-- No token opens a level below the last.
abbrev pub no_level : Level
no_level = record { expression = refuse; simple_expression = refuse }

-- the forms where so many levels are left
unfoldable pub level : ℕ → Level
level zero = level_with zero no_level
level (suc n) = level_with (suc n) (level n)

-- the forms one level down
abbrev pub below : ℕ → Level
below zero = no_level
below (suc n) = level n

-- an expression, where so many levels are left
abbrev pub expression : ℕ → Parser Expression
expression levels = (level levels).expression

abbrev pub simple_expression : ℕ → Parser Expression
simple_expression levels = (level levels).simple_expression
