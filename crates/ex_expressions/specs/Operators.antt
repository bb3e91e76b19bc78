-- Operators and the operands between which they stand (ISO 10303-11:1994, 12.1 to 12.4).
use Rattle.std.specs.Prelude.{Bool, if◌then◌else◌, List, [], ◌∷◌, Option, Some, None, is_some, Ok}
use Rattle.text_forms.specs.Forms.{◌>>=◌, ◌<$>◌, pure}
use Rattle.ex_tree.specs.declared.kind.TokenKind.{TokenKind}
use Rattle.ex_tree.specs.declared.kind.TokenKind.TheVariants as k
use Rattle.ex_tree.specs.declared.expression.BinaryOperator.{BinaryOperator}
use Rattle.ex_tree.specs.declared.expression.BinaryOperator.TheVariants as op
use Rattle.ex_tree.specs.declared.expression.UnaryOperator.{UnaryOperator}
use Rattle.ex_tree.specs.declared.expression.UnaryOperator.TheVariants as unary
use Rattle.ex_tree.specs.declared.expression.IntervalOperator.{IntervalOperator}
use Rattle.ex_tree.specs.declared.expression.IntervalOperator.TheVariants as interval
use Rattle.ex_tree.specs.declared.expression.Operation.{Operation, roll-Operation}
use Rattle.ex_tree.specs.declared.expression.Expression.{Expression}
use Rattle.ex_tree.specs.declared.expression.Expression.TheVariants as e
use Rattle.ex_forms.specs.Input.{Parser, Lexemes, kind, peek, expect, refuse, many}
use Rattle.ex_expressions.specs.declared.operators.Rank.{Rank}
use Rattle.ex_expressions.specs.declared.operators.Rank.TheVariants as rank

-- ---- the operators, by how tightly they bind

abbrev pub powering : TokenKind → Option BinaryOperator
powering k.Power = Some op.Power
powering _ = None

abbrev pub multiplication_like : TokenKind → Option BinaryOperator
multiplication_like k.Star = Some op.Multiply
multiplication_like k.Slash = Some op.Divide
multiplication_like k.Div = Some op.Div
multiplication_like k.Mod = Some op.Mod
multiplication_like k.And = Some op.And
multiplication_like _ = None

abbrev pub add_like : TokenKind → Option BinaryOperator
add_like k.Plus = Some op.Add
add_like k.Minus = Some op.Subtract
add_like k.Or = Some op.Or
add_like k.Xor = Some op.Xor
add_like _ = None

abbrev pub relation : TokenKind → Option BinaryOperator
relation k.Less = Some op.Less
relation k.Greater = Some op.Greater
relation k.LessEqual = Some op.LessEqual
relation k.GreaterEqual = Some op.GreaterEqual
relation k.NotEqual = Some op.NotEqual
relation k.Equals = Some op.Equal
relation k.InstanceNotEqual = Some op.InstanceNotEqual
relation k.InstanceEqual = Some op.InstanceEqual
relation k.In = Some op.In
relation _ = None

abbrev pub operator_of : Rank → TokenKind → Option BinaryOperator
operator_of rank.Powering = powering
operator_of rank.Multiplying = multiplication_like
operator_of rank.Adding = add_like
operator_of rank.Relating = relation

abbrev pub unary_operator : TokenKind → Option UnaryOperator
unary_operator k.Plus = Some unary.Plus
unary_operator k.Minus = Some unary.Minus
unary_operator k.Not = Some unary.Not
unary_operator _ = None

abbrev pub interval_operator : TokenKind → Option IntervalOperator
interval_operator k.Less = Some interval.Less
interval_operator k.LessEqual = Some interval.LessEqual
interval_operator _ = None

-- ---- operands with operators between

-- the next token is an operator of this rank
abbrev pub continues : Rank → Lexemes → Bool
continues rank s = is_some (operator_of rank (kind s))

abbrev pub operation_by : Parser Expression → TokenKind → Option BinaryOperator → Parser Operation
operation_by operand token None = refuse
operation_by operand token (Some operator) = do
  t ← expect token
  right ← operand
  pure (roll-Operation (record { operator = operator; at = t.at; right = right }))

-- an operator of this rank and the operand on its right
unfoldable pub operation : Rank → Parser Expression → Parser Operation
operation rank operand = peek >>= (λ k. operation_by operand k (operator_of rank k))

abbrev pub chained : Expression → List Operation → Expression
chained first [] = first
chained first (next ∷ more) = e.Chain first (next ∷ more)

-- operands with operators of one rank between, from left to right
unfoldable pub chain : Rank → Parser Expression → Parser Expression
chain rank operand = do
  first ← operand
  more ← many (continues rank) (operation rank operand)
  pure (chained first more)

-- one operand, or two with an operator of this rank between
unfoldable pub once : Rank → Parser Expression → Parser Expression
once rank operand = do
  first ← operand
  λ s. if continues rank s then ((λ next. chained first (next ∷ [])) <$> operation rank operand) s else Ok (first, s)
