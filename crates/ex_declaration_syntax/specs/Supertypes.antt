-- What SUPERTYPE OF says of an entity's subtypes (ISO 10303-11:1994, 9.2.5).
use Rattle.std.specs.Prelude.{ℕ, zero, suc, List, [], ◌∷◌}
use Rattle.text_forms.specs.Forms.{◌>>=◌, ◌>>◌, ◌<$>◌, pure}
use Rattle.ex_tree.specs.declared.kind.TokenKind.{TokenKind}
use Rattle.ex_tree.specs.declared.kind.TokenKind.TheVariants as k
use Rattle.ex_tree.specs.declared.declaration.SupertypeExpression.{SupertypeExpression}
use Rattle.ex_tree.specs.declared.declaration.SupertypeExpression.TheVariants as s
use Rattle.ex_forms.specs.Input.{Parser, peek, expect, enter, separated, refuse, name}

-- an operand that is alone is itself the expression
abbrev pub joined : (List SupertypeExpression → SupertypeExpression) → List SupertypeExpression → SupertypeExpression
joined join (operand ∷ []) = operand
joined join operands = join operands

-- So many levels are left, and `inner` reads an expression one level down.
module _ (levels : ℕ) (inner : Parser SupertypeExpression) where
  unfoldable pub one_of : Parser SupertypeExpression
  one_of = do
    expect k.OneOf
    enter levels k.OpenParenthesis
    parts ← separated k.Comma inner
    expect k.CloseParenthesis
    pure (s.OneOf parts)

  unfoldable pub parenthesized : Parser SupertypeExpression
  parenthesized = do
    enter levels k.OpenParenthesis
    expression ← inner
    expect k.CloseParenthesis
    pure expression

  abbrev pub supertype_term_by : TokenKind → Parser SupertypeExpression
  supertype_term_by k.Identifier = s.Entity <$> name
  supertype_term_by k.OneOf = one_of
  supertype_term_by k.OpenParenthesis = parenthesized
  supertype_term_by _ = refuse

  unfoldable pub supertype_term : Parser SupertypeExpression
  supertype_term = peek >>= supertype_term_by

  unfoldable pub supertype_factor : Parser SupertypeExpression
  supertype_factor = joined s.And <$> separated k.And supertype_term

  unfoldable pub supertype_expression_over : Parser SupertypeExpression
  supertype_expression_over = joined s.AndOr <$> separated k.AndOr supertype_factor

-- ---- expressions at any depth

unfoldable pub supertype_expression : ℕ → Parser SupertypeExpression
supertype_expression zero = supertype_expression_over zero refuse
supertype_expression (suc n) = supertype_expression_over (suc n) (supertype_expression n)

-- the expression one level down
abbrev pub below : ℕ → Parser SupertypeExpression
below zero = refuse
below (suc n) = supertype_expression n
