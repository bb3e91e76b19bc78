-- The forms that nest, one level of nesting down.
use Rattle.ex_tree.specs.declared.expression.Expression.{Expression}
use Rattle.ex_forms.specs.Input.{Parser}

pub record Level : Type 0 where
  pub expression : Parser Expression
  pub simple_expression : Parser Expression
