-- Function values that read the forms that nest.
use Rattle.std.specs.Prelude.{ℕ, Result}
use Rattle.std.specs.declared.alloc.Global.{Global}
use denote.Ref.{MutBor}
use Rattle.plain_data.specs.declared.failure.Failure.{Failure}
use Rattle.ex_tree.specs.declared.fault.ParseFault.{ParseFault}
use Rattle.ex_tree.specs.declared.expression.Expression.{Expression}
use Rattle.ex_forms.specs.Input.{Lexemes}
use Rattle.ex_forms.specs.Nests.{Nests}
use Rattle.ex_expressions.specs.Expressions.{below}

-- where so many levels are left, the two read an expression and a simple expression one level down
pub record NestsBoth (levels : ℕ) (pre_e : Global → MutBor Lexemes → ℕ → Type 0) (post_e : Global → MutBor Lexemes → ℕ → Result Expression (Failure ParseFault) → MutBor Lexemes → Type 0)
    (pre_s : Global → MutBor Lexemes → ℕ → Type 0) (post_s : Global → MutBor Lexemes → ℕ → Result Expression (Failure ParseFault) → MutBor Lexemes → Type 0) : Type 0 where
  pub expressions : Nests Expression levels (below levels).expression pre_e post_e
  pub simple_expressions : Nests Expression levels (below levels).simple_expression pre_s post_s
