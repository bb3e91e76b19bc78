-- How the turns of an increment begin.
use Rattle.std.specs.Prelude.{Option}
use Rattle.rp_code.specs.declared.tree.Expression.{Expression}
use Rattle.rp_code.specs.declared.tree.Increment.{Increment}
use Rattle.rp_meaning.specs.Computations.{Computation, pure, ◌>>=◌}
use Rattle.rp_meaning.specs.Expressions.{Meaning, Scope}
use Rattle.rp_meaning.specs.Statements.{Running, running, step_value}

-- an increment before its first turn, if there is one
abbrev pub begins : (Expression → Meaning) → Increment → Scope → Computation (Option Running)
begins value i s = value i.first s >>= (λ a. value i.last s >>= (λ b. step_value value i.step s >>= (λ c. pure (running a b c))))
