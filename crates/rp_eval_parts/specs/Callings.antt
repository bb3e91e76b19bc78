-- What is done with the values of arguments.
use Rattle.std.specs.Prelude.{ℕ, List}
use Rattle.rp_value.specs.declared.value.Value.{Value}
use Rattle.rp_meaning.specs.declared.body.Body.{Body}
use Rattle.rp_meaning.specs.declared.body.Body.TheVariants as b
use Rattle.rp_meaning.specs.BuiltIns.{initializer, size}
use Rattle.rp_meaning.specs.Computations.{Computation}
use Rattle.rp_meaning.specs.Expressions.{costing}

-- a function by its number, where bodies mean this
abbrev pub function : (Body → Computation Value) → ℕ → List Value → Computation Value
function below number = λ values. below (b.Function number values)

abbrev pub initialized : List Value → Computation Value
initialized = λ values. costing (size (initializer values)) (initializer values)
