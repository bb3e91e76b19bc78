-- What bodies mean, of which so many may nest.
use Rattle.std.specs.Prelude.{ℕ, zero, suc, ◌-◌, ◌^◌, List, [], ◌∷◌, ◌++◌, replicate, Option, Some, None, slice_get}
use Rattle.ex_named.specs.declared.expression.NamedDataType.{NamedDataType}
use Rattle.rp_value.specs.declared.value.Value.{Value}
use Rattle.rp_value.specs.declared.value.Value.TheVariants as v
use Rattle.rp_meaning.specs.declared.body.Body.{Body}
use Rattle.rp_meaning.specs.declared.body.Body.TheVariants as b
use Rattle.rp_meaning.specs.declared.schema.Algorithm.{Algorithm}
use Rattle.rp_meaning.specs.declared.schema.Function.{Function}
use Rattle.rp_meaning.specs.declared.schema.Given.{Given}
use Rattle.rp_meaning.specs.Attributes.{derivation}
use Rattle.rp_meaning.specs.Computations.{Computation, pure, nested, ◌>>=◌, no_more}
use Rattle.rp_meaning.specs.Expressions.{Scope, World}
use Rattle.rp_meaning.specs.Statements.{After, Returned, algorithm, given_value}
use Rattle.rp_meaning.specs.Types.{given}

-- SELF, and no variables
abbrev pub alone : Value → Scope
alone itself = record { itself = itself; variables = [] }

-- no SELF; so many locals, without values, behind parameters
abbrev pub with_locals : List Value → Algorithm → Scope
with_locals arguments x = record { itself = v.Indet; variables = arguments ++ replicate x.locals v.Indet }

module _ (world : World) (turns : ℕ) where
  -- the arguments of a function, by the types of its parameters
  abbrev pub parameters_given : List NamedDataType → List Value → List Value
  parameters_given (data_type ∷ types) (x ∷ arguments) = given world.schema.types data_type x ∷ parameters_given types arguments
  parameters_given _ _ = []

  -- `?` where a function ends without RETURN
  abbrev pub result_by : NamedDataType → After → Value
  result_by data_type (Returned x) = given world.schema.types data_type x
  result_by data_type _ = v.Indet

  abbrev pub given_by : (Body → Computation Value) → Option Given → Value → Computation Value
  given_by below None itself = pure v.Indet
  given_by below (Some x) itself = given_value world turns below x (alone itself)

  abbrev pub called : (Body → Computation Value) → Option Function → List Value → Computation Value
  called below None arguments = pure v.Indet
  called below (Some f) arguments =
      algorithm world turns below f.algorithm (with_locals (parameters_given f.parameters arguments) f.algorithm) >>= (λ a. pure (result_by f.result a))

  abbrev pub body_with : (Body → Computation Value) → Body → Computation Value
  body_with below (b.Derived entity place instance) = given_by below (derivation world.schema entity place) (v.Inst instance)
  body_with below (b.Constant number) = given_by below (slice_get world.schema.constants number) v.Indet
  body_with below (b.Function number arguments) = called below (slice_get world.schema.functions number) arguments

  -- a body, beneath which so many less one may nest
  unfoldable pub level : ℕ → Body → Computation Value
  level zero body = no_more
  level (suc n) body = nested (body_with (level n) body)

-- Each REPEAT makes at most so many turns: as each takes a step, no limit of steps lets it reach them.
unfoldable pub most_turns : ℕ
most_turns = 2 ^ 64 - 1

abbrev pub bodies : World → ℕ → Body → Computation Value
bodies world levels = level world most_turns levels
