-- Function values that run the bodies beneath, and what trees mean where these run.
use Rattle.std.specs.Prelude.{ℕ, List, Result}
use Rattle.std.specs.declared.alloc.Global.{Global}
use denote.Ref.{Bor, MutBor}
use Rattle.rp_value.specs.declared.value.Value.{Value}
use Rattle.rp_meaning.specs.declared.body.Body.{Body}
use Rattle.rp_meaning.specs.declared.counter.Counter.{Counter}
use Rattle.rp_meaning.specs.declared.schema.Schema.{Schema}
use Rattle.rp_meaning.specs.declared.stop.Stop.{Stop}
use Rattle.rp_code.specs.declared.tree.CaseAction.{CaseAction}
use Rattle.rp_code.specs.declared.tree.Expression.{Expression}
use Rattle.rp_code.specs.declared.tree.Interval.{Interval}
use Rattle.rp_code.specs.declared.tree.Operation.{Operation}
use Rattle.rp_code.specs.declared.tree.Qualifier.{Qualifier}
use Rattle.rp_code.specs.declared.tree.Query.{Query}
use Rattle.rp_code.specs.declared.tree.Statement.{Statement}
use Rattle.rp_meaning.specs.Computations.{Computation, Runs}
use Rattle.rp_meaning.specs.Expressions.{World, Meaning, Operating, expression, interval, operation, qualifier, query}
use Rattle.rp_meaning.specs.Levels.{bodies, most_turns}
use Rattle.rp_meaning.specs.Populations.{Instance}
use Rattle.rp_eval.specs.declared.run.Run.{Run}
use Rattle.rp_eval_parts.specs.Serving.{Ready}
use Rattle.rp_meaning.specs.Statements.{Action, Labelled, statements, labelled}

-- what is seen of a schema and a population
abbrev pub world : Schema → List Instance → World
world schema population = record { schema = schema; population = population }

-- what bodies mean where so many may nest
abbrev pub bodies_at : World → ℕ → Body → Computation Value
bodies_at w levels = bodies w levels

-- what expressions and their parts mean there
abbrev pub value_at : World → ℕ → Expression → Meaning
value_at w levels = expression w (bodies w levels)

abbrev pub qualifier_at : World → ℕ → Qualifier → Operating
qualifier_at w levels = qualifier w (bodies w levels)

abbrev pub operation_at : World → ℕ → Operation → Operating
operation_at w levels = operation w (bodies w levels)

abbrev pub interval_at : World → ℕ → Interval → Meaning
interval_at w levels = interval w (bodies w levels)

abbrev pub query_at : World → ℕ → Query → Meaning
query_at w levels = query w (bodies w levels)

-- what statements mean there
abbrev pub action_at : World → ℕ → List Statement → Action
action_at w levels = statements w most_turns (bodies w levels)

-- what actions of a CASE mean there
abbrev pub labelled_at : World → ℕ → CaseAction → Labelled
labelled_at w levels = labelled w most_turns (bodies w levels)

-- of this world, and where so many bodies may nest, the function value runs what bodies mean
pub record RunsBodies {W : Type 0} (seen : W → World) (alloc : Global) (world : Bor W) (levels : ℕ)
    (pre : Global → Bor W → ℕ → MutBor Run → Body → Type 0)
    (post : Global → Bor W → ℕ → MutBor Run → Body → Result Value Stop → MutBor Run → Type 0) : Type 0 where
  pub callable : (run : MutBor Run) (body : Body) → Ready (seen world.now) run.now.memory → pre alloc world levels run body
  pub runs : (old new : MutBor Run) (body : Body) (r : Result Value Stop) → post alloc world levels old body r new
      → Runs (bodies (seen world.now) levels body old.now.counter) r new.now.counter
  pub ready : (old new : MutBor Run) (body : Body) (r : Result Value Stop) → post alloc world levels old body r new
      → Ready (seen world.now) new.now.memory
