-- Parts of expressions and of statements, as lists of instructions have them.
use Rattle.std.specs.Prelude.{◌≡◌, ◌<◌, List, [], ◌∷◌, length}
use Rattle.std.specs.Option.{option_map}
use denote.Ref.{Bor}
use Rattle.rp_code.specs.Denoted as denoted
use Rattle.rp_code.specs.Denoted.{expression_of, expressions_of, statement_of, statements_of}
use Rattle.rp_code.specs.declared.instruction.Instruction.{Instruction}
use Rattle.rp_code.specs.declared.tree.Control.{Control}
use Rattle.rp_code.specs.declared.tree.Expression.{Expression}
use Rattle.rp_code.specs.declared.tree.Increment.{Increment}
use Rattle.rp_code.specs.declared.tree.Interval.{Interval, roll-Interval}
use Rattle.rp_eval.specs.declared.expressions.Arguments.{Arguments}
use Rattle.rp_eval.specs.declared.expressions.Arguments.TheVariants as a
use Rattle.rp_eval.specs.declared.expressions.IntervalEnds.{IntervalEnds}
use Rattle.rp_eval.specs.declared.statements.IncrementParts.{IncrementParts}
use Rattle.rp_eval.specs.declared.statements.RepeatParts.{RepeatParts}

-- A list of expressions or of statements that has a first element, and others after it.
pub record HasFirst (list first others : List Instruction) : Type 0 where
  pub expressions : expressions_of list ≡ expression_of first ∷ expressions_of others
  pub statements : statements_of list ≡ statement_of first ∷ statements_of others
  pub shorter : length first < length list
  pub others_shorter : length others < length list

-- One that has none.
pub record HasNone (list : List Instruction) : Type 0 where
  pub expressions : expressions_of list ≡ []
  pub statements : statements_of list ≡ []

-- an interval with this lower bound
abbrev pub interval_of : Expression → IntervalEnds → Interval
interval_of low x = roll-Interval (record { low = low; low_operator = x.low_operator; item = expression_of x.item.now; high_operator = x.high_operator; high = expression_of x.high.now })

-- The arguments in a list, each of which is shorter.
abbrev pub Counts : List Instruction → Arguments → Type 0
Counts list (a.One x) = (expressions_of list ≡ expression_of x.now ∷ []) × (length x.now < length list)
Counts list (a.Two x y) = (expressions_of list ≡ expression_of x.now ∷ expression_of y.now ∷ []) × ((length x.now < length list) × (length y.now < length list))
Counts list a.Several = Unit {0}

abbrev pub increment_of : IncrementParts → Increment
increment_of x = record { first = expression_of x.first.now; last = expression_of x.last.now; step = option_map (λ (code : Bor (List Instruction)). expression_of code.now) x.step }

-- what governs a REPEAT
abbrev pub control_of : RepeatParts → Control
control_of x = record {
  increment = denoted.increment (expressions_of x.increment.now);
  while_condition = denoted.condition (expressions_of x.while_condition.now);
  until_condition = denoted.condition (expressions_of x.until_condition.now);
}
