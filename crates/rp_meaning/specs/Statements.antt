-- What statements mean, by recursion on the tree (ISO 10303-11:1994, clause 13).
use Rattle.std.specs.Prelude.{ℕ, zero, suc, ◌+◌, ◌-◌, ◌||◌, ℤ, pos, int_lt, Bool, true, false, List, [], ◌∷◌, map, take, length, Option, Some, None, slice_set, if◌then◌else◌}
use Rattle.rp_value.specs.declared.value.Value.{Value}
use Rattle.rp_value.specs.declared.value.Value.TheVariants as v
use Rattle.rp_meaning.specs.declared.body.Body.{Body}
use Rattle.rp_meaning.specs.declared.schema.Given.{Given}
use Rattle.rp_meaning.specs.declared.schema.Algorithm.{Algorithm}
use Rattle.rp_meaning.specs.declared.schema.Initial.{Initial}
use Rattle.rp_code.specs.declared.tree.Expression.{Expression}
use Rattle.rp_code.specs.declared.tree.CaseAction.{CaseAction}
use Rattle.rp_code.specs.declared.tree.Control.{Control}
use Rattle.rp_code.specs.declared.tree.Increment.{Increment}
use Rattle.rp_code.specs.declared.tree.Statement.{Statement}
use Rattle.rp_code.specs.declared.tree.Statement.TheFolds.{fold-Statement, fold-CaseAction}
use Rattle.rp_code.specs.declared.tree.Statement.TheOpen.{Statement-F, CaseAction-F}
use Rattle.rp_meaning.specs.Bare.{is_true, integer_of}
use Rattle.rp_meaning.specs.Computations.{Computation, pure, steps, ◌>>=◌, ◌>>◌, no_more}
use Rattle.rp_meaning.specs.Expressions.{Scope, World, Meaning, expression, with_variable}
use Rattle.rp_meaning.specs.Operators.{equal, sum}
use Rattle.rp_meaning.specs.Types.{given}

-- How a statement ends.
pub data After : Type 0 where
  Next : Scope → After
  Skipped : Scope → After
  Escaped : Scope → After
  Returned : Value → After

abbrev pub Action : Type 0
Action = Scope → Computation After

abbrev pub assigned : Scope → ℕ → Value → Scope
assigned s slot x = record { itself = s.itself; variables = slice_set s.variables slot x }

abbrev pub going_on : Action → After → Computation After
going_on next (Next s) = next s
going_on next a = pure a

abbrev pub one_by_one : Scope → List Action → Computation After
one_by_one s [] = pure (Next s)
one_by_one s (x ∷ others) = x s >>= going_on (λ t. one_by_one t others)

-- ---- REPEAT

-- How a turn of a REPEAT ends: another may follow, or the REPEAT ends.
pub data Turn : Type 0 where
  Again : Scope → Turn
  Over : After → Turn

-- what is asked before or after a turn; of nothing the answer is given
abbrev pub asked : (Expression → Meaning) → Bool → Option Expression → Scope → Computation Bool
asked value none None s = pure none
asked value none (Some x) s = value x s >>= (λ a. pure (is_true a))

-- another turn follows, unless it stops there
abbrev pub unless : Scope → Bool → Turn
unless s stops = if stops then Over (Next s) else Again s

abbrev pub turned : (Scope → Computation Bool) → After → Computation Turn
turned until (Next s) = until s >>= (λ stops. pure (unless s stops))
turned until (Skipped s) = until s >>= (λ stops. pure (unless s stops))
turned until (Escaped s) = pure (Over (Next s))
turned until (Returned x) = pure (Over (Returned x))

abbrev pub turn : (Expression → Meaning) → Control → Action → Scope → Computation Turn
turn value control body s = asked value true control.while_condition s
    >>= (λ goes. if goes then body s >>= turned (asked value false control.until_condition) else pure (Over (Next s)))

-- An increment before a turn: the value of its variable, which is `?` once that leaves 64 bits, and its last value and its step.
pub record Running : Type 0 where
  pub at : Value
  pub last : ℤ
  pub step : ℤ

abbrev pub is_past_at : Option ℤ → ℤ → ℤ → Bool
is_past_at (Some n) last step = if int_lt (pos 0) step then int_lt last n else int_lt n last
is_past_at None last step = true

abbrev pub is_past : Running → Bool
is_past r = is_past_at (integer_of r.at) r.last r.step

-- of 0 there is no turn
abbrev pub running_by : ℤ → ℤ → ℤ → Option Running
running_by first last step = if int_lt (pos 0) step || int_lt step (pos 0) then Some (record { at = v.Int first; last = last; step = step }) else None

abbrev pub running_of : Option ℤ → Option ℤ → Option ℤ → Option Running
running_of (Some first) (Some last) (Some step) = running_by first last step
running_of _ _ _ = None

abbrev pub running : Value → Value → Value → Option Running
running first last step = running_of (integer_of first) (integer_of last) (integer_of step)

abbrev pub advanced_by : Running → Running
advanced_by r = record { at = sum r.at (v.Int r.step); last = r.last; step = r.step }

abbrev pub advanced : Option Running → Option Running
advanced None = None
advanced (Some r) = Some (advanced_by r)

-- the last variable has this value
abbrev pub with_last : Scope → Value → Scope
with_last s x = assigned s (length s.variables - 1) x

-- what a turn starts with, if there is one more
abbrev pub started : Option Running → Scope → Option Scope
started None s = Some s
started (Some r) s = if is_past r then None else Some (with_last s r.at)

abbrev pub again : Action → Turn → Computation After
again next (Again s) = next s
again next (Over a) = pure a

abbrev pub from_start : (Scope → Computation Turn) → Action → Scope → Option Scope → Computation After
from_start turns next s None = pure (Next s)
from_start turns next s (Some t) = turns t >>= again next

-- at most so many turns
unfoldable pub repeated : ℕ → (Scope → Computation Turn) → Option Running → Action
repeated zero turns r s = no_more
repeated (suc n) turns r s = from_start turns (repeated n turns (advanced r)) s (started r s)

abbrev pub without_last : Scope → Scope
without_last s = record { itself = s.itself; variables = take (length s.variables - 1) s.variables }

-- how a REPEAT ends whose variable is closed
abbrev pub closed : After → After
closed (Next s) = Next (without_last s)
closed (Skipped s) = Skipped (without_last s)
closed (Escaped s) = Escaped (without_last s)
closed (Returned x) = Returned x

abbrev pub counted : ℕ → (Scope → Computation Turn) → Option Running → Action
counted turns one None s = pure (Next s)
counted turns one (Some r) s = repeated turns one (Some r) (with_variable s v.Indet) >>= (λ a. pure (closed a))

abbrev pub step_value : (Expression → Meaning) → Option Expression → Scope → Computation Value
step_value value None s = pure (v.Int (pos 1))
step_value value (Some x) s = value x s

abbrev pub repeats : ℕ → (Expression → Meaning) → (Scope → Computation Turn) → Option Increment → Action
repeats turns value one None s = repeated turns one None s
repeats turns value one (Some i) s = value i.first s >>= (λ a. value i.last s >>= (λ b. step_value value i.step s >>= (λ c. counted turns one (running a b c) s)))

-- ---- CASE

abbrev pub any_equal : (Expression → Meaning) → Value → List Expression → Scope → Computation Bool
any_equal value a [] s = pure false
any_equal value a (x ∷ others) s = value x s >>= (λ b. if is_true (equal a b) then pure true else any_equal value a others s)

-- of OTHERWISE each value is one
abbrev pub is_hit : (Expression → Meaning) → Value → Option (List Expression) → Scope → Computation Bool
is_hit value a None s = pure true
is_hit value a (Some labels) s = any_equal value a labels s

abbrev pub Labelled : Type 0
Labelled = Option (List Expression) × Action

-- the first action of which a label is equal
abbrev pub matched : (Expression → Meaning) → Value → List Labelled → Action
matched value a [] s = pure (Next s)
matched value a (x ∷ others) s = is_hit value a x.0 s >>= (λ hit. if hit then x.1 s else matched value a others s)

-- ---- locals

-- as many variables from a slot on have this value
abbrev pub all_assigned : ℕ → ℕ → Value → Scope → Scope
all_assigned slot zero x s = s
all_assigned slot (suc n) x s = all_assigned (slot + 1) n x (assigned s slot x)

module _ (world : World) (turns : ℕ) (below : Body → Computation Value) where
  abbrev pub value : Expression → Scope → Computation Value
  value = expression world below

  -- of an expression, by the type with which it is declared
  abbrev pub given_value : Given → Scope → Computation Value
  given_value x s = value x.value s >>= (λ a. pure (given world.schema.types x.data_type a))

  abbrev pub statement_layer : Statement-F Action Labelled → Action
  statement_layer Statement-F.Null = λ s. steps 1 >> pure (Next s)
  statement_layer (Statement-F.Assignment slot data_type x) = λ s. steps 1 >> (value x s >>= (λ a. pure (Next (assigned s slot (given world.schema.types data_type a)))))
  statement_layer (Statement-F.Case selector actions) = λ s. steps 1 >> (value selector s >>= (λ a. matched value a actions s))
  statement_layer (Statement-F.Compound statements) = λ s. steps 1 >> one_by_one s statements
  statement_layer Statement-F.Escape = λ s. steps 1 >> pure (Escaped s)
  statement_layer (Statement-F.If test then_part else_part) = λ s. steps 1 >> (value test s >>= (λ a. if is_true a then one_by_one s then_part else one_by_one s else_part))
  statement_layer (Statement-F.Repeat control body) = λ s. steps 1 >> repeats turns value (turn value control (λ t. one_by_one t body)) control.increment s
  statement_layer (Statement-F.Return x) = λ s. steps 1 >> (value x s >>= (λ a. pure (Returned a)))
  statement_layer Statement-F.Skip = λ s. steps 1 >> pure (Skipped s)

  abbrev pub action_layer : CaseAction-F Action Labelled → Labelled
  action_layer x = (x.labels, x.statement)

  unfoldable pub statement : Statement → Action
  statement = fold-Statement Action Labelled statement_layer action_layer

  unfoldable pub labelled : CaseAction → Labelled
  labelled = fold-CaseAction Action Labelled statement_layer action_layer

  abbrev pub statements : List Statement → Action
  statements list s = one_by_one s (map statement list)

  -- ---- algorithms

  -- the initial values of locals, in order
  abbrev pub initialized : List Initial → Scope → Computation Scope
  initialized [] s = pure s
  initialized (x ∷ others) s = given_value x.given s >>= (λ a. initialized others (all_assigned x.slot x.count a s))

  abbrev pub algorithm : Algorithm → Action
  algorithm x s = initialized x.initial s >>= statements x.statements
