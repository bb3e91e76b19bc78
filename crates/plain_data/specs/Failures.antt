-- Words on a failure.
use Rattle.plain_data.specs.declared.failure.Failure.{Failure}
use Rattle.plain_data.specs.declared.failure.Failure.TheVariants.{NoMemory, Fault}

abbrev pub MatchFailure : {F : Type 0} → Failure F → Type 0 → (F → Type 0) → Type 0
MatchFailure NoMemory none P = none
MatchFailure (Fault f) none P = P f

-- P holds of the fault, if there is one
abbrev pub ForFault : {F : Type 0} → Failure F → (F → Type 0) → Type 0
ForFault failure P = MatchFailure failure (Unit {0}) P

-- there is a fault, of which P holds
abbrev pub IsFaultAnd : {F : Type 0} → Failure F → (F → Type 0) → Type 0
IsFaultAnd failure P = MatchFailure failure ⊥ P
