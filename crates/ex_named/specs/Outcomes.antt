-- What binding gives: a tree with its names bound, or the fault of least offset.
use Rattle.std.specs.Prelude.{ℕ, nat_lt, List, [], ◌∷◌, ◌++◌, Option, Some, None, Result, Ok, Err, if◌then◌else◌}
use Rattle.plain_data.specs.Gives.{Gives}
use Rattle.plain_data.specs.declared.failure.Failure.{Failure}
use Rattle.plain_data.specs.declared.failure.Failure.TheVariants.{NoMemory, Fault}
use Rattle.ex_named.specs.declared.fault.NameFault.{NameFault}
use Rattle.ex_named.specs.declared.fault.NameFaultKind.{NameFaultKind}

abbrev pub Outcome : Type 0 → Type 0
Outcome A = Result A NameFault

abbrev pub refused : {A : Type 0} → NameFaultKind → ℕ → Outcome A
refused kind at = Err (record { kind = kind; at = at })

-- of two faults the one of lesser offset; the first, where they lie at one
abbrev pub lesser : NameFault → NameFault → NameFault
lesser f g = if nat_lt g.at f.at then g else f

abbrev pub given : {A B : Type 0} → (A → B) → Outcome A → Outcome B
given make (Ok a) = Ok (make a)
given make (Err fault) = Err fault

-- both, or the lesser of their faults
abbrev pub both : {A B : Type 0} → Outcome A → Outcome B → Outcome (A × B)
both (Ok a) (Ok b) = Ok (a, b)
both (Ok a) (Err g) = Err g
both (Err f) (Ok b) = Err f
both (Err f) (Err g) = Err (lesser f g)

-- a list with one element more
abbrev pub and_one : {A : Type 0} → Outcome (List A) → Outcome A → Outcome (List A)
and_one found next = given (λ p. p.0 ++ p.1 ∷ []) (both found next)

abbrev pub each_after : {A B : Type 0} → (A → Outcome B) → Outcome (List B) → List A → Outcome (List B)
each_after bind found [] = found
each_after bind found (a ∷ others) = each_after bind (and_one found (bind a)) others

-- what each of a list gives, in order, or the least of their faults
abbrev pub each : {A B : Type 0} → (A → Outcome B) → List A → Outcome (List B)
each bind = each_after bind (Ok [])

abbrev pub optional : {A B : Type 0} → (A → Outcome B) → Option A → Outcome (Option B)
optional bind None = Ok None
optional bind (Some a) = given Some (bind a)

-- the result is this outcome, unless memory ran out
abbrev pub Binds : {A : Type 0} → Result A (Failure NameFault) → Outcome A → Type 0
Binds result outcome = Gives (λ a. a) result outcome

-- trees that were found, or the fault
abbrev pub gathered : {A : Type 0} → List A → Option NameFault → Outcome (List A)
gathered trees None = Ok trees
gathered trees (Some fault) = Err fault

-- no fault is answered but want of memory
abbrev pub IsMemory : {A : Type 0} → Result A (Failure NameFault) → Type 0
IsMemory (Ok a) = Unit {0}
IsMemory (Err NoMemory) = Unit {0}
IsMemory (Err (Fault f)) = ⊥
