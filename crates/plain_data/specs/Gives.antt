-- How a result stands to what it should be, where memory may run out.
use Rattle.std.specs.Prelude.{◌≡◌, Result, Ok, Err}
use Rattle.plain_data.specs.declared.failure.Failure.{Failure}
use Rattle.plain_data.specs.declared.failure.Failure.TheVariants.{NoMemory, Fault}

abbrev pub Fails : {F Y : Type 0} → Failure F → Result Y F → Type 0
Fails NoMemory outcome = Unit {0}
Fails (Fault f) outcome = outcome ≡ Err f

-- The result is the outcome, seen by view, unless memory ran out.
abbrev pub Gives : {F X Y : Type 0} → (X → Y) → Result X (Failure F) → Result Y F → Type 0
Gives view (Ok x) outcome = outcome ≡ Ok (view x)
Gives view (Err e) outcome = Fails e outcome
