-- Which fault is told.
use Rattle.std.specs.Prelude.{◌≡◌, ◌≢◌, ℕ, List, Option, Some, None, Result, Ok, Err}
use Rattle.plain_data.specs.declared.failure.Failure.{Failure}
use Rattle.plain_data.specs.declared.failure.Failure.TheVariants as failure
use Rattle.rp_plain.specs.declared.messages.NewFault.{NewFault}
use Rattle.rp_plain.specs.declared.messages.NewFault.TheVariants as new
use Rattle.rp_restore.specs.declared.fault.RestoreFault.{RestoreFault}
use Rattle.rp_restore.specs.declared.fault.SnapshotLack.{SnapshotLack}
use Rattle.rp_restore.specs.declared.fault.RestoreFault.TheVariants.{New, NoMemory, BadSnapshot}

abbrev pub of_new : NewFault → RestoreFault
of_new new.NoMemory = NoMemory
of_new fault = New fault

abbrev pub of_lack : Failure SnapshotLack → RestoreFault
of_lack failure.NoMemory = NoMemory
of_lack (failure.Fault lack) = BadSnapshot lack

-- What speaks against the schemas and the partners is told before anything is said of the bytes, and only where it is so; want of memory may come at any time.
abbrev pub OpensFirst : {X : Type 0} → Result X RestoreFault → Option NewFault → Type 0
OpensFirst (Ok x) found = found ≡ None
OpensFirst (Err NoMemory) found = Unit {0}
OpensFirst (Err (New fault)) found = found ≡ Some fault
OpensFirst (Err (BadSnapshot lack)) found = found ≡ None

-- These bytes are this text; or they aren't, or memory was wanting.
abbrev pub Compares : Result (Unit {0}) RestoreFault → (bytes text : List ℕ) → Type 0
Compares (Ok x) bytes text = bytes ≡ text
Compares (Err NoMemory) bytes text = Unit {0}
Compares (Err (New fault)) bytes text = ⊥
Compares (Err (BadSnapshot lack)) bytes text = bytes ≢ text
