-- Which fault is told.
use Rattle.std.proofs.Common.{◌≡◌, ◌≢◌, ℕ, List, Option, Some, None, Result, Err, refl, sym, ◌∙◌, ap, subst}
use Rattle.plain_data.specs.declared.failure.Failure.{Failure}
use Rattle.plain_data.specs.declared.failure.Failure.TheVariants as failure
use Rattle.rp_plain.specs.declared.messages.NewFault.{NewFault}
use Rattle.rp_plain.specs.declared.messages.NewFault.TheVariants as new
use Rattle.rp_core.specs.Held.{Kept}
use Rattle.rp_restore.specs.Faults.{of_lack, of_new, Compares, OpensFirst}
use Rattle.rp_restore.specs.declared.fault.RestoreFault.{RestoreFault}
use Rattle.rp_restore.specs.declared.fault.RestoreFault.TheVariants.{New, NoMemory, BadSnapshot}
use Rattle.rp_restore.specs.declared.fault.SnapshotLack.{SnapshotLack}

abbrev Refuses : Option NewFault → RestoreFault → Type 0
Refuses found e = OpensFirst {X = Kept} (Err e) found

new_refuses : (found : Option NewFault) (fault : NewFault) → (fault ≢ new.NoMemory → found ≡ Some fault) → Refuses found (of_new fault)
new_refuses found new.TwoSchemas told = told (λ e. cc)
new_refuses found new.TwoPartners told = told (λ e. cc)
new_refuses found new.BadName told = told (λ e. cc)
new_refuses found new.TooMany told = told (λ e. cc)
new_refuses found new.NoMemory told = tt

-- where nothing speaks against the schemas and the partners, memory was wanting
new_memory : (found : Option NewFault) (fault : NewFault) → found ≡ None → (fault ≢ new.NoMemory → found ≡ Some fault) → of_new fault ≡ NoMemory
new_memory found new.TwoSchemas none told = let some = told (λ e. cc) in cc
new_memory found new.TwoPartners none told = let some = told (λ e. cc) in cc
new_memory found new.BadName none told = let some = told (λ e. cc) in cc
new_memory found new.TooMany none told = let some = told (λ e. cc) in cc
new_memory found new.NoMemory none told = refl

lack_refuses : (found : Option NewFault) (e : Failure SnapshotLack) → found ≡ None → Refuses found (of_lack e)
lack_refuses found failure.NoMemory none = tt
lack_refuses found (failure.Fault lack) none = none

pub refused_new : (r : Result Kept RestoreFault) (e : RestoreFault) (found : Option NewFault) (fault : NewFault) → r ≡ Err e → e ≡ of_new fault → (fault ≢ new.NoMemory → found ≡ Some fault) → OpensFirst r found
refused_new r e found fault is made told = subst (λ x. OpensFirst x found) (sym (is ∙ ap Err made)) (new_refuses found fault told)

pub wanting_new : (e : RestoreFault) (found : Option NewFault) (fault : NewFault) → e ≡ of_new fault → found ≡ None → (fault ≢ new.NoMemory → found ≡ Some fault) → e ≡ NoMemory
wanting_new e found fault made none told = made ∙ new_memory found fault none told

pub refused_lack : (r : Result Kept RestoreFault) (e : RestoreFault) (found : Option NewFault) (lack : Failure SnapshotLack) → r ≡ Err e → e ≡ of_lack lack → found ≡ None → OpensFirst r found
refused_lack r e found lack is made none = subst (λ x. OpensFirst x found) (sym (is ∙ ap Err made)) (lack_refuses found lack none)

bytes_refuse : (found : Option NewFault) (e : RestoreFault) (bytes text : List ℕ) → Compares (Err e) bytes text → found ≡ None → Refuses found e
bytes_refuse found NoMemory bytes text told none = tt
bytes_refuse found (New fault) bytes text told none = absurd told
bytes_refuse found (BadSnapshot lack) bytes text told none = none

pub refused_bytes : (r : Result Kept RestoreFault) (e compared : RestoreFault) (found : Option NewFault) (bytes text : List ℕ) → r ≡ Err e → e ≡ compared → Compares (Err compared) bytes text → found ≡ None → OpensFirst r found
refused_bytes r e compared found bytes text is made told none = subst (λ x. OpensFirst x found) (sym (is ∙ ap Err made)) (bytes_refuse found compared bytes text told none)

pub wanting_bytes : (e compared : RestoreFault) (bytes text : List ℕ) → e ≡ compared → Compares (Err compared) bytes text → bytes ≡ text → e ≡ NoMemory
wanting_bytes e NoMemory bytes text made told same = made
wanting_bytes e (New fault) bytes text made told same = absurd told
wanting_bytes e (BadSnapshot lack) bytes text made told same = absurd (told same)
