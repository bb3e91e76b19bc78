-- What a command starts with, and why it doesn't, is what its configuration and its snapshot say.
use Rattle.std.proofs.Common.{◌≡◌, ◌≢◌, ℕ, List, Option, Some, None, IfSome, Result, Ok, Err, refl, subst, sym}
use Rattle.std.specs.Prelude.{option_map, IfOk}
use Rattle.plain_data.specs.declared.failure.Failure.{Failure}
use Rattle.plain_data.specs.declared.failure.Failure.TheVariants as failure
use Rattle.plain_data.specs.Gives.{Fails}
use Rattle.ex_types.specs.Checked.{Checked}
use Rattle.rp_files.specs.declared.fault.LoadFault.{LoadFault}
use Rattle.rp_files.specs.Files.{Held}
use Rattle.rp_config.specs.Loading.{loaded_at}
use Rattle.rp_config.specs.declared.loading.Loaded.{Loaded}
use Rattle.rp_plain.specs.declared.messages.NewFault.{NewFault}
use Rattle.rp_plain.specs.declared.messages.NewFault.TheVariants as new
use Rattle.rp_plain.specs.Opening.{new_fault}
use Rattle.rp_plain.specs.Plain.{Plain}
use Rattle.rp_program.specs.declared.fault.StartFault.{StartFault}
use Rattle.rp_program.specs.declared.fault.StartFault.TheVariants.{Load}
use Rattle.rp_program.specs.declared.fault.Fault.{Fault}
use Rattle.rp_program.specs.declared.fault.Fault.TheVariants.{Start, Read, Write, Refused, Page, Listen, Serve, Unsaved}
use Rattle.rp_program.specs.Starts.{SnapshotFile, snapshot_at, IsBegun, Lacks, Starts, StartsIf, FailsAt, FailsBy, FailsToStart, OpensOr, IsStart, load_failure, new_failure}
use Rattle.rp_program.specs.Runs.{RunsFrom}

-- what holds of a value that there is
pub in_ok_both : {T E : Type 0} (P Q R : T → Type 0) → ((t : T) → P t → Q t → R t) → (r : Result T E) → IfOk r P → IfOk r Q → IfOk r R
in_ok_both P Q R f (Ok t) p q = f t p q
in_ok_both P Q R f (Err e) p q = tt

-- ---- what is opened

-- there is none of these schemas and partners
pub new_fails : (schemas : List Checked) (partners tokens : List (List ℕ)) (given : Option SnapshotFile) (fault : NewFault) → (fault ≢ new.NoMemory → new_fault schemas partners ≡ Some fault)
    → FailsBy (new_failure fault) (Lacks (record { partners = partners; tokens = tokens; schemas = schemas }) given)
new_fails schemas partners tokens given new.NoMemory is = tt
new_fails schemas partners tokens given new.TwoSchemas is = is (λ same. cc)
new_fails schemas partners tokens given new.TwoPartners is = is (λ same. cc)
new_fails schemas partners tokens given new.BadName is = is (λ same. cc)
new_fails schemas partners tokens given new.TooMany is = is (λ same. cc)

-- what is lacking is passed on
pub passed_on : (Why Then : Failure StartFault → Type 0) (fault : Fault) → FailsToStart Why fault → ((why : Failure StartFault) → Why why → Then why) → FailsToStart Then fault
passed_on Why Then (Start why) none so = so why none
passed_on Why Then Read none so = none
passed_on Why Then Write none so = none
passed_on Why Then (Refused path words) none so = none
passed_on Why Then (Page path error) none so = none
passed_on Why Then (Listen at error) none so = none
passed_on Why Then (Serve fault) none so = none
passed_on Why Then (Unsaved why) none so = none

pub opens_so : {T : Type 0} (Was Is : T → Type 0) (Why Then : Failure StartFault → Type 0) → ((t : T) → Was t → Is t) → ((why : Failure StartFault) → Why why → Then why)
    → (result : Result T Fault) → OpensOr Was Why result → OpensOr Is Then result
opens_so Was Is Why Then is so (Ok t) was = is t was
opens_so Was Is Why Then is so (Err fault) none = passed_on Why Then fault none so

-- ---- what stands at the paths

-- there was no memory
pub no_memory : (files : Option Held) (path : List ℕ) (asked : Option (List ℕ)) → FailsAt files path asked failure.NoMemory
no_memory None path asked = tt
no_memory (Some held) path asked = tt

-- nothing was loaded
pub load_fails : (files : Option Held) (path : List ℕ) (asked : Option (List ℕ)) (fails : Failure LoadFault) → IfSome files (λ held. Fails fails (loaded_at held path))
    → FailsAt files path asked (load_failure fails)
load_fails None path asked fails known = tt
load_fails (Some held) path asked failure.NoMemory known = tt
load_fails (Some held) path asked (failure.Fault fault) known = subst (λ found. StartsIf found (option_map (snapshot_at held) asked) (Err (Load fault))) (sym known) refl

-- what is lacking of what was loaded and given is lacking of what stands at the paths
pub start_fails : (files : Option Held) (path : List ℕ) (asked : Option (List ℕ)) (loaded : Loaded) (given : Option SnapshotFile) (why : Failure StartFault)
    → IsBegun files path asked loaded given → FailsBy why (λ fault. Starts loaded given (Err fault)) → FailsAt files path asked why
start_fails None path asked loaded given why begun fails = tt
start_fails (Some held) path asked loaded given failure.NoMemory begun fails = tt
start_fails (Some held) path asked loaded given (failure.Fault fault) begun fails =
    subst (λ found. StartsIf found (option_map (snapshot_at held) asked) (Err fault)) (sym begun.is_loaded) (subst (λ g. Starts loaded g (Err fault)) begun.is_given.1 fails)

-- a run from what was loaded and given is one from what stands at the paths
pub runs_from : (files : Option Held) (path : List ℕ) (asked : Option (List ℕ)) (loaded : Loaded) (given : Option SnapshotFile) → IsBegun files path asked loaded given
    → (Ends : Plain → Plain → Type 0) → RunsFrom (λ r. Starts loaded given (Ok r)) Ends → RunsFrom (IsStart files path asked) Ends
runs_from files path asked loaded given begun Ends run = record {
  start = run.start;
  is_start = record { loaded = loaded; given = given; begun = begun; told = run.is_start };
  end = run.end;
  ends = run.ends;
  valid = run.valid;
}
