-- What a command works on: the repository that a configuration and a snapshot give, or the text of a file.
use Rattle.std.specs.Prelude.{◌≡◌, ℕ, List, Option, Some, None, IfSome, option_map, Result, Ok, Err}
use Rattle.plain_data.specs.declared.failure.Failure.{Failure}
use Rattle.plain_data.specs.declared.failure.Failure.TheVariants as failure
use Rattle.ex_types.specs.Checked.{Checked}
use Rattle.http_routes.specs.declared.tokens.TokenFault.{TokenFault}
use Rattle.http_routes.specs.Tokens.{token_fault}
use Rattle.ex_check.specs.declared.report.CheckFault.{CheckFault}
use Rattle.ex_check.specs.declared.report.CheckFault.TheVariants as checked
use Rattle.rp_files.specs.Files.{Held, file_at}
use Rattle.rp_files.specs.declared.fault.LoadFault.{LoadFault}
use Rattle.rp_files.specs.declared.fault.LoadFault.TheVariants.{Unreadable}
use Rattle.rp_config.specs.Loading.{loaded_at}
use Rattle.rp_config.specs.declared.loading.Loaded.{Loaded}
use Rattle.rp_plain.specs.declared.messages.NewFault.{NewFault}
use Rattle.rp_plain.specs.declared.messages.NewFault.TheVariants as new
use Rattle.rp_plain.specs.Opening.{new_fault, opened}
use Rattle.rp_plain.specs.Plain.{Plain}
use Rattle.rp_plain.specs.Valid.{IsValid}
use Rattle.rp_snapshots.specs.Snapshots.{snapshot_of}
use Rattle.rp_program.specs.declared.fault.StartFault.{StartFault}
use Rattle.rp_program.specs.declared.fault.StartFault.TheVariants.{Load, New, Snapshot, Tokens}
use Rattle.rp_program.specs.declared.fault.Fault.{Fault}
use Rattle.rp_program.specs.declared.fault.Fault.TheVariants.{Start, Read, Write, Refused, Page, Listen, Serve, Unsaved}

-- ---- a repository

-- a snapshot that a command is given: the path of its file, and its bytes, or nothing where it can't be read
pub record SnapshotFile : Type 0 where
  pub path : List ℕ
  pub bytes : Option (List ℕ)

abbrev pub snapshot_at : Held → List ℕ → SnapshotFile
snapshot_at held path = record { path = path; bytes = held path }

-- a snapshot is given if one is asked for: of the file at this path, where the folder's files are known
abbrev pub IsGiven : Option Held → Option (List ℕ) → Option SnapshotFile → Type 0
IsGiven files asked given = (option_map (λ s. s.path) given ≡ asked) × IfSome files (λ held. given ≡ option_map (snapshot_at held) asked)

-- a valid repository of these schemas and partners, of which the bytes are the snapshot
pub record IsRestored (schemas : List Checked) (partners : List (List ℕ)) (bytes : List ℕ) (r : Plain) : Type 0 where
  pub valid : IsValid r
  pub of_schemas : r.schemas ≡ schemas
  pub of_partners : r.partners ≡ partners
  pub snapshot : bytes ≡ snapshot_of r

-- what a repository of these schemas and partners begins as: what is restored from the snapshot, or else empty
abbrev pub BeginsAs : List Checked → List (List ℕ) → Option SnapshotFile → Plain → Type 0
BeginsAs schemas partners None r = r ≡ opened schemas partners
BeginsAs schemas partners (Some s) r = (bytes : List ℕ) × (s.bytes ≡ Some bytes) × IsRestored schemas partners bytes r

-- the snapshot's file can't be read
abbrev pub IsUnreadable : Option SnapshotFile → LoadFault → Type 0
IsUnreadable None fault = ⊥
IsUnreadable (Some s) fault = (s.bytes ≡ None) × (fault ≡ Unreadable s.path)

-- the file at this path is the snapshot of no such repository
abbrev pub IsBad : List Checked → List (List ℕ) → Option SnapshotFile → List ℕ → Type 0
IsBad schemas partners None path = ⊥
IsBad schemas partners (Some s) path = (s.path ≡ path) × (bytes : List ℕ) × (s.bytes ≡ Some bytes) × ((r : Plain) → IsRestored schemas partners bytes r → ⊥)

-- Why a command starts with no repository: what speaks against the schemas and the partners comes first, then against the snapshot, and
-- then against the tokens.
abbrev pub Lacks : Loaded → Option SnapshotFile → StartFault → Type 0
Lacks loaded given (New fault) = new_fault loaded.schemas loaded.partners ≡ Some fault
Lacks loaded given (Load fault) = (new_fault loaded.schemas loaded.partners ≡ None) × IsUnreadable given fault
Lacks loaded given (Snapshot path lack) = (new_fault loaded.schemas loaded.partners ≡ None) × IsBad loaded.schemas loaded.partners given path
Lacks loaded given (Tokens fault) = (new_fault loaded.schemas loaded.partners ≡ None) × ((r : Plain) × BeginsAs loaded.schemas loaded.partners given r) × (token_fault loaded.tokens ≡ Some fault)

-- how a command starts with what was loaded and the snapshot that is given: with a repository, or why with none
abbrev pub Starts : Loaded → Option SnapshotFile → Result Plain StartFault → Type 0
Starts loaded given (Ok r) = (new_fault loaded.schemas loaded.partners ≡ None) × BeginsAs loaded.schemas loaded.partners given r × (token_fault loaded.tokens ≡ None)
Starts loaded given (Err fault) = Lacks loaded given fault

abbrev pub StartsIf : Result Loaded LoadFault → Option SnapshotFile → Result Plain StartFault → Type 0
StartsIf (Ok loaded) given outcome = Starts loaded given outcome
StartsIf (Err fault) given outcome = outcome ≡ Err (Load fault)

-- How a command starts with the configuration at a path, and the snapshot at another, if one is asked for. What is wrong with the
-- configuration comes first, or else with its schemas in their order.
abbrev pub StartsAt : Held → List ℕ → Option (List ℕ) → Result Plain StartFault → Type 0
StartsAt held path asked outcome = StartsIf (loaded_at held path) (option_map (snapshot_at held) asked) outcome

-- a failure is for a reason that holds, unless memory ran out
abbrev pub FailsBy : Failure StartFault → (StartFault → Type 0) → Type 0
FailsBy failure.NoMemory Holds = Unit {0}
FailsBy (failure.Fault fault) Holds = Holds fault

-- the command ends because there is nothing to work on, for such a reason
abbrev pub FailsToStart : (Failure StartFault → Type 0) → Fault → Type 0
FailsToStart Why (Start why) = Why why
FailsToStart Why Read = ⊥
FailsToStart Why Write = ⊥
FailsToStart Why (Refused path words) = ⊥
FailsToStart Why (Page path error) = ⊥
FailsToStart Why (Listen at error) = ⊥
FailsToStart Why (Serve fault) = ⊥
FailsToStart Why (Unsaved why) = ⊥

-- what there is is so, or there is none for such a reason
abbrev pub OpensOr : {T : Type 0} → (T → Type 0) → (Failure StartFault → Type 0) → Result T Fault → Type 0
OpensOr Is Why (Ok t) = Is t
OpensOr Is Why (Err fault) = FailsToStart Why fault

-- What a command begins with: what the configuration at a path names, and the snapshot at another, if one is asked for; of these files,
-- where they are known, and else of some.
pub record IsBegun (files : Option Held) (path : List ℕ) (asked : Option (List ℕ)) (loaded : Loaded) (given : Option SnapshotFile) : Type 0 where
  pub is_loaded : IfSome files (λ held. loaded_at held path ≡ Ok loaded)
  pub is_given : IsGiven files asked given

-- there is nothing to begin with, or no repository of it, for this reason
abbrev pub FailsAt : Option Held → List ℕ → Option (List ℕ) → Failure StartFault → Type 0
FailsAt files path asked why = IfSome files (λ held. FailsBy why (λ fault. StartsAt held path asked (Err fault)))

-- what a command was started with
pub record StartedWith (files : Option Held) (path : List ℕ) (asked : Option (List ℕ)) (Told : Loaded → Option SnapshotFile → Type 0) : Type 0 where
  pub loaded : Loaded
  pub given : Option SnapshotFile
  pub begun : IsBegun files path asked loaded given
  pub told : Told loaded given

-- it is the repository that a command starts with
abbrev pub IsStart : Option Held → List ℕ → Option (List ℕ) → Plain → Type 0
IsStart files path asked r = StartedWith files path asked (λ loaded given. Starts loaded given (Ok r))

-- ---- a text

abbrev pub text_if : Result (List ℕ) LoadFault → Result (List ℕ) StartFault
text_if (Ok text) = Ok text
text_if (Err fault) = Err (Load fault)

-- the bytes of the file at a path, or why there are none
abbrev pub text_at : Held → List ℕ → Result (List ℕ) StartFault
text_at held path = text_if (file_at held path)

-- ---- faults of the crates below

abbrev pub load_failure : Failure LoadFault → Failure StartFault
load_failure failure.NoMemory = failure.NoMemory
load_failure (failure.Fault fault) = failure.Fault (Load fault)

abbrev pub new_failure : NewFault → Failure StartFault
new_failure new.NoMemory = failure.NoMemory
new_failure fault = failure.Fault (New fault)

abbrev pub bad_tokens : TokenFault → Failure StartFault
bad_tokens fault = failure.Fault (Tokens fault)

abbrev pub check_fault : CheckFault → Fault
check_fault checked.NoMemory = Start failure.NoMemory
check_fault checked.WriteFault = Write
