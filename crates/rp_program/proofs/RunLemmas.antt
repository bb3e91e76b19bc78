-- How the lines of an input were answered, told of a repository that a command starts with.
use Rattle.std.proofs.Common.{◌≡◌, inl, ⊎_elim, ℕ, List, Option, Result, Ok, Err, subst, sym}
use Rattle.plain_data.specs.declared.failure.Failure.{Failure}
use Rattle.plain_data.specs.declared.failure.Failure.TheVariants.{NoMemory}
use Rattle.rp_files.specs.Files.{Held}
use Rattle.rp_config.specs.declared.loading.Loaded.{Loaded}
use Rattle.rp_plain.specs.Plain.{Plain}
use Rattle.rp_plain.specs.Valid.{IsValid}
use Rattle.rp_program.specs.declared.ending.Done.{Done}
use Rattle.rp_program.specs.declared.ending.Done.TheVariants.{Helped, Answered, Served, Checked, Validated}
use Rattle.rp_program.specs.declared.fault.StartFault.{StartFault}
use Rattle.rp_program.specs.declared.fault.Unsaved.{Unsaved as WhyUnsaved}
use Rattle.rp_program.specs.declared.fault.Fault.{Fault}
use Rattle.rp_program.specs.declared.fault.Fault.TheVariants.{Start, Read, Write, Refused, Page, Listen, Serve, Unsaved}
use Rattle.rp_program.specs.Starts.{SnapshotFile, IsBegun, IsStart, Starts, FailsAt, FailsBy, FailsToStart}
use Rattle.rp_snapshots.specs.Snapshots.{snapshot_of}
use Rattle.rp_saved_file.specs.declared.replacing.Left.{Left}
use Rattle.rp_program.specs.Saved.{PartView, SeenFile, seen_file}
use Rattle.rp_program.specs.Runs.{RunsFrom, Seen, IsBatched, IsRun}
use Rattle.rp_program.proofs.StartLemmas.{start_fails, runs_from}

module _ (Lacks More : Failure StartFault → Type 0) (Leads Then : (Plain → Plain → Type 0) → Type 0) (it : Seen) (file : SeenFile)
    (lacks : (why : Failure StartFault) → Lacks why → More why) (leads : (Told : Plain → Plain → Type 0) → Leads Told → Then Told) where
  pub batched_so : (result : Result Done Fault) → IsBatched Lacks Leads it file result → IsBatched More Then it file result
  batched_so (Ok (Answered lines)) is = leads _ is
  batched_so (Ok Helped) is = is
  batched_so (Ok Served) is = is
  batched_so (Ok (Checked verdict)) is = is
  batched_so (Ok (Validated judgement)) is = is
  batched_so (Err (Start why)) is = (lacks why is.0, is.1, is.2)
  batched_so (Err Read) is = (leads _ is.0, is.1, is.2)
  batched_so (Err Write) is = (leads _ is.0, is.1, is.2)
  batched_so (Err (Unsaved why)) is = leads _ is
  batched_so (Err (Refused path words)) is = is
  batched_so (Err (Page path error)) is = is
  batched_so (Err (Listen at error)) is = is
  batched_so (Err (Serve fault)) is = is

-- ---- what the lines led to is saved

abbrev Here : Plain → Plain → (Plain → Plain → Type 0) → Type 0
Here old new Told = Told old new

module _ (Lacks : Failure StartFault → Type 0) (old new : Plain) (it : Seen) (file : SeenFile) where
  -- not all were answered
  pub failed : (fault : Fault) → IsRun old new it (Err fault) → file.kept → IsBatched Lacks (Here old new) it file (Err fault)
  failed (Start why) is kept = absurd is.0
  failed Read is kept = (is.0, is.1, kept)
  failed Write is kept = (is.0, is.1, kept)
  failed (Unsaved why) is kept = absurd (⊎_elim (λ whole. whole.2) (λ none. none.2) is)
  failed (Refused path words) is kept = is
  failed (Page path error) is kept = is
  failed (Listen at error) is kept = is
  failed (Serve fault) is kept = is

  -- all were
  pub answered : (done : Done) → IsRun old new it (Ok done) → file.saved (snapshot_of new) → IsBatched Lacks (Here old new) it file (Ok done)
  answered (Answered lines) is saved = (is.0, saved)
  answered Helped is saved = is
  answered Served is saved = is
  answered (Checked verdict) is saved = is
  answered (Validated judgement) is saved = is

  -- all were, and it can't be saved
  pub unsaved : (done : Done) (why : WhyUnsaved) → IsRun old new it (Ok done) → file.unsaved (snapshot_of new) why → IsBatched Lacks (Here old new) it file (Err (Unsaved why))
  unsaved (Answered lines) why is not = inl (lines, is.0, not)
  unsaved Helped why is not = absurd is
  unsaved Served why is not = absurd is
  unsaved (Checked verdict) why is not = absurd is
  unsaved (Validated judgement) why is not = absurd is

  -- none is to be saved
  pub unasked : (result : Result Done Fault) → IsRun old new it result → file.kept → file.saved (snapshot_of new) → IsBatched Lacks (Here old new) it file result
  unasked (Ok done) is kept saved = answered done is saved
  unasked (Err fault) is kept saved = failed fault is kept

-- this is how it ended, and what is left
pub batched_at : {P : Type 0} (v : PartView P) (begun begun_new failures failures_new : ℕ) (asked : Option (List ℕ)) (Lacks : Failure StartFault → Type 0) (old new : Plain) (it : Seen)
    (left told_left : Option (Left P)) (ended told : Result Done Fault) → told_left ≡ left → told ≡ ended
    → IsBatched Lacks (Here old new) it (seen_file v begun begun_new failures failures_new asked left) ended → IsBatched Lacks (Here old new) it (seen_file v begun begun_new failures failures_new asked told_left) told
batched_at v begun begun_new failures failures_new asked Lacks old new it left told_left ended told is_left is_ended is =
    subst (λ l. IsBatched Lacks (Here old new) it (seen_file v begun begun_new failures failures_new asked l) told) (sym is_left)
    (subst (λ e. IsBatched Lacks (Here old new) it (seen_file v begun begun_new failures failures_new asked left) e) (sym is_ended) is)

-- ---- the repository that they are answered by

-- there is none
pub lacking : (Why Lacks : Failure StartFault → Type 0) (Leads : (Plain → Plain → Type 0) → Type 0) (it : Seen) (file : SeenFile) (fault : Fault)
    → FailsToStart Why fault → ((why : Failure StartFault) → Why why → Lacks why) → it.untouched → file.unbegun → IsBatched Lacks Leads it file (Err fault)
lacking Why Lacks Leads it file (Start why) none so untouched unbegun = (so why none, untouched, unbegun)
lacking Why Lacks Leads it file Read none so untouched unbegun = absurd none
lacking Why Lacks Leads it file Write none so untouched unbegun = absurd none
lacking Why Lacks Leads it file (Refused path words) none so untouched unbegun = none
lacking Why Lacks Leads it file (Page path error) none so untouched unbegun = none
lacking Why Lacks Leads it file (Listen at error) none so untouched unbegun = none
lacking Why Lacks Leads it file (Serve fault) none so untouched unbegun = none
lacking Why Lacks Leads it file (Unsaved why) none so untouched unbegun = absurd none

-- they were answered by the one that was started with
pub batched_of : (loaded : Loaded) (given : Option SnapshotFile) (start end : Plain) → Starts loaded given (Ok start) → IsValid end
    → (it : Seen) (file : SeenFile) (result : Result Done Fault) → IsBatched (λ why. why ≡ NoMemory) (Here start end) it file result
    → IsBatched (λ why. FailsBy why (λ fault. Starts loaded given (Err fault))) (RunsFrom (λ r. Starts loaded given (Ok r))) it file result
batched_of loaded given start end starts valid it file result is =
    batched_so (λ why. why ≡ NoMemory) (λ why. FailsBy why (λ fault. Starts loaded given (Err fault))) (Here start end) (RunsFrom (λ r. Starts loaded given (Ok r))) it file
    (λ why none. subst (λ w. FailsBy w (λ fault. Starts loaded given (Err fault))) (sym none) tt)
    (λ Told told. record { start = start; is_start = starts; end = end; ends = told; valid = valid }) result is

pub batched_from : (files : Option Held) (path : List ℕ) (asked : Option (List ℕ)) (loaded : Loaded) (given : Option SnapshotFile) → IsBegun files path asked loaded given
    → (it : Seen) (file : SeenFile) (result : Result Done Fault) → IsBatched (λ why. FailsBy why (λ fault. Starts loaded given (Err fault))) (RunsFrom (λ r. Starts loaded given (Ok r))) it file result
    → IsBatched (FailsAt files path asked) (RunsFrom (IsStart files path asked)) it file result
batched_from files path asked loaded given begun it file result is =
    batched_so (λ why. FailsBy why (λ fault. Starts loaded given (Err fault))) (FailsAt files path asked)
    (RunsFrom (λ r. Starts loaded given (Ok r))) (RunsFrom (IsStart files path asked)) it file
    (λ why. start_fails files path asked loaded given why begun) (runs_from files path asked loaded given begun) result is
