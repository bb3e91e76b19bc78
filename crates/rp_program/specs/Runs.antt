-- A run over the lines of an input, and how the command ended that answers them.
use Rattle.std.specs.Prelude.{◌≡◌, ◌≢◌, ◌⊎◌, ℕ, List, Option, Result, Ok, Err, ⊤}
use Rattle.plain_data.specs.declared.failure.Failure.{Failure}
use Rattle.rp_io.specs.Held.{unread, RunsOut}
use Rattle.rp_io.specs.Reads.{Reads}
use Rattle.rp_repo.specs.LineRuns.{max_reads, IsWholeRun, IsFirstRun, IsCutRun}
use Rattle.rp_plain.specs.Plain.{Plain}
use Rattle.rp_plain.specs.Valid.{IsValid}
use Rattle.rp_snapshots.specs.Snapshots.{snapshot_of}
use Rattle.rp_program.specs.declared.ending.Done.{Done}
use Rattle.rp_program.specs.declared.ending.Done.TheVariants.{Helped, Answered, Served, Checked, Validated}
use Rattle.rp_program.specs.declared.fault.StartFault.{StartFault}
use Rattle.rp_program.specs.declared.fault.Fault.{Fault}
use Rattle.rp_program.specs.declared.fault.Fault.TheVariants.{Start, Read, Write, Refused, Page, Listen, Serve, Unsaved}
use Rattle.rp_program.specs.Saved.{SeenFile}

-- a run from one such repository, which ends so
pub record RunsFrom (IsStart : Plain → Type 0) (Ends : Plain → Plain → Type 0) : Type 0 where
  pub start : Plain
  pub is_start : IsStart start
  pub end : Plain
  pub ends : Ends start end
  pub valid : IsValid end

-- what is seen of a run beside the repository
pub record Seen : Type 1 where
  -- the bytes of the input, and those that the output had before and has after it
  pub input : Option (List ℕ)
  pub before : Option (List ℕ)
  pub after : Option (List ℕ)
  -- a read failed, or it took too many
  pub read_failed : Type 0
  pub write_failed : Type 0
  -- the reader and the writer are as they were
  pub untouched : Type 0

-- by a reader and a writer, before and after
abbrev pub seen : {R W : Type 0} → (R → Option (List ℕ)) → (R → ℕ) → (R → Reads) → (W → Option (List ℕ)) → (W → ℕ) → R → R → W → W → Seen
seen remaining read_failures reads_made contents write_failures reader reader_new writer writer_new = record {
  input = remaining reader;
  before = contents writer;
  after = contents writer_new;
  read_failed = (read_failures reader_new ≢ read_failures reader) ⊎ RunsOut (unread max_reads) (reads_made reader) (reads_made reader_new) (remaining reader);
  write_failed = write_failures writer_new ≢ write_failures writer;
  untouched = (reader_new ≡ reader) × (writer_new ≡ writer);
}

-- How the command ended that answers all lines, where Leads says from which repository to which it led. At its end all that was written
-- are the replies of a run over all lines, and its snapshot has taken the place of the file, if it was to. After a read that failed the
-- replies to the lines before it are written whole, and after a write that failed they are but for the last; nothing is saved then. Where
-- it is to be saved and can't be, all lines are answered, or nothing is done. There may be no repository to answer them, for this reason:
-- then nothing is read or written, and no file is begun.
abbrev pub IsBatched : (Failure StartFault → Type 0) → ((Plain → Plain → Type 0) → Type 0) → Seen → SeenFile → Result Done Fault → Type 0
IsBatched Lacks Leads it file (Ok (Answered lines)) = Leads (λ old new. IsWholeRun old new it.input it.before it.after lines × file.saved (snapshot_of new))
IsBatched Lacks Leads it file (Ok Helped) = ⊥
IsBatched Lacks Leads it file (Ok Served) = ⊥
IsBatched Lacks Leads it file (Ok (Checked verdict)) = ⊥
IsBatched Lacks Leads it file (Ok (Validated judgement)) = ⊥
IsBatched Lacks Leads it file (Err (Start why)) = Lacks why × it.untouched × file.unbegun
IsBatched Lacks Leads it file (Err Read) = Leads (λ old new. IsFirstRun old new it.input it.before it.after) × it.read_failed × file.kept
IsBatched Lacks Leads it file (Err Write) = Leads (λ old new. IsCutRun old new it.input it.before it.after) × it.write_failed × file.kept
IsBatched Lacks Leads it file (Err (Unsaved why)) = Leads (λ old new. ((n : ℕ) × IsWholeRun old new it.input it.before it.after n × file.unsaved (snapshot_of new) why)
    ⊎ ((new ≡ old) × it.untouched × file.refused why))
IsBatched Lacks Leads it file (Err (Refused path words)) = ⊥
IsBatched Lacks Leads it file (Err (Page path error)) = ⊥
IsBatched Lacks Leads it file (Err (Listen at error)) = ⊥
IsBatched Lacks Leads it file (Err (Serve fault)) = ⊥

-- how the command ended that answers all lines, and saves nothing
abbrev pub IsRun : Plain → Plain → Seen → Result Done Fault → Type 0
IsRun old new it result = IsBatched (λ _. ⊥) (λ Told. Told old new) it (record { saved = λ _. ⊤; kept = ⊤; unsaved = λ _ _. ⊥; unbegun = ⊤; refused = λ _. ⊥ }) result
