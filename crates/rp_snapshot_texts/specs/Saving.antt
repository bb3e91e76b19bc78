-- What a writer holds of a text that was written to it.
use Rattle.std.specs.Prelude.{◌≡◌, ◌≢◌, ℕ, List, Option, Result, Ok, Err}
use Rattle.std.specs.Io.KnownBytes.{Appends}
use Rattle.rp_io.specs.Front.{AppendsFront}
use Rattle.rp_snapshot_texts.specs.declared.saving.SaveFault.{SaveFault}
use Rattle.rp_snapshot_texts.specs.declared.saving.SaveFault.TheVariants.{NoMemory, WriteFault}

-- All of the text was written; or a front of it, and memory was wanting or a write failed. The numbers are counts of failed writes, before and after.
abbrev pub Saves : Result (Unit {0}) SaveFault → Option (List ℕ) → Option (List ℕ) → ℕ → ℕ → List ℕ → Type 0
Saves (Ok x) old new before after text = Appends old new text × (after ≡ before)
Saves (Err NoMemory) old new before after text = AppendsFront old new text × (after ≡ before)
Saves (Err WriteFault) old new before after text = AppendsFront old new text × (after ≢ before)
