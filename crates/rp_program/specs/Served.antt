-- Connections that are served from the repository that a command starts with.
use Rattle.std.specs.Prelude.{◌≡◌, ℕ, List, Option, IsSome, Ok, Err, Result}
use Rattle.std.specs.declared.net.socket_addr.SocketAddr.{SocketAddr}
use Rattle.plain_data.specs.declared.failure.Failure.{Failure}
use Rattle.rp_config.specs.declared.loading.Loaded.{Loaded}
use Rattle.rp_files.specs.Files.{Held}
use Rattle.rp_http.specs.Turns.{Leaves}
use Rattle.rp_plain.specs.Plain.{Plain}
use Rattle.rp_plain.specs.Valid.{IsValid}
use Rattle.rp_program.specs.declared.ending.Done.{Done}
use Rattle.rp_program.specs.declared.ending.Done.TheVariants.{Helped, Answered, Served, Checked, Validated}
use Rattle.rp_program.specs.declared.fault.StartFault.{StartFault}
use Rattle.rp_program.specs.declared.fault.Fault.{Fault}
use Rattle.rp_program.specs.declared.fault.Fault.TheVariants.{Start, Read, Write, Refused, Page, Listen, Serve, Unsaved}
use Rattle.rp_program.specs.Starts.{SnapshotFile, Starts, StartedWith}

-- messages of the partners by their tokens led from the repository that a command starts with to a valid one
pub record Serves (loaded : Loaded) (given : Option SnapshotFile) : Type 0 where
  pub start : Plain
  pub is_start : Starts loaded given (Ok start)
  pub end : Plain
  pub run : Leaves loaded.tokens start end
  pub valid : IsValid end

-- the same with the configuration at a path, and the snapshot at another, if one is asked for
abbrev pub ServesFrom : Option Held → List ℕ → Option (List ℕ) → Type 0
ServesFrom files path asked = StartedWith files path asked Serves

-- How the command ended that serves an address: there was no repository to serve, for this reason; or there was one, which was served until
-- that was to end or could no more be done, or which is to be saved and couldn't be; or this address can't be listened on.
abbrev pub IsServed : (Failure StartFault → Type 0) → Type 0 → Option (List ℕ) → SocketAddr → Result Done Fault → Type 0
IsServed Lacks It save address (Ok Served) = It
IsServed Lacks It save address (Ok Helped) = ⊥
IsServed Lacks It save address (Ok (Answered lines)) = ⊥
IsServed Lacks It save address (Ok (Checked verdict)) = ⊥
IsServed Lacks It save address (Ok (Validated judgement)) = ⊥
IsServed Lacks It save address (Err (Start why)) = Lacks why
IsServed Lacks It save address (Err (Listen at error)) = (at ≡ address) × It
IsServed Lacks It save address (Err (Serve fault)) = It
IsServed Lacks It save address (Err Read) = ⊥
IsServed Lacks It save address (Err Write) = ⊥
IsServed Lacks It save address (Err (Refused path words)) = ⊥
IsServed Lacks It save address (Err (Page path error)) = ⊥
IsServed Lacks It save address (Err (Unsaved why)) = IsSome save × It
