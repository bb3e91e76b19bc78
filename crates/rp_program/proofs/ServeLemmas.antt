-- How serving ended of what was loaded is how it ended of the configuration at its path.
use Rattle.std.proofs.Common.{◌≡◌, ℕ, List, Option, Result, Ok, Err, subst, sym}
use Rattle.std.specs.Prelude.{⊤}
use Rattle.std.specs.declared.net.socket_addr.SocketAddr.{SocketAddr}
use Rattle.plain_data.specs.declared.failure.Failure.{Failure}
use Rattle.plain_data.specs.declared.failure.Failure.TheVariants.{NoMemory}
use Rattle.rp_files.specs.Files.{Held}
use Rattle.rp_config.specs.declared.loading.Loaded.{Loaded}
use Rattle.rp_http.specs.Turns.{Leaves}
use Rattle.rp_plain.specs.Plain.{Plain}
use Rattle.rp_plain.specs.Valid.{IsValid}
use Rattle.rp_program.specs.declared.ending.Done.{Done}
use Rattle.rp_program.specs.declared.ending.Done.TheVariants.{Helped, Answered, Served, Checked, Validated}
use Rattle.rp_program.specs.declared.fault.StartFault.{StartFault}
use Rattle.rp_program.specs.declared.fault.Fault.{Fault}
use Rattle.rp_program.specs.declared.fault.Fault.TheVariants.{Start, Read, Write, Refused, Page, Listen, Serve, Unsaved}
use Rattle.rp_program.specs.Starts.{SnapshotFile, IsBegun, Starts, FailsAt, FailsBy, FailsToStart}
use Rattle.rp_program.specs.Served.{Serves, ServesFrom, IsServed}
use Rattle.rp_program.proofs.StartLemmas.{start_fails}

module _ (Lacks More : Failure StartFault → Type 0) (It Then : Type 0) (lacks : (why : Failure StartFault) → Lacks why → More why) (it : It → Then) where
  pub served_so : (save : Option (List ℕ)) (address : SocketAddr) (result : Result Done Fault) → IsServed Lacks It save address result → IsServed More Then save address result
  served_so save address (Ok Served) is = it is
  served_so save address (Ok Helped) is = is
  served_so save address (Ok (Answered lines)) is = is
  served_so save address (Ok (Checked verdict)) is = is
  served_so save address (Ok (Validated judgement)) is = is
  served_so save address (Err (Start why)) is = lacks why is
  served_so save address (Err (Listen at error)) is = (is.0, it is.1)
  served_so save address (Err (Serve fault)) is = it is
  served_so save address (Err Read) is = is
  served_so save address (Err Write) is = is
  served_so save address (Err (Refused path words)) is = is
  served_so save address (Err (Page path error)) is = is
  served_so save address (Err (Unsaved why)) is = (is.0, it is.1)

-- there is none to serve
pub lacking : (Why Lacks : Failure StartFault → Type 0) (It : Type 0) (save : Option (List ℕ)) (address : SocketAddr) (fault : Fault)
    → FailsToStart Why fault → ((why : Failure StartFault) → Why why → Lacks why) → IsServed Lacks It save address (Err fault)
lacking Why Lacks It save address (Start why) none so = so why none
lacking Why Lacks It save address Read none so = none
lacking Why Lacks It save address Write none so = none
lacking Why Lacks It save address (Refused path words) none so = none
lacking Why Lacks It save address (Page path error) none so = none
lacking Why Lacks It save address (Listen at error) none so = absurd none
lacking Why Lacks It save address (Serve fault) none so = absurd none
lacking Why Lacks It save address (Unsaved why) none so = absurd none

-- the repository that was started with was served
pub served_of : (loaded : Loaded) (given : Option SnapshotFile) (start end : Plain) (tokens : List (List ℕ)) → Starts loaded given (Ok start) → tokens ≡ loaded.tokens → Leaves tokens start end → IsValid end
    → (save : Option (List ℕ)) (address : SocketAddr) (result : Result Done Fault) → IsServed (λ why. why ≡ NoMemory) ⊤ save address result
    → IsServed (λ why. FailsBy why (λ fault. Starts loaded given (Err fault))) (Serves loaded given) save address result
served_of loaded given start end tokens starts same run valid save address result is =
    served_so (λ why. why ≡ NoMemory) (λ why. FailsBy why (λ fault. Starts loaded given (Err fault))) ⊤ (Serves loaded given)
    (λ why none. subst (λ w. FailsBy w (λ fault. Starts loaded given (Err fault))) (sym none) tt)
    (λ it. record { start = start; is_start = starts; end = end; run = subst (λ t. Leaves t start end) same run; valid = valid })
    save address result is

pub served_from : (files : Option Held) (path : List ℕ) (asked : Option (List ℕ)) (loaded : Loaded) (given : Option SnapshotFile) (save : Option (List ℕ)) (address : SocketAddr) (result : Result Done Fault)
    → IsBegun files path asked loaded given → IsServed (λ why. FailsBy why (λ fault. Starts loaded given (Err fault))) (Serves loaded given) save address result
    → IsServed (FailsAt files path asked) (ServesFrom files path asked) save address result
served_from files path asked loaded given save address result begun is =
    served_so (λ why. FailsBy why (λ fault. Starts loaded given (Err fault))) (FailsAt files path asked) (Serves loaded given) (ServesFrom files path asked)
    (λ why. start_fails files path asked loaded given why begun) (λ served. record { loaded = loaded; given = given; begun = begun; told = served }) save address result is
