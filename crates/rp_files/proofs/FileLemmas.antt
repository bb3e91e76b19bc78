-- What is read of a file is what it holds.
use Rattle.std.proofs.Common.{◌≡◌, ◌≢◌, ◌<◌, ◌≤◌, ◌+◌, ℕ, List, take, length, length-take, true, false, Option, Some, None, IfSome, Result, Ok, Err, IfOk, IfErr, refl, sym, ap, subst, arith, nat_le}
use Rattle.std.proofs.lemmas.Grind.{common_steps}
use Rattle.std.proofs.lemmas.Bool.Decides.{nat_tests}
use Rattle.rp_files.specs.declared.fault.LoadFault.TheVariants.{TooLarge}
use Rattle.rp_files.specs.Files.{Held, NeverFails, opened_of, front_of, whole_of, all_of}
use Rattle.rp_io.specs.declared.device.DeviceFault.{DeviceFault}
use Rattle.plain_data.specs.declared.failure.Failure.{Failure}
use Rattle.plain_data.specs.declared.failure.Failure.TheVariants.{NoMemory, Fault}
use Rattle.plain_data.specs.Gives.{Gives}

-- what holds where it is known what the paths hold
pub on_known : (known : Option Held) (P Q : Held → Type 0) → ((held : Held) → P held → Q held) → IfSome known P → IfSome known Q
on_known None P Q f p = tt
on_known (Some held) P Q f p = f held p

-- the front of what an opened file has left is that of the file
front_came : (read remaining : Option (List ℕ)) (most : ℕ) (front : List ℕ) → opened_of read ≡ Ok remaining → IfSome remaining (λ bytes. front ≡ take most bytes) → front_of most read ≡ Ok front
front_came None remaining most front e h = cc
front_came (Some bytes) remaining most front e h =
    let is : remaining ≡ Some bytes = cc in
    ap Ok (sym (subst (λ left. IfSome left (λ xs. front ≡ take most xs)) is h))

-- what was read of an opened file, where it is known what the paths hold
pub fronted : {R V : Type 0} (items : V → List ℕ) (failures : R → ℕ) (known : Option Held) (path : List ℕ) (most : ℕ) (remaining : Option (List ℕ)) (before after : R) (r : Result V (Failure DeviceFault))
    → IfSome known (λ held. opened_of (held path) ≡ Ok remaining) → IfSome known (λ _. NeverFails failures)
    → IfOk r (λ v. IfSome remaining (λ bytes. items v ≡ take most bytes)) → IfErr r (λ e. e ≢ NoMemory → failures after ≢ failures before)
    → IfSome known (λ held. Gives items r (front_of most (held path)))
fronted items failures None path most remaining before after r opens sound ok err = tt
fronted items failures (Some held) path most remaining before after (Ok v) opens sound ok err = front_came (held path) remaining most (items v) opens ok
fronted items failures (Some held) path most remaining before after (Err NoMemory) opens sound ok err = tt
fronted items failures (Some held) path most remaining before after (Err (Fault d)) opens sound ok err = absurd (err (λ e. (cc)) (sound before after))

nat_le_true : (m n : ℕ) → m ≤ n → nat_le m n ≡ true
nat_le_true m n h = grind (arith, nat_tests)

nat_le_false : (m n : ℕ) → n < m → nat_le m n ≡ false
nat_le_false m n h = grind (arith, nat_tests)

-- no more bytes than the limit came, though one more was asked for
pub all_came : (limit : ℕ) (path front : List ℕ) (read : Option (List ℕ)) → length front ≤ limit → front_of (limit + 1) read ≡ Ok front → whole_of limit path read ≡ Ok front
all_came limit path front None h e = cc
all_came limit path front (Some bytes) h e =
    let same : take (limit + 1) bytes ≡ front = cc in
    let all : bytes ≡ front = grind (arith, common_steps, same, length-take (limit + 1) bytes) in
    rw (nat_le_true (length bytes) limit (rw all h), all) refl

pub more_came : (limit : ℕ) (path front : List ℕ) (read : Option (List ℕ)) → limit < length front → front_of (limit + 1) read ≡ Ok front → whole_of limit path read ≡ Err (TooLarge path)
more_came limit path front None h e = cc
more_came limit path front (Some bytes) h e =
    let same : take (limit + 1) bytes ≡ front = cc in
    let long : limit < length bytes = omega (arith, length-take (limit + 1) bytes, ap length same) in
    rw (nat_le_false (length bytes) limit long) refl

-- fewer bytes came than were asked for: all of them, however many may stand there
pub every_came : (most : ℕ) (path front : List ℕ) (read : Option (List ℕ)) → length front < most → front_of most read ≡ Ok front → all_of path read ≡ Ok front
every_came most path front None h e = cc
every_came most path front (Some bytes) h e =
    let same : take most bytes ≡ front = cc in
    let all : bytes ≡ front = grind (arith, common_steps, same, length-take most bytes) in
    ap Ok all
