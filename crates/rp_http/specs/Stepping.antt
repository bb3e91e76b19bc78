-- What a step of a connection does, whatever happens to the repository between its steps.
use Rattle.std.specs.Prelude.{◌≡◌, ◌≢◌, ℕ, ◌+◌, ◌<◌, ◌⊎◌, true, List, [], ◌++◌, length, Option}
use Rattle.std.specs.Io.KnownBytes.{Appends, Consumes, IsAtEnd}
use Rattle.rp_io.specs.Reads.{Reads, MakesReads}
use Rattle.rp_plain.specs.Plain.{Plain}
use Rattle.http_messages.specs.declared.message.Fault.{Fault}
use Rattle.http_messages.specs.Next.{FailsBy}
use Rattle.rp_http.specs.declared.connection.Phase.{Phase}
use Rattle.rp_http.specs.declared.connection.Phase.TheVariants.{Turns, Wants, Sends, Refuses}
use Rattle.rp_http.specs.declared.connection.Connection.{Connection}
use Rattle.rp_http.specs.declared.connection.Stepped.{Stepped}
use Rattle.rp_http.specs.declared.connection.Stepped.TheVariants.{Turned, Read, Sent, Ended, Over}
use Rattle.rp_http.specs.Bytes.{owed_in}
use Rattle.rp_http.specs.Inboxes.{State, Holds, room_of}
use Rattle.rp_http.specs.Runs.{IsUnfinished, fault_text, MakesSome}
use Rattle.rp_http.specs.Turns.{IsAnswered}
use Rattle.rp_http.specs.Serving.{IsLast}

-- ---- how a connection goes on

-- the next message is looked for where a reply is out and the connection goes on after it
abbrev pub settled : Phase → List ℕ → Phase
settled (Sends true) [] = Turns
settled phase owed = phase

-- A step does what it says, and leaves the rest. Where it sent, less is still to be sent; or all was out before.
abbrev pub Moves : Connection → Connection → Stepped → Type 0
Moves old new Turned = (old.phase ≡ Turns) × (new.phase ≢ Turns)
Moves old new (Read n) = (old.phase ≡ Wants) × (0 < n) × (new.phase ≡ Turns) × (new.outbox ≡ old.outbox)
Moves old new Sent =
    (old.phase ≢ Turns)
    × (old.phase ≢ Wants)
    × (new.inbox ≡ old.inbox)
    × (new.phase ≡ settled old.phase (owed_in new.outbox))
    × ((length (owed_in new.outbox) < length (owed_in old.outbox)) ⊎ ((owed_in old.outbox ≡ []) × (old.phase ≡ Sends true)))
Moves old new Ended = (old.phase ≡ Wants) × (new.phase ≡ Wants) × (new.inbox ≡ old.inbox) × (new.outbox ≡ old.outbox)
Moves old new Over = IsLast old.phase × (owed_in old.outbox ≡ []) × (new ≡ old)

-- a read gave so many bytes
abbrev pub Gives : Option (List ℕ) → Option (List ℕ) → ℕ → Type 0
Gives before after n = (piece : List ℕ) × (length piece ≡ n) × Consumes before after piece

-- what a step takes of the reads that are left, and of the reader: one read, with what it gave, or nothing
abbrev pub Spends : {R : Type 0} → (R → Reads) → (R → Option (List ℕ)) → Stepped → ℕ → ℕ → R → R → Type 0
Spends made remaining (Read n) reads left old new = (left + 1 ≡ reads) × MakesSome (made old) (made new) 1 × Gives (remaining old) (remaining new) n
Spends made remaining Ended reads left old new = (left + 1 ≡ reads) × MakesSome (made old) (made new) 1 × Gives (remaining old) (remaining new) 0
Spends made remaining _ reads left old new = (left ≡ reads) × (new ≡ old)

-- known bytes grow by what is no longer to be sent
abbrev pub SendsOf : List ℕ → List ℕ → Option (List ℕ) → Option (List ℕ) → Type 0
SendsOf owed left before after = (front : List ℕ) × (owed ≡ front ++ left) × Appends before after front

-- what a step gives the writer: a front of what is to be sent, of which the rest still is; or nothing
abbrev pub Writes : {W : Type 0} → (W → Option (List ℕ)) → Stepped → List ℕ → List ℕ → W → W → Type 0
Writes contents Sent owed left old new = SendsOf owed left (contents old) (contents new)
Writes contents _ owed left old new = new ≡ old

-- ---- what came, and what is made of it

-- the most bytes of one read
abbrev pub piece_room : ℕ
piece_room = 16384

-- one read into so much room gave these bytes, and none only where no more come
pub record IsOneRead {R : Type 0} (made : R → Reads) (remaining : R → Option (List ℕ)) (gives : R → List ℕ → R → Type 0) (old new : R) (room : ℕ) (piece : List ℕ) : Type 0 where
  pub counted : MakesReads (made old) (made new) 1 room
  pub gave : gives old piece new
  pub used : Consumes (remaining old) (remaining new) piece
  pub end : piece ≡ [] → IsAtEnd (remaining new)

-- These bytes came and aren't used up. Where a message is looked for, or more of it has to come, nothing is to be sent.
abbrev pub IsCome : List (List ℕ) → List ℕ → State → List ℕ → Phase → Type 0
IsCome tokens came inbox owed Turns = Holds tokens came inbox × (owed ≡ [])
IsCome tokens came inbox owed Wants = Holds tokens came inbox × (owed ≡ []) × IsUnfinished came × (0 < room_of inbox)
IsCome tokens came inbox owed (Sends stays) = Holds tokens came inbox
IsCome tokens came inbox owed Refuses = Holds tokens came inbox

abbrev pub HasCome : List (List ℕ) → List ℕ → Connection → Type 0
HasCome tokens came c = IsCome tokens came c.inbox (owed_in c.outbox) c.phase

-- What a turn makes of what came. What is to be sent is the answer to the first message, by one turn of the repository; or that to
-- what no message begins with; or nothing, where more bytes have to come.
abbrev pub IsTaken : List (List ℕ) → List ℕ → Plain → Plain → State → List ℕ → Phase → Type 0
IsTaken tokens came old new inbox owed Turns = ⊥
IsTaken tokens came old new inbox owed Wants = IsCome tokens came inbox owed Wants × (new ≡ old)
IsTaken tokens came old new inbox owed (Sends stays) = IsAnswered tokens came inbox old new owed stays
IsTaken tokens came old new inbox owed Refuses = IsCome tokens came inbox owed Refuses × (new ≡ old) × ((fault : Fault) × FailsBy came fault × (owed ≡ fault_text fault))

-- what a step makes of what came: a turn takes a message of it, and a read, of these bytes, puts them behind it
abbrev pub Takes : List (List ℕ) → List ℕ → Plain → Plain → Connection → (List ℕ → Type 0) → Stepped → Type 0
Takes tokens came old new c reads Turned = IsTaken tokens came old new c.inbox (owed_in c.outbox) c.phase
Takes tokens came old new c reads (Read n) = (piece : List ℕ) × (length piece ≡ n) × reads piece × HasCome tokens (came ++ piece) c
Takes tokens came old new c reads Ended = reads [] × HasCome tokens came c
Takes tokens came old new c reads _ = HasCome tokens came c
