-- How far a connection is served.
use Rattle.std.specs.Prelude.{◌≡◌, ℕ, ◌<◌, ◌==◌, ◌⊎◌, Bool, false, List, [], ◌∷◌, ◌++◌, length, if◌then◌else◌, Option}
use Rattle.std.specs.Io.KnownBytes.{prepend_known, Appends}
use Rattle.rp_plain.specs.Plain.{Plain}
use Rattle.http_messages.specs.declared.message.Fault.{Fault}
use Rattle.http_messages.specs.Next.{Call, FailsBy}
use Rattle.rp_http.specs.declared.connection.Phase.{Phase}
use Rattle.rp_http.specs.declared.connection.Phase.TheVariants.{Turns, Wants, Sends, Refuses}
use Rattle.rp_http.specs.declared.connection.Connection.{Connection}
use Rattle.rp_http.specs.declared.connection.Stage.{Stage}
use Rattle.rp_http.specs.declared.connection.Stage.TheVariants.{Nothing, Head, Body, Reply}
use Rattle.rp_http.specs.Bytes.{owed_in}
use Rattle.rp_http.specs.Inboxes.{State, Open, Gathers, Skips, Holds, room_of}
use Rattle.rp_http.specs.Runs.{TakesCalls, AllStay, OnKnown, IsUnfinished, AnsweredInPart, IsFirstRun, fault_text}

-- All that was answered is sent. These bytes came behind it, and the rest is known or not.
pub record IsIdle (tokens : List (List ℕ)) (start now : Plain) (input known before after : Option (List ℕ)) (inbox : State) (owed : List ℕ) : Type 0 where
  pub came : List ℕ
  pub holds : Holds tokens came inbox
  pub none : owed ≡ []
  pub first : IsFirstRun tokens start now input before after
  pub rest : first.left ≡ prepend_known came known

-- what came is no whole message, and more may come
pub record IsShort (tokens : List (List ℕ)) (start now : Plain) (input known before after : Option (List ℕ)) (inbox : State) (owed : List ℕ) : Type 0 where
  pub idle : IsIdle tokens start now input known before after inbox owed
  pub unfinished : IsUnfinished idle.came
  pub room : 0 < room_of inbox

-- of the answer to the last message this is still to be sent
pub record IsSending (tokens : List (List ℕ)) (start now : Plain) (input known before after : Option (List ℕ)) (inbox : State) (owed : List ℕ) (stays : Bool) : Type 0 where
  pub came : List ℕ
  pub holds : Holds tokens came inbox
  pub calls : List Call
  pub last : Call
  pub takes : TakesCalls input (prepend_known came known) (calls ++ last ∷ [])
  pub stay : AllStay calls
  pub same : last.parts.stays ≡ stays
  pub part : AnsweredInPart tokens start now before after (calls ++ last ∷ [])
  pub owes : part.back ≡ owed

-- no message can come, and of the answer to that this is still to be sent
pub record IsRefusing (tokens : List (List ℕ)) (start now : Plain) (input before after : Option (List ℕ)) (owed : List ℕ) : Type 0 where
  pub mid : Option (List ℕ)
  pub first : IsFirstRun tokens start now input before mid
  pub fault : Fault
  pub fails : OnKnown first.left (λ rest. FailsBy rest fault)
  pub front : List ℕ
  pub cut : fault_text fault ≡ front ++ owed
  pub written : Appends mid after front

abbrev pub IsAt : List (List ℕ) → Plain → Plain → Option (List ℕ) → Option (List ℕ) → Option (List ℕ) → Option (List ℕ) → State → List ℕ → Phase → Type 0
IsAt tokens start now input known before after inbox owed Turns = IsIdle tokens start now input known before after inbox owed
IsAt tokens start now input known before after inbox owed Wants = IsShort tokens start now input known before after inbox owed
IsAt tokens start now input known before after inbox owed (Sends stays) = IsSending tokens start now input known before after inbox owed stays
IsAt tokens start now input known before after inbox owed Refuses = IsRefusing tokens start now input before after owed

-- A connection whose reader began with this input, and whose writer held those bytes, is served so far: the repository was the one
-- then and is the other now.
abbrev pub IsServed : List (List ℕ) → Plain → Plain → Option (List ℕ) → Option (List ℕ) → Option (List ℕ) → Option (List ℕ) → Connection → Type 0
IsServed tokens start now input known before after c = IsAt tokens start now input known before after c.inbox (owed_in c.outbox) c.phase

-- the connection ends once all is sent
abbrev pub IsLast : Phase → Type 0
IsLast phase = (phase ≡ Sends false) ⊎ (phase ≡ Refuses)

-- ---- what it waits for

-- by what came, of what more bytes would be
abbrev pub stage_in : State → Stage
stage_in (Open bytes) = if length bytes == 0 then Nothing else Head
stage_in (Gathers bytes size stays) = Body
stage_in (Skips left stays why) = Body

abbrev pub stage_at : State → Phase → Stage
stage_at inbox Turns = stage_in inbox
stage_at inbox Wants = stage_in inbox
stage_at inbox (Sends stays) = Reply
stage_at inbox Refuses = Reply
