-- What came by a connection behind the messages that were answered.
use Rattle.std.specs.Prelude.{◌≡◌, ℕ, ◌+◌, ◌-◌, ◌≤◌, ◌<◌, ◌⊎◌, Bool, List, [], length, ⊤}
use Rattle.http_messages.specs.Next.{Parts, Announces}
use Rattle.rp_messages.specs.Routing.{Stops, headed}
use Rattle.rp_http.specs.declared.inbox.Dropped.{Dropped}
use Rattle.rp_http.specs.declared.inbox.Dropped.TheVariants.{ByHead, NoMemory}
use Rattle.rp_http.specs.declared.inbox.Coming.{Coming}
use Rattle.rp_http.specs.declared.inbox.Coming.TheVariants.{Heads, Body, Skip}
use Rattle.rp_http.specs.declared.inbox.Ready.{Ready}
use Rattle.rp_http.specs.declared.inbox.Ready.TheVariants.{Looks, Waits, Skipped}

-- how many bytes of heads, and of what stands behind them, are held
abbrev pub held_room : ℕ
held_room = 32768

-- bytes that the next message is looked for in; those of one message, of so many bytes, that may not be there yet; or how many
-- bytes are still to come of one whose body is dropped, and what it is answered
pub data State : Type 0 where
  Open : List ℕ → State
  Gathers : List ℕ → ℕ → Bool → State
  Skips : ℕ → Bool → Dropped → State

abbrev pub state_of : List ℕ → Coming → State
state_of held Heads = Open held
state_of held (Body bytes size stays) = Gathers bytes.items size stays
state_of held (Skip left stays why) = Skips left stays why

-- the bytes are of one message, whose head is whole, and which has n bytes
pub record IsComing (bytes : List ℕ) (n : ℕ) (stays : Bool) : Type 0 where
  pub parts : Parts
  pub start : ℕ
  pub announced : Announces bytes parts start n
  pub within : length bytes ≤ n
  pub same : parts.stays ≡ stays

-- beside a body nothing else is held
abbrev pub IsSound : List ℕ → Coming → Type 0
IsSound held Heads = ⊤
IsSound held (Body bytes size stays) = (held ≡ []) × IsComing bytes.items size stays
IsSound held (Skip left stays why) = held ≡ []

-- the bytes that are at hand
abbrev pub shown : State → List ℕ
shown (Open bytes) = bytes
shown (Gathers bytes size stays) = bytes
shown (Skips left stays why) = []

-- how many more bytes may come before some are used up
abbrev pub room_of : State → ℕ
room_of (Open bytes) = held_room - length bytes
room_of (Gathers bytes size stays) = size - length bytes
room_of (Skips left stays why) = left

-- a message that is dropped may be: its head decides the answer, or memory was wanting
abbrev pub MayDrop : List (List ℕ) → Parts → Dropped → Type 0
MayDrop tokens parts (ByHead bare) = headed tokens parts ≡ Stops bare
MayDrop tokens parts NoMemory = ⊤

-- these bytes came, and are at hand, or are of the message that is dropped
abbrev pub Holds : List (List ℕ) → List ℕ → State → Type 0
Holds tokens came (Open bytes) = bytes ≡ came
Holds tokens came (Gathers bytes size stays) = (bytes ≡ came) × IsComing came size stays
Holds tokens came (Skips left stays why) = (coming : IsComing came (length came + left) stays) × MayDrop tokens coming.parts why

-- an end of a loop over messages: each that is taken makes this less
abbrev pub weight : State → ℕ
weight (Open bytes) = length bytes
weight (Gathers bytes size stays) = length bytes
weight (Skips left stays why) = 1

-- ---- what is to be done

-- bytes may begin with a whole message
abbrev pub IsLooked : State → Type 0
IsLooked (Open bytes) = ⊤
IsLooked (Gathers bytes size stays) = IsComing bytes size stays × (size ≤ length bytes)
IsLooked (Skips left stays why) = ⊥

-- more bytes have to come
abbrev pub IsWaiting : State → Type 0
IsWaiting (Open bytes) = ⊥
IsWaiting (Gathers bytes size stays) = length bytes < size
IsWaiting (Skips left stays why) = 0 < left

abbrev pub IsReady : State → Ready → Type 0
IsReady state Looks = IsLooked state
IsReady state Waits = IsWaiting state
IsReady state (Skipped stays why) = state ≡ Skips 0 stays why

-- there is room for all of a message, or it is dropped
abbrev pub IsGathered : List ℕ → ℕ → Bool → State → Type 0
IsGathered bytes size stays state = (state ≡ Gathers bytes size stays) ⊎ (state ≡ Skips (size - length bytes) stays NoMemory)

-- a message of so many bytes may be used up: behind one that was gathered nothing stands
abbrev pub IsWhole : State → ℕ → Type 0
IsWhole (Open bytes) size = size ≤ length bytes
IsWhole (Gathers bytes n stays) size = size ≡ length bytes
IsWhole (Skips left stays why) size = ⊥
