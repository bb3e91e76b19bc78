-- What one turn of a connection does.
use Rattle.std.specs.Prelude.{◌≡◌, ℕ, ◌<◌, ◌≤◌, ◌+◌, ◌⊎◌, Bool, List, drop, Result, Ok, Err, ⊤}
use Rattle.rp_plain.specs.Plain.{Plain}
use Rattle.rp_plain.specs.declared.messages.Reply as replies
use Rattle.http_routes.specs.Answers.{bare_text, bare_status, no_memory_text}
use Rattle.http_messages.specs.Next.{Call, IsCall, FailsBy}
use Rattle.rp_messages.specs.Answers.{Answer, answer_bytes, answer_of_reply}
use Rattle.rp_messages.specs.Meaning.{Effect, MayAnswer, left_by, meant, MessageRun}
use Rattle.rp_messages.specs.Routing.{Routed, Asks, Unreadable, Unasked}
use Rattle.rp_messages.specs.declared.routing.Asked.{Asked}
use Rattle.rp_messages.specs.declared.routing.Unrouted.{Unrouted}
use Rattle.rp_messages.specs.declared.routing.Unrouted.TheVariants.{Head, BadRequest, NoMemory}
use Rattle.rp_http.specs.declared.inbox.Dropped.{Dropped}
use Rattle.rp_http.specs.declared.inbox.Dropped.TheVariants as dropped
use Rattle.rp_http.specs.declared.turn.Turn.{Turn}
use Rattle.rp_http.specs.declared.turn.Turn.TheVariants.{Answered, Refused, Wants}
use Rattle.rp_http.specs.Bytes.{text_in}
use Rattle.rp_http.specs.Inboxes.{State, Holds, room_of, weight}
use Rattle.rp_http.specs.Runs.{IsUnfinished}

-- the bytes are an answer to what is meant, and this is what it leaves
pub record Answers (old new : Plain) (meaning : Effect) (bytes : List ℕ) : Type 0 where
  pub answer : Answer
  pub may : MayAnswer meaning answer
  pub content : new ≡ left_by old meaning answer
  pub is : bytes ≡ answer_bytes answer

-- the first message that came was answered by these bytes, and is used up
pub record IsAnswered (tokens : List (List ℕ)) (came : List ℕ) (left : State) (old new : Plain) (bytes : List ℕ) (stays : Bool) : Type 0 where
  pub call : Call
  pub size : ℕ
  pub is : IsCall came call size
  pub holds : Holds tokens (drop size came) left
  pub same : call.parts.stays ≡ stays
  pub answers : Answers old new (meant tokens old call) bytes

-- a message was answered; or none can come; or more bytes have to come, and may
abbrev pub IsTurn : List (List ℕ) → List ℕ → State → Plain → Plain → Turn → Type 0
IsTurn tokens came left old new (Answered bytes stays) = IsAnswered tokens came left old new (text_in bytes) stays
IsTurn tokens came left old new (Refused fault) = FailsBy came fault × Holds tokens came left × (new ≡ old)
IsTurn tokens came left old new Wants = IsUnfinished came × Holds tokens came left × (0 < room_of left) × (new ≡ old)

-- a message that is answered leaves less to do
abbrev pub IsLess : State → State → Turn → Type 0
IsLess before after (Answered bytes stays) = weight after < weight before
IsLess before after (Refused fault) = ⊤
IsLess before after Wants = weight after ≤ weight before + 1

-- some messages lead from the one to the other
abbrev pub Leaves : List (List ℕ) → Plain → Plain → Type 0
Leaves tokens old new = (calls : List Call) × (answers : List Answer) × MessageRun tokens old calls answers new

-- what a message was found to ask for, want of memory aside
abbrev pub IsRouted : Routed → Result Asked Unrouted → Type 0
IsRouted routed (Ok asked) = routed ≡ Asks asked.partner asked.request
IsRouted routed (Err (Head bare)) = routed ≡ Unasked bare
IsRouted routed (Err BadRequest) = routed ≡ Unreadable
IsRouted routed (Err NoMemory) = ⊤

-- the bytes of this reply, or of that for want of memory
abbrev pub IsToldOr : replies.Reply → List ℕ → Type 0
IsToldOr reply bytes = (bytes ≡ answer_of_reply reply) ⊎ (bytes ≡ no_memory_text)

-- what is answered to a message whose body was dropped
abbrev pub dropped_text : Dropped → List ℕ
dropped_text (dropped.ByHead bare) = bare_text (bare_status bare)
dropped_text dropped.NoMemory = no_memory_text
