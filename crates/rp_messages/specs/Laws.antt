-- What holds of runs of messages for each partner.
use Rattle.std.specs.Prelude.{◌≡◌, ℕ, List, [], ◌∷◌, map, Option, Some, None, slice_index_or}
use Rattle.rp_plain.specs.Plain.{Plain, part}
use Rattle.rp_plain.specs.Turns.{Turn, Run, OthersOutside, requests_of, replies_to}
use Rattle.rp_plain.specs.Valid.{IsOrdered}
use Rattle.rp_plain.specs.declared.messages.Reply.{Reply}
use Rattle.http_messages.specs.Next.{Call}
use Rattle.http_routes.specs.declared.answers.Bare.{Bare}
use Rattle.rp_messages.specs.Routing.{Stops, headed, Routed, Asks, Unreadable, Unasked, routed}
use Rattle.rp_messages.specs.Answers.{Answer, Told, Barely, answer_of_reply}
use Rattle.rp_messages.specs.Meaning.{meant, MessageRun}

-- the turn that a message asks for; one that is no partner's request asks for none
abbrev pub turn_in : List (List ℕ) → Routed → Option Turn
turn_in partners (Asks place request) = Some (record { caller = slice_index_or partners place []; request = request })
turn_in partners Unreadable = None
turn_in partners (Unasked bare) = None

abbrev pub turn_of : List (List ℕ) → List (List ℕ) → Call → Option Turn
turn_of tokens partners call = turn_in partners (routed tokens call)

abbrev pub with_turn : Option Turn → List Turn → List Turn
with_turn None turns = turns
with_turn (Some turn) turns = turn ∷ turns

-- (a turn's answer is always a reply)
abbrev pub with_reply : Option Turn → Answer → List Reply → List Reply
with_reply None answer replies = replies
with_reply (Some turn) (Told reply) replies = reply ∷ replies
with_reply (Some turn) (Barely bare) replies = replies

-- the turns that messages ask for
abbrev pub turns_of : List (List ℕ) → List (List ℕ) → List Call → List Turn
turns_of tokens partners [] = []
turns_of tokens partners (c ∷ cs) = with_turn (turn_of tokens partners c) (turns_of tokens partners cs)

-- the replies to those
abbrev pub replies_of : List (List ℕ) → List (List ℕ) → List Call → List Answer → List Reply
replies_of tokens partners [] answers = []
replies_of tokens partners (c ∷ cs) [] = []
replies_of tokens partners (c ∷ cs) (answer ∷ answers) = with_reply (turn_of tokens partners c) answer (replies_of tokens partners cs answers)

-- the bytes of the answers to c's messages
abbrev pub answers_to : List ℕ → List (List ℕ) → List (List ℕ) → List Call → List Answer → List (List ℕ)
answers_to c tokens partners calls answers = map answer_of_reply (replies_to c (turns_of tokens partners calls) (replies_of tokens partners calls answers))

-- a run of messages is a run of the turns that they ask for
abbrev pub MessagesAreTurns : Type 0
MessagesAreTurns = (tokens : List (List ℕ)) (r end : Plain) (calls : List Call) (answers : List Answer) → MessageRun tokens r calls answers end
    → Run r (turns_of tokens r.partners calls) (replies_of tokens r.partners calls answers) end

-- the turns of others in a run of messages are outside for c, and no answer to c is for want of memory
abbrev pub OtherMessagesOutside : List (List ℕ) → Plain → List ℕ → List Call → List Answer → Type 0
OtherMessagesOutside tokens r c calls answers = OthersOutside r c (turns_of tokens r.partners calls) (replies_of tokens r.partners calls answers)

-- Two runs of messages, of any connections in any order, that begin with the same for c, and in which he asks the same:
-- each of his messages is answered by the same bytes.
abbrev pub TwoConnections : Type 0
TwoConnections = (tokens marks : List (List ℕ)) (r s end last : Plain) (c : List ℕ) (calls others : List Call) (answers told : List Answer) → IsOrdered r → IsOrdered s
    → MessageRun tokens r calls answers end → MessageRun marks s others told last → OtherMessagesOutside tokens r c calls answers → OtherMessagesOutside marks s c others told
    → part r c ≡ part s c → requests_of c (turns_of tokens r.partners calls) ≡ requests_of c (turns_of marks s.partners others)
    → answers_to c tokens r.partners calls answers ≡ answers_to c marks s.partners others told

-- what a head decides is the answer to each message with that head
abbrev pub HeadDecides : Type 0
HeadDecides = (tokens : List (List ℕ)) (call : Call) (bare : Bare) → headed tokens call.parts ≡ Stops bare → routed tokens call ≡ Unasked bare

-- A message that asks for no turn is answered by what it is, whatever the repository holds, and changes nothing.
abbrev pub OthersAreFixed : Type 0
OthersAreFixed = (tokens : List (List ℕ)) (r s : Plain) (call : Call) → turn_of tokens r.partners call ≡ None
    → ((meant tokens r call).answer ≡ (meant tokens s call).answer) × ((meant tokens r call).next ≡ r)
