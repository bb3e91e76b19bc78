-- What messages mean to a repository, and runs of messages.
use Rattle.std.specs.Prelude.{◌≡◌, ℕ, Bool, false, List, [], ◌∷◌, if◌then◌else◌, slice_index_or}
use Rattle.rp_plain.specs.declared.messages.Refusal.TheVariants.{BadRequest}
use Rattle.rp_plain.specs.declared.messages.Reply.TheVariants.{Refused}
use Rattle.rp_plain.specs.Plain.{Plain}
use Rattle.rp_plain.specs.Runs.{is_no_memory}
use Rattle.rp_plain.specs.Turns.{Turn, effect}
use Rattle.http_messages.specs.Next.{Call}
use Rattle.rp_messages.specs.Routing.{Routed, Asks, Unreadable, Unasked, routed}
use Rattle.rp_messages.specs.Answers.{Answer, Told, Barely}

-- what a message means: its answer, want of memory aside, and the repository after it
pub record Effect : Type 0 where
  pub answer : Answer
  pub next : Plain

-- A partner's request is his turn, whose token stands where his name does. All else changes nothing.
abbrev pub meant_by : Plain → Routed → Effect
meant_by r (Asks place request) =
    let turn : Turn = record { caller = slice_index_or r.partners place []; request = request } in
    record { answer = Told (effect r turn).reply; next = (effect r turn).next }
meant_by r Unreadable = record { answer = Told (Refused BadRequest); next = r }
meant_by r (Unasked bare) = record { answer = Barely bare; next = r }

abbrev pub meant : List (List ℕ) → Plain → Call → Effect
meant tokens r call = meant_by r (routed tokens call)

abbrev pub is_no_memory_answer : Answer → Bool
is_no_memory_answer (Told reply) = is_no_memory reply
is_no_memory_answer (Barely bare) = false

-- the answer is that one, or that memory is wanting
abbrev pub MayAnswer : Effect → Answer → Type 0
MayAnswer effect answer = is_no_memory_answer answer ≡ false → answer ≡ effect.answer

-- the repository after a message with this answer: where memory was wanting, as it was
abbrev pub left_by : Plain → Effect → Answer → Plain
left_by r effect answer = if is_no_memory_answer answer then r else effect.next

-- the messages may have these answers, and lead from r to end
abbrev pub MessageRun : List (List ℕ) → Plain → List Call → List Answer → Plain → Type 0
MessageRun tokens r [] [] end = end ≡ r
MessageRun tokens r (c ∷ cs) (answer ∷ answers) end = MayAnswer (meant tokens r c) answer × MessageRun tokens (left_by r (meant tokens r c) answer) cs answers end
MessageRun tokens r [] (answer ∷ answers) end = ⊥
MessageRun tokens r (c ∷ cs) [] end = ⊥
