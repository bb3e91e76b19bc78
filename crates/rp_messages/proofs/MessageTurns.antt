-- A run of messages is a run of the turns that they ask for.
use Rattle.std.proofs.Common.{◌≡◌, Bool, true, false, true≢false, List, [], ◌∷◌, refl, sym, ap, subst}
use Rattle.std.specs.Prelude.{if◌then◌else◌, map}
use Rattle.rp_plain.specs.declared.messages.Reply.{Reply}
use Rattle.rp_plain.specs.Plain.{Plain}
use Rattle.rp_plain.specs.Turns.{Turn, Run}
use Rattle.rp_laws.specs.Laws.{TwoRuns}
use Rattle.rp_messages.specs.Routing.{Routed, Asks, Unreadable, Unasked, routed}
use Rattle.rp_messages.specs.Answers.{Answer, Told, Barely, answer_of_reply}
use Rattle.rp_messages.specs.Meaning.{meant_by, is_no_memory_answer, MayAnswer, left_by}
use Rattle.rp_messages.proofs.Partners.{message_partners}
use Rattle.rp_messages.specs.Laws.{turn_in, with_turn, with_reply, turns_of, replies_of, MessagesAreTurns, TwoConnections}

-- ---- one message

same_if : (r : Plain) (t : Bool) → (if t then r else r) ≡ r
same_if r true = refl
same_if r false = refl

reply_in : Answer → Reply → Reply
reply_in (Told reply) other = reply
reply_in (Barely bare) other = other

is_told : Answer → Bool
is_told (Told reply) = true
is_told (Barely bare) = false

one_turn : (r end : Plain) (asked : Routed) (told : Answer) (turns : List Turn) (replies : List Reply) → MayAnswer (meant_by r asked) told
    → Run (left_by r (meant_by r asked) told) turns replies end → Run r (with_turn (turn_in r.partners asked) turns) (with_reply (turn_in r.partners asked) told replies) end
unfolding reply_in is_told
one_turn r end (Asks place q) (Told reply) turns replies may run = (λ remembered. ap (λ a. reply_in a reply) (may remembered), run)
one_turn r end (Asks place q) (Barely bare) turns replies may run = absurd (true≢false (sym (ap is_told (may refl))))
one_turn r end Unreadable told turns replies may run = subst (λ s. Run s turns replies end) (same_if r (is_no_memory_answer told)) run
one_turn r end (Unasked bare) told turns replies may run = subst (λ s. Run s turns replies end) (same_if r (is_no_memory_answer told)) run

pub messages_are_turns : MessagesAreTurns
messages_are_turns tokens r end [] [] run = run
messages_are_turns tokens r end [] (told ∷ answers) run = absurd run
messages_are_turns tokens r end (c ∷ cs) [] run = absurd run
messages_are_turns tokens r end (c ∷ cs) (told ∷ answers) run =
    let asked = routed tokens c in
    let next = left_by r (meant_by r asked) told in
    let stays : next.partners ≡ r.partners = message_partners tokens r c told in
    let later : Run next (turns_of tokens r.partners cs) (replies_of tokens r.partners cs answers) end =
    subst (λ ps. Run next (turns_of tokens ps cs) (replies_of tokens ps cs answers) end) stays (messages_are_turns tokens next end cs answers run.1) in
    one_turn r end asked told (turns_of tokens r.partners cs) (replies_of tokens r.partners cs answers) run.0 later

pub two_connections : TwoRuns → TwoConnections
two_connections two_runs tokens marks r s end last c calls others answers told ordered ordered' run run' outside outside' same asked =
    ap (map answer_of_reply) (two_runs r s end last c (turns_of tokens r.partners calls) (turns_of marks s.partners others) (replies_of tokens r.partners calls answers) (replies_of marks s.partners others told)
    ordered ordered' (messages_are_turns tokens r end calls answers run) (messages_are_turns marks s last others told run') outside outside' same asked)
