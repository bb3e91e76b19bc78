-- A run over lines is a run of the turns that they ask for.
use Rattle.std.proofs.Common.{◌≡◌, ℕ, Bool, true, false, List, [], ◌∷◌, length, nat_lt, Option, Some, None, refl, sym, ap, subst}
use Rattle.std.specs.Prelude.{if◌then◌else◌, map}
use Rattle.rp_plain.specs.declared.messages.Reply.{Reply}
use Rattle.rp_plain.specs.declared.messages.Refusal.{Refusal}
use Rattle.rp_plain.specs.declared.messages.Refusal.TheVariants.{BadRequest, TooLarge}
use Rattle.rp_plain.specs.Plain.{Plain}
use Rattle.rp_plain.specs.Runs.{Effect, is_no_memory, MayReply, left_by}
use Rattle.rp_plain.specs.Turns.{Turn, Run}
use Rattle.rp_laws.specs.Laws.{TwoRuns}
use Rattle.rp_requests.specs.Asks.{asked_of}
use Rattle.rp_replies.specs.Replies.{line_of_reply}
use Rattle.rp_io.specs.Limits.{line_limit}
use Rattle.rp_repo.specs.LineRuns.{turn_for, refusal_of, meant_for, meant}
use Rattle.rp_repo.specs.LineLaws.{turn_of, with_turn, with_reply, turns_of, replies_of, LinesAreTurns, TwoInputs}
use Rattle.rp_repo.proofs.Partners.{next_partners, left_partners}

-- why a line is refused that asks for no turn
abbrev refusal_for : List ℕ → Refusal
refusal_for line = if nat_lt line_limit (length line) then TooLarge else BadRequest

by_length : (r : Plain) (asked : Option Turn) (t : Bool) → (if t then refusal_of r TooLarge else meant_for r BadRequest asked) ≡ meant_for r (if t then TooLarge else BadRequest) (if t then None else asked)
by_length r asked true = refl
by_length r asked false = refl

meaning : (r : Plain) (line : List ℕ) → meant r line ≡ meant_for r (refusal_for line) (turn_of r.partners line)
meaning r line = by_length r (turn_for r.partners (asked_of line)) (nat_lt line_limit (length line))

meant_partners : (r : Plain) (refusal : Refusal) (turn : Option Turn) → (meant_for r refusal turn).next.partners ≡ r.partners
meant_partners r refusal None = refl
meant_partners r refusal (Some t) = next_partners r t.caller t.request

same_if : (r : Plain) (t : Bool) → (if t then r else r) ≡ r
same_if r true = refl
same_if r false = refl

one_turn : (r end : Plain) (refusal : Refusal) (turn : Option Turn) (reply : Reply) (turns : List Turn) (replies : List Reply) → MayReply (meant_for r refusal turn) reply
    → Run (left_by r (meant_for r refusal turn) reply) turns replies end → Run r (with_turn turn turns) (with_reply turn reply replies) end
one_turn r end refusal None reply turns replies may run = subst (λ s. Run s turns replies end) (same_if r (is_no_memory reply)) run
one_turn r end refusal (Some t) reply turns replies may run = (may, run)

pub lines_are_turns : LinesAreTurns
lines_are_turns r end [] [] run = run
lines_are_turns r end [] (reply ∷ replies) run = absurd run
lines_are_turns r end (line ∷ lines) [] run = absurd run
lines_are_turns r end (line ∷ lines) (reply ∷ replies) run =
    let refusal = refusal_for line in
    let asked = turn_of r.partners line in
    let means = meaning r line in
    let next = left_by r (meant r line) reply in
    let stays : next.partners ≡ r.partners = left_partners r (meant r line) reply (subst (λ (m : Effect). m.next.partners ≡ r.partners) (sym means) (meant_partners r refusal asked)) in
    let later : Run next (turns_of r.partners lines) (replies_of r.partners lines replies) end =
    subst (λ ps. Run next (turns_of ps lines) (replies_of ps lines replies) end) stays (lines_are_turns next end lines replies run.1) in
    one_turn r end refusal asked reply (turns_of r.partners lines) (replies_of r.partners lines replies)
    (subst (λ m. MayReply m reply) means run.0) (subst (λ m. Run (left_by r m reply) (turns_of r.partners lines) (replies_of r.partners lines replies) end) means later)

pub two_inputs : TwoRuns → TwoInputs
two_inputs two_runs r s end last c lines others replies answers ordered ordered' run run' outside outside' same asked =
    ap (map line_of_reply) (two_runs r s end last c (turns_of r.partners lines) (turns_of s.partners others) (replies_of r.partners lines replies) (replies_of s.partners others answers) ordered ordered'
    (lines_are_turns r end lines replies run) (lines_are_turns s last others answers run') outside outside' same asked)
