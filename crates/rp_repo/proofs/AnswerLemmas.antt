-- What is answered to a line is what the line means.
use Rattle.std.proofs.Common.{◌≡◌, ℕ, suc, ◌<◌, true, false, List, [], length, nat_lt, Option, Some, None, refl, sym, ◌∙◌, ap, subst, arith}
use Rattle.std.specs.Prelude.{if◌then◌else◌, slice_index_or, Result, Ok, Err, IfOk, OnOk, MatchOption}
use Rattle.std.proofs.lemmas.Bool.Decides.{nat_tests}
use Rattle.rp_plain.specs.declared.messages.Reply.TheVariants.{Refused}
use Rattle.rp_plain.specs.declared.messages.Refusal.{Refusal}
use Rattle.rp_plain.specs.declared.messages.Refusal.TheVariants.{BadRequest, TooLarge}
use Rattle.rp_plain.specs.Plain.{Plain}
use Rattle.rp_plain.specs.Meaning.{has_text}
use Rattle.rp_plain.specs.Runs.{Effect, is_no_memory}
use Rattle.rp_plain.specs.Turns.{Turn, effect}
use Rattle.rp_io.specs.declared.chunk.Room.{Room}
use Rattle.rp_io.specs.declared.chunk.Room.TheVariants as room
use Rattle.rp_io.specs.Lines.{Holds}
use Rattle.rp_core.specs.Held.{Kept, made_of, made, IsPrepared}
use Rattle.rp_core.specs.declared.steps.Pending.{Pending}
use Rattle.rp_requests.specs.Asks.{asked_of}
use Rattle.rp_replies.specs.Replies.{line_of_reply}
use Rattle.rp_io.specs.Limits.{line_limit}
use Rattle.rp_repo.specs.LineRuns.{caller_of, turn_for, refusal_of, meant_for, meant, Answers}
use Rattle.rp_repo.proofs.Partners.{is_among}

-- ---- refusals

-- a refusal that isn't for want of memory
refused_answers : (r : Plain) (refusal : Refusal) (meaning : Effect) (bytes : List ℕ) → is_no_memory (Refused refusal) ≡ false → meaning ≡ refusal_of r refusal → bytes ≡ line_of_reply (Refused refusal) → Answers r r meaning bytes
refused_answers r refusal meaning bytes told means is = record {
  reply = Refused refusal;
  may = λ _. sym (ap (λ m. m.reply) means);
  content = rw told (sym (ap (λ m. m.next) means));
  is = is;
}

pub if_refused : {V E : Type 0} (items : V → List ℕ) (r : Plain) (refusal : Refusal) (meaning : Effect) (o : Result V E) → is_no_memory (Refused refusal) ≡ false → meaning ≡ refusal_of r refusal
    → IfOk o (λ v. items v ≡ line_of_reply (Refused refusal)) → IfOk o (λ v. Answers r r meaning (items v))
if_refused items r refusal meaning (Err e) told means said = tt
if_refused items r refusal meaning (Ok v) told means said = refused_answers r refusal meaning (items v) told means said

-- ---- lines

too_large : (r : Plain) (line : List ℕ) → line_limit < length line → meant r line ≡ refusal_of r TooLarge
too_large r line over =
    let is : nat_lt line_limit (length line) ≡ true = grind (arith, nat_tests) in
    ap (λ t. if t then refusal_of r TooLarge else meant_for r BadRequest (turn_for r.partners (asked_of line))) is

kept_whole : (r : Plain) (line : List ℕ) → length line < suc line_limit → meant r line ≡ meant_for r BadRequest (turn_for r.partners (asked_of line))
kept_whole r line within =
    let is : nat_lt line_limit (length line) ≡ false = grind (arith, nat_tests) in
    ap (λ t. if t then refusal_of r TooLarge else meant_for r BadRequest (turn_for r.partners (asked_of line))) is

pub if_too_large : {V E : Type 0} (items : V → List ℕ) (r : Plain) (how : Room) (kept : List ℕ) (o : Result V E) → how ≡ room.TooLarge → IfOk o (λ v. items v ≡ line_of_reply (Refused TooLarge))
    → IfOk o (λ v. (line : List ℕ) → Holds how kept line → Answers r r (meant r line) (items v))
if_too_large items r how kept (Err e) is said = tt
if_too_large items r how kept (Ok v) is said = λ line holds. refused_answers r TooLarge (meant r line) (items v) refl (too_large r line (subst (λ x. Holds x kept line) is holds).1) said

pub if_kept : {V E : Type 0} (items : V → List ℕ) (r new : Plain) (how : Room) (kept : List ℕ) (o : Result V E) → how ≡ room.Kept
    → IfOk o (λ v. Answers r new (meant_for r BadRequest (turn_for r.partners (asked_of kept))) (items v))
    → IfOk o (λ v. (line : List ℕ) → Holds how kept line → Answers r new (meant r line) (items v))
if_kept items r new how kept (Err e) is said = tt
if_kept items r new how kept (Ok v) is said = λ line holds.
    let held : Holds room.Kept kept line = subst (λ x. Holds x kept line) is holds in
    let means : meant r line ≡ meant_for r BadRequest (turn_for r.partners (asked_of kept)) = kept_whole r line (omega (arith, held.1)) ∙ ap (λ l. meant_for r BadRequest (turn_for r.partners (asked_of l))) (sym held.0) in
    subst (λ m. Answers r new m (items v)) (sym means) said

-- ---- turns

-- the partner of a name is the one whom a line names by it
pub if_partner : (partners : List (List ℕ)) (name : List ℕ) (o : Option ℕ) → MatchOption o (has_text partners name ≡ false) (λ place. (place < length partners) × (slice_index_or partners place [] ≡ name))
    → MatchOption o (caller_of partners (Some name) ≡ None) (λ place. (place < length partners) × (caller_of partners (Some name) ≡ Some (slice_index_or partners place [])))
if_partner partners name None unknown = ap (λ t. if t then Some name else None) unknown
if_partner partners name (Some place) there = (there.0, ap (λ t. if t then Some name else None) (is_among partners place name there.0 there.1) ∙ ap Some (sym there.1))

-- what was prepared, and then committed
pub if_prepared : {V E : Type 0} (items : V → List ℕ) (r : Plain) (mid : Kept) (new : Plain) (t : Turn) (pending : Pending) (o : Result V E) → IsPrepared r mid.both t pending → mid.content ≡ r
    → IfOk o (λ v. items v ≡ line_of_reply pending.reply) → OnOk o (new ≡ made pending.steps mid) → IfOk o (λ v. Answers r new (effect r t) (items v))
if_prepared items r mid new t pending (Err e) prepared same said changed = tt
if_prepared items r mid new t pending (Ok v) prepared same said changed = record {
  reply = pending.reply;
  may = prepared.replies;
  content = changed ∙ ap (made_of pending.steps mid.both) same ∙ prepared.changes;
  is = said;
}
