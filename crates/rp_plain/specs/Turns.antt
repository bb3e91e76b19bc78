-- Turns of many partners, and those of others that are outside of what one of them reaches.
use Rattle.std.specs.Prelude.{◌≡◌, ℕ, true, false, ◌⊎◌, List, [], ◌∷◌, if◌then◌else◌}
use Rattle.std.specs.Str.{bytes_eq}
use Rattle.rp_rows.specs.Rows.{Text}
use Rattle.rp_plain.specs.declared.messages.Request.{Request}
use Rattle.rp_plain.specs.declared.messages.Reply.{Reply}
use Rattle.rp_plain.specs.Plain.{Plain}
use Rattle.rp_plain.specs.Edits.{Avoids}
use Rattle.rp_plain.specs.Readers.{asked}
use Rattle.rp_plain.specs.Step.{answer, reply_to, next}
use Rattle.rp_plain.specs.Runs as runs
use Rattle.rp_plain.specs.Runs.{Effect, is_no_memory, left_by}

-- a partner's request
pub record Turn : Type 0 where
  pub caller : List ℕ
  pub request : Request

abbrev pub effect : Plain → Turn → Effect
effect r t = record { reply = reply_to r t.caller t.request; next = next r t.caller t.request }

abbrev pub after : Plain → Turn → Reply → Plain
after r t reply = left_by r (effect r t) reply

-- a run of turns
abbrev pub Run : Plain → List Turn → List Reply → Plain → Type 0
Run = runs.Run effect

-- the turn changes nothing, or nothing that c reaches and no grant of his
abbrev pub IsOutside : Plain → Text → Turn → Reply → Type 0
IsOutside r c t reply = (after r t reply ≡ r) ⊎ Avoids r c (answer (asked r t.caller) t.caller t.request).edits

abbrev pub IsOutsideOrOwn : Plain → Text → Turn → Reply → Type 0
IsOutsideOrOwn r c t reply = (bytes_eq t.caller c ≡ false → IsOutside r c t reply) × (bytes_eq t.caller c ≡ true → is_no_memory reply ≡ false)

-- each turn of another is outside for c at its moment, and no reply to c is for want of memory
abbrev pub OthersOutside : Plain → Text → List Turn → List Reply → Type 0
OthersOutside r c (t ∷ ts) (reply ∷ replies) = IsOutsideOrOwn r c t reply × OthersOutside (after r t reply) c ts replies
OthersOutside r c [] replies = Unit {0}
OthersOutside r c (t ∷ ts) [] = Unit {0}

abbrev pub requests_of : Text → List Turn → List Request
requests_of c [] = []
requests_of c (t ∷ ts) = if bytes_eq t.caller c then t.request ∷ requests_of c ts else requests_of c ts

abbrev pub replies_to : Text → List Turn → List Reply → List Reply
replies_to c [] replies = []
replies_to c (t ∷ ts) [] = []
replies_to c (t ∷ ts) (reply ∷ replies) = if bytes_eq t.caller c then reply ∷ replies_to c ts replies else replies_to c ts replies

-- the replies to c's requests with no one else, and what they leave
abbrev pub alone : Plain → Text → List Request → List Reply
alone r c [] = []
alone r c (q ∷ qs) = reply_to r c q ∷ alone (next r c q) c qs

abbrev pub alone_end : Plain → Text → List Request → Plain
alone_end r c [] = r
alone_end r c (q ∷ qs) = alone_end (next r c q) c qs
