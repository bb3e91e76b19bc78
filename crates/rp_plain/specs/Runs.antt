-- Runs: turns of any kind, one after another, each with a reply.
use Rattle.std.specs.Prelude.{◌≡◌, Bool, true, false, List, [], ◌∷◌, if◌then◌else◌}
use Rattle.rp_plain.specs.declared.messages.Refusal.TheVariants.{NoMemory}
use Rattle.rp_plain.specs.declared.messages.Reply.{Reply}
use Rattle.rp_plain.specs.declared.messages.Reply.TheVariants.{Refused}
use Rattle.rp_plain.specs.Plain.{Plain}

-- what a turn means to a repository: its reply, want of memory aside, and the repository after it
pub record Effect : Type 0 where
  pub reply : Reply
  pub next : Plain

abbrev pub is_no_memory : Reply → Bool
is_no_memory (Refused NoMemory) = true
is_no_memory _ = false

-- the reply is that one, or that memory is wanting
abbrev pub MayReply : Effect → Reply → Type 0
MayReply effect reply = is_no_memory reply ≡ false → reply ≡ effect.reply

-- the repository after a turn with this reply: where memory was wanting, as it was
abbrev pub left_by : Plain → Effect → Reply → Plain
left_by r effect reply = if is_no_memory reply then r else effect.next

module _ {T : Type 0} (effect : Plain → T → Effect) where
  -- the turns may have these replies, and lead from r to end
  abbrev pub Run : Plain → List T → List Reply → Plain → Type 0
  Run r [] [] end = end ≡ r
  Run r (t ∷ ts) (reply ∷ replies) end = MayReply (effect r t) reply × Run (left_by r (effect r t) reply) ts replies end
  Run r [] (reply ∷ replies) end = ⊥
  Run r (t ∷ ts) [] end = ⊥
