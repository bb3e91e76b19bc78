-- The partners stay.
use Rattle.std.proofs.Common.{◌≡◌, ℕ, true, false, List, [], ◌∷◌, refl}
use Rattle.std.specs.Prelude.{if◌then◌else◌, slice_index_or}
use Rattle.rp_rows.specs.Rows.{Text}
use Rattle.rp_plain.specs.declared.messages.Request.{Request}
use Rattle.rp_plain.specs.Plain.{Plain}
use Rattle.rp_plain.specs.Edits.{Edit, EditModel, EditGroup, edited_by, changed}
use Rattle.rp_plain.specs.Readers.{asked}
use Rattle.rp_plain.specs.Step.{answer, next}
use Rattle.http_messages.specs.Next.{Call}
use Rattle.rp_messages.specs.Routing.{Routed, Asks, Unreadable, Unasked, routed}
use Rattle.rp_messages.specs.Answers.{Answer}
use Rattle.rp_messages.specs.Meaning.{Effect, meant_by, meant, is_no_memory_answer, left_by}

changed_partners : (es : List Edit) (r : Plain) → (changed es r).partners ≡ r.partners
changed_partners [] r = refl
changed_partners (EditModel k a ∷ es) r = changed_partners es (edited_by (EditModel k a) r)
changed_partners (EditGroup k a ∷ es) r = changed_partners es (edited_by (EditGroup k a) r)

next_partners : (r : Plain) (c : Text) (q : Request) → (next r c q).partners ≡ r.partners
next_partners r c q = changed_partners (answer (asked r c) c q).edits r

meant_partners : (r : Plain) (asked : Routed) → (meant_by r asked).next.partners ≡ r.partners
meant_partners r (Asks place q) = next_partners r (slice_index_or r.partners place []) q
meant_partners r Unreadable = refl
meant_partners r (Unasked bare) = refl

left_partners : (r : Plain) (e : Effect) (told : Answer) → e.next.partners ≡ r.partners → (left_by r e told).partners ≡ r.partners
left_partners r e told same = elim (is_no_memory_answer told) as (λ b. (if b then r else e.next).partners ≡ r.partners) [ true ↦ refl | false ↦ same ]

pub message_partners : (tokens : List (List ℕ)) (r : Plain) (call : Call) (told : Answer) → (left_by r (meant tokens r call) told).partners ≡ r.partners
message_partners tokens r call told = left_partners r (meant tokens r call) told (meant_partners r (routed tokens call))
