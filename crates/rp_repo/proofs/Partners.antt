-- Turns leave the partners as they are, and a valid repository valid.
use Rattle.std.proofs.Common.{◌≡◌, ℕ, zero, suc, ◌<◌, Bool, true, false, ◌||◌, List, [], ◌∷◌, length, refl, sym, ◌∙◌, ap, subst, arith}
use Rattle.std.specs.Prelude.{if◌then◌else◌, slice_index_or}
use Rattle.std.specs.List.{list_any, AllByRecursion}
use Rattle.std.specs.Str.{bytes_eq}
use Rattle.std.proofs.lemmas.Slice.Eq.{bytes_eq-Decides}
use Rattle.rp_rows.specs.Rows.{Text, Model, GroupRow}
use Rattle.rp_plain.specs.declared.messages.Request.{Request}
use Rattle.rp_plain.specs.declared.messages.Reply.{Reply}
use Rattle.rp_plain.specs.Plain.{Plain}
use Rattle.rp_plain.specs.Edits.{Edit, EditModel, EditGroup, edited_by, changed}
use Rattle.rp_plain.specs.Readers.{asked}
use Rattle.rp_plain.specs.Meaning.{has_text}
use Rattle.rp_plain.specs.Step.{answer, next}
use Rattle.rp_plain.specs.Runs.{Effect, is_no_memory, left_by}
use Rattle.rp_plain.specs.Turns.{after}
use Rattle.rp_plain.specs.Valid.{IsValidModel, IsValidGroup, IsValid}
use Rattle.rp_laws.specs.Laws.{KeepsValid}
use Rattle.rp_readers.specs.Named.{HoldsNamed}
use Rattle.rp_readers.specs.Named.{AreNamed}
use Rattle.rp_readers.specs.Listed.{HoldsListed, AreListed}
use Rattle.rp_core.specs.Held.{Kept, partner_at, turn, made_of, Fits, IsPrepared}
use Rattle.rp_core.specs.declared.steps.Pending.{Pending}
use Rattle.rp_repo.specs.Ready.{IsReady}

changed_partners : (es : List Edit) (r : Plain) → (changed es r).partners ≡ r.partners
changed_partners [] r = refl
changed_partners (EditModel k a ∷ es) r = changed_partners es (edited_by (EditModel k a) r)
changed_partners (EditGroup k a ∷ es) r = changed_partners es (edited_by (EditGroup k a) r)

pub next_partners : (r : Plain) (c : Text) (q : Request) → (next r c q).partners ≡ r.partners
next_partners r c q = changed_partners (answer (asked r c) c q).edits r

pub left_partners : (r : Plain) (e : Effect) (reply : Reply) → e.next.partners ≡ r.partners → (left_by r e reply).partners ≡ r.partners
left_partners r e reply same = elim (is_no_memory reply) as (λ b. (if b then r else e.next).partners ≡ r.partners) [ true ↦ refl | false ↦ same ]

-- a text at a place is among the texts
pub is_among : (texts : List Text) (i : ℕ) (c : Text) → i < length texts → slice_index_or texts i [] ≡ c → has_text texts c ≡ true
is_among [] i c within is = absurd (omega arith)
is_among (text ∷ texts) zero c within is = ap (λ t. t || list_any (bytes_eq c) texts) ((bytes_eq-Decides c text).1 (sym is))
is_among (text ∷ texts) (suc i) c within is = or_true (bytes_eq c text) (is_among texts i c (omega arith) is)
  where
    or_true : (a : Bool) {b : Bool} → b ≡ true → (a || b) ≡ true
    or_true true e = refl
    or_true false e = e

pub valid_after : KeepsValid → (r : Plain) (place : ℕ) (q : Request) (reply : Reply) → place < length r.partners → IsValid r → IsValid (after r (turn r place q) reply)
valid_after keeps r place q reply within valid =
    let c = partner_at r place in
    elim (is_no_memory reply) as (λ b. IsValid (if b then r else next r c q)) [ true ↦ valid | false ↦ keeps r c q (is_among r.partners place c within refl) valid ]

-- what was prepared of a valid repository may be committed to one that holds the same
pub ready : KeepsValid → (old new : Kept) (place : ℕ) (q : Request) (pending : Pending) → place < length old.content.partners → IsValid old.content
    → new.content ≡ old.content → IsPrepared old.content new.both (turn old.content place q) pending → Fits new pending → IsReady new pending
ready keeps old new place q pending within valid same prepared fits = record {
  fits = fits;
  valid = subst IsValid (sym (ap (made_of pending.steps new.both) same ∙ prepared.changes)) (valid_after keeps old.content place q pending.reply within valid);
}

all_named : (r : Plain) (ms : List Model) → AllByRecursion (IsValidModel r.schemas r.partners) ms → AllByRecursion HoldsNamed ms
all_named r [] all = tt
all_named r (m ∷ ms) all = (record { order = all.0.content.instances; greatest = all.0.content.greatest; links = all.0.content.links }, all_named r ms all.1)

-- in a valid repository the instances and links of each model can be found by their names
pub valid_named : (r : Plain) → IsValid r → AreNamed r
valid_named r valid = all_named r r.models valid.models

all_listed : (r : Plain) (gs : List GroupRow) → AllByRecursion (IsValidGroup r.schemas r.partners) gs → AllByRecursion HoldsListed gs
all_listed r [] all = tt
all_listed r (g ∷ gs) all = (all.0.order, all_listed r gs all.1)

-- in a valid repository the members of each group stand in order
pub valid_listed : (r : Plain) → IsValid r → AreListed r
valid_listed r valid = all_listed r r.groups valid.groups
