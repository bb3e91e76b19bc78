-- Whole runs: a partner's replies are those that he gets alone.
use Rattle.std.proofs.Common.{◌≡◌, Bool, true, false, inl, inr, List, [], ◌∷◌, refl, sym, ◌∙◌, ap}
use Rattle.std.specs.Prelude.{if◌then◌else◌}
use Rattle.std.specs.Str.{bytes_eq}
use Rattle.std.proofs.lemmas.Slice.Eq.{bytes_eq-Decides}
use Rattle.rp_plain.specs.declared.messages.Request.{Request}
use Rattle.rp_plain.specs.declared.messages.Reply.{Reply}
use Rattle.rp_rows.specs.Rows.{Text}
use Rattle.rp_plain.specs.Plain.{Plain, part}
use Rattle.rp_plain.specs.Step.{reply_to, next}
use Rattle.rp_plain.specs.Runs.{is_no_memory}
use Rattle.rp_plain.specs.Turns.{Turn, after, Run, IsOutside, OthersOutside, requests_of, replies_to, alone, alone_end}
use Rattle.rp_plain.specs.Valid.{IsOrdered}
use Rattle.rp_laws.proofs.Sight.{part_twice}
use Rattle.rp_laws.proofs.Reading.{own_turn_reply}
use Rattle.rp_laws.proofs.Keeping.{next_ordered, part_ordered}
use Rattle.rp_laws.proofs.OwnTurns.{own_turn_part}
use Rattle.rp_laws.proofs.Outside.{outside_turn_part}

-- two repositories of which c sees the same
same_reply : (r s : Plain) (c : Text) (q : Request) → part r c ≡ part s c → reply_to r c q ≡ reply_to s c q
same_reply r s c q same = own_turn_reply r c q ∙ ap (λ p. reply_to p c q) same ∙ sym (own_turn_reply s c q)

same_part : (r s : Plain) (c : Text) (q : Request) → IsOrdered r → IsOrdered s → part r c ≡ part s c → part (next r c q) c ≡ part (next s c q) c
same_part r s c q ordered ordered' same = own_turn_part r c q ordered ∙ ap (λ p. part (next p c q) c) same ∙ sym (own_turn_part s c q ordered')

after_ordered : (r : Plain) (t : Turn) (reply : Reply) → IsOrdered r → IsOrdered (after r t reply)
after_ordered r t reply ordered =
    elim (is_no_memory reply) as (λ b. IsOrdered (if b then r else next r t.caller t.request)) [ true ↦ ordered | false ↦ next_ordered r t.caller t.request ordered ]

outside_part : (r : Plain) (c : Text) (t : Turn) (reply : Reply) → IsOrdered r → IsOutside r c t reply → part (after r t reply) c ≡ part r c
outside_part r c t reply ordered outside = elim outside [
  | inl same ↦ ap (λ p. part p c) same
  | inr away ↦ elim (is_no_memory reply) as (λ b. part (if b then r else next r t.caller t.request) c ≡ part r c) [ true ↦ refl | false ↦ outside_turn_part r c t.caller t.request ordered away ]
]

-- the replies to c are those that he gets alone from a repository of which he sees the same
abbrev FollowsAlone : Plain → Plain → Text → List Turn → List Reply → Type 0
FollowsAlone s end c ts replies = (replies_to c ts replies ≡ alone s c (requests_of c ts)) × (part end c ≡ part (alone_end s c (requests_of c ts)) c)

pub follows_alone : (r s end : Plain) (c : Text) (ts : List Turn) (replies : List Reply) → IsOrdered r → IsOrdered s → Run r ts replies end → OthersOutside r c ts replies → part r c ≡ part s c → FollowsAlone s end c ts replies
follows_alone r s end c [] [] ordered ordered' run outside same = (refl, ap (λ p. part p c) run ∙ same)
follows_alone r s end c [] (reply ∷ replies) ordered ordered' run outside same = absurd run
follows_alone r s end c (t ∷ ts) [] ordered ordered' run outside same = absurd run
follows_alone r s end c (t ∷ ts) (reply ∷ replies) ordered ordered' run outside same =
    by (λ other ordered'' e. follows_alone (after r t reply) other end c ts replies (after_ordered r t reply ordered) ordered'' run.1 outside.1 e) (bytes_eq t.caller c) refl
  where
    by : ((other : Plain) → IsOrdered other → part (after r t reply) c ≡ part other c → FollowsAlone other end c ts replies) → (b : Bool) → bytes_eq t.caller c ≡ b → FollowsAlone s end c (t ∷ ts) (reply ∷ replies)
    by rest true own =
        let who : t.caller ≡ c = (bytes_eq-Decides t.caller c).0 own in
        let said : is_no_memory reply ≡ false = outside.0.1 own in
        let there = next s c t.request in
        let here : part (after r t reply) c ≡ part there c = ap (λ b. part (if b then r else next r t.caller t.request) c) said ∙ ap (λ d. part (next r d t.request) c) who ∙ same_part r s c t.request ordered ordered' same in
        let told : reply ≡ reply_to s c t.request = run.0 said ∙ ap (λ d. reply_to r d t.request) who ∙ same_reply r s c t.request same in
        let later = rest there (next_ordered s c t.request ordered') here in
        rw own (ap (λ y. y ∷ replies_to c ts replies) told ∙ ap (λ ys. reply_to s c t.request ∷ ys) later.0, later.1)
    by rest false other =
        let later = rest s ordered' (outside_part r c t reply ordered (outside.0.0 other) ∙ same) in
        rw other later

pub one_run_replies : (r end : Plain) (c : Text) (turns : List Turn) (replies : List Reply) → IsOrdered r → Run r turns replies end → OthersOutside r c turns replies → replies_to c turns replies ≡ alone (part r c) c (requests_of c turns)
one_run_replies r end c turns replies ordered run outside = (follows_alone r (part r c) end c turns replies ordered (part_ordered r c ordered) run outside (sym (part_twice r c))).0

pub one_run_part : (r end : Plain) (c : Text) (turns : List Turn) (replies : List Reply) → IsOrdered r → Run r turns replies end → OthersOutside r c turns replies → part end c ≡ part (alone_end (part r c) c (requests_of c turns)) c
one_run_part r end c turns replies ordered run outside = (follows_alone r (part r c) end c turns replies ordered (part_ordered r c ordered) run outside (sym (part_twice r c))).1

pub two_runs : (r s end last : Plain) (c : Text) (turns others : List Turn) (replies answers : List Reply) → IsOrdered r → IsOrdered s
    → Run r turns replies end → Run s others answers last → OthersOutside r c turns replies → OthersOutside s c others answers
    → part r c ≡ part s c → requests_of c turns ≡ requests_of c others → replies_to c turns replies ≡ replies_to c others answers
two_runs r s end last c turns others replies answers ordered ordered' run run' outside outside' same asks =
    one_run_replies r end c turns replies ordered run outside ∙ ap (λ p. alone p c (requests_of c turns)) same ∙ ap (alone (part s c) c) asks ∙ sym (one_run_replies s last c others answers ordered' run' outside')
