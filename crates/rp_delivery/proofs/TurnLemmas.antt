-- Turns that were taken, one after another, and the reply that ends them.
use Rattle.std.specs.Prelude.{Result, Ok, Err, IfOk}
use Rattle.std.proofs.Common.{◌≡◌, ◌⊎◌, ◌<◌, ◌+◌, ◌-◌, ℕ, zero, suc, Bool, true, false, List, [], ◌∷◌, ◌++◌, length, refl, sym, ap, subst, ◌∙◌, append_assoc, inl, inr, true≢false, arith}
use Rattle.rp_plain.specs.declared.messages.Request.{Request}
use Rattle.rp_plain.specs.declared.messages.Reply.{Reply}
use Rattle.rp_plain.specs.Plain.{Plain}
use Rattle.rp_plain.specs.Runs.{MayReply}
use Rattle.rp_plain.specs.Turns.{Turn, effect, after}
use Rattle.rp_plain.specs.Opening.{opened}
use Rattle.rp_plain.specs.Meaning.{has_text}
use Rattle.ex_types.specs.Checked.{Checked}
use Rattle.rp_core.specs.Held.{turn, partner_at}
use Rattle.rp_delivery.specs.Names.{me}
use Rattle.rp_delivery.specs.Requests.{mine, include, includes, listing, create_group, validation, is_refused, Taken, IsAnswered, IsAnswer, Makes, IsMe}

-- ---- one turn

-- the turn of the partner at this place is the deliverer's
abbrev pub my_turn : (r : Plain) (place : ℕ) (q : Request) → IsMe r place → turn r place q ≡ mine q
my_turn r place q is = ap mine_of is.is
  where
    mine_of : List ℕ → Turn
    mine_of c = record { caller = c; request = q }

pub answered : (old new : Plain) (place : ℕ) (q : Request) (reply : Reply) → IsMe old place → MayReply (effect old (turn old place q)) reply → new ≡ after old (turn old place q) reply
    → IsAnswered old new (mine q) reply
answered old new place q reply is may content = record {
  may = subst (λ t. MayReply (effect old t) reply) (my_turn old place q is) may;
  content = subst (λ t. new ≡ after old t reply) (my_turn old place q is) content;
}

-- the partners stay, and he stands where he stood
pub still_me : (old new : Plain) (place : ℕ) → new.partners ≡ old.partners → IsMe old place → IsMe new place
still_me old new place same is = record { within = rw same is.within; is = rw same is.is }

-- where he is the one partner, he is found
pub known : (r : Plain) (schemas : List Checked) (name : List ℕ) → r ≡ opened schemas (me ∷ []) → name ≡ me → has_text r.partners name ≡ false → ⊥
known r schemas name is named not = true≢false (ap (λ x. has_text (me ∷ []) x) (sym named) ∙ ap (λ x. has_text x.partners name) (sym is) ∙ not)

pub is_me : (r : Plain) (place : ℕ) (name : List ℕ) → name ≡ me → (place < length r.partners) × (partner_at r place ≡ name) → IsMe r place
is_me r place name named found = record { within = found.0; is = found.1 ∙ named }

-- ---- turns that were taken

pub taken_one : (r end : Plain) (t : Turn) (reply : Reply) → IsAnswered r end t reply → is_refused reply ≡ false → Taken r (t ∷ []) end
taken_one r end t reply a is = (reply, a.may, is, a.content)

-- others behind
pub taken_append : (r m end : Plain) (ts us : List Turn) → Taken r ts m → Taken m us end → Taken r (ts ++ us) end
taken_append r m end [] us e taken = subst (λ x. Taken x us end) e taken
taken_append r m end (t ∷ ts) us first taken = (first.0, first.1, first.2, taken_append (after r t first.0) m end ts us first.3 taken)

-- ---- the reply that ends them

pub answer_one : (r m : Plain) (t : Turn) (reply : Reply) → IsAnswered r m t reply → IsAnswer r (t ∷ []) reply
answer_one r m t reply a = record { done = []; last = t; left = []; are = refl; before = r; taken = refl; may = a.may; ends = inl refl }

-- the first of several, since it was refused
pub answer_first : (r m : Plain) (t : Turn) (ts : List Turn) (reply : Reply) → IsAnswered r m t reply → is_refused reply ≡ true → IsAnswer r (t ∷ ts) reply
answer_first r m t ts reply a is = record { done = []; last = t; left = ts; are = refl; before = r; taken = refl; may = a.may; ends = inr is }

-- turns that were taken before
pub answer_behind : (r m : Plain) (ts us : List Turn) (reply : Reply) → Taken r ts m → IsAnswer m us reply → IsAnswer r (ts ++ us) reply
answer_behind r m ts us reply taken a = record {
  done = ts ++ a.done;
  last = a.last;
  left = a.left;
  are = ap (λ xs. ts ++ xs) a.are ∙ sym (append_assoc ts a.done (a.last ∷ a.left));
  before = a.before;
  taken = taken_append r m a.before ts a.done taken a.taken;
  may = a.may;
  ends = a.ends;
}

-- turns that weren't made, since the reply is a refusal
pub answer_before : (r : Plain) (ts us : List Turn) (reply : Reply) → is_refused reply ≡ true → IsAnswer r ts reply → IsAnswer r (ts ++ us) reply
answer_before r ts us reply is a = record {
  done = a.done;
  last = a.last;
  left = a.left ++ us;
  are = ap (λ xs. xs ++ us) a.are ∙ append_assoc a.done (a.last ∷ a.left) us;
  before = a.before;
  taken = a.taken;
  may = a.may;
  ends = inr is;
}

-- one that was taken in front of others
pub if_behind : {E : Type 0} (r m : Plain) (t : Turn) (us : List Turn) (first : Reply) (o : Result Reply E) → IsAnswered r m t first → is_refused first ≡ false → IfOk o (IsAnswer m us) → IfOk o (IsAnswer r (t ∷ us))
if_behind r m t us first (Err e) a is said = tt
if_behind r m t us first (Ok reply) a is said = answer_behind r m (t ∷ []) us reply (taken_one r m t first a is) said

-- ---- two turns

pub makes_first : (r m : Plain) (t u : Turn) (reply : Reply) → IsAnswered r m t reply → is_refused reply ≡ true → Makes r m (t ∷ u ∷ []) reply
makes_first r m t u reply a is = record {
  taken = λ not. absurd (true≢false (sym is ∙ not));
  answer = answer_first r m t (u ∷ []) reply a is;
}

pub makes_both : (r m end : Plain) (t u : Turn) (first reply : Reply) → IsAnswered r m t first → is_refused first ≡ false → IsAnswered m end u reply → Makes r end (t ∷ u ∷ []) reply
makes_both r m end t u first reply a is b = record {
  taken = λ not. taken_append r m end (t ∷ []) (u ∷ []) (taken_one r m t first a is) (taken_one m end u reply b not);
  answer = answer_behind r m (t ∷ []) (u ∷ []) reply (taken_one r m t first a is) (answer_one m end u reply b);
}

-- ---- models that are listed

-- so many, one, and others
includes_split : (n k m : ℕ) → includes n (k + suc m) ≡ includes n k ++ include (n + k) ∷ includes (n + k + 1) m
includes_split n zero m =
    let here : zero + suc m ≡ suc m = omega arith in
    let same : n ≡ n + zero = omega arith in
    ap (includes n) here ∙ ap (λ x. include x ∷ includes (x + 1) m) same
includes_split n (suc k) m =
    let here : suc k + suc m ≡ suc (k + suc m) = omega arith in
    let same : n + 1 + k ≡ n + suc k = omega arith in
    ap (includes n) here ∙ ap (λ xs. include n ∷ xs) (includes_split (n + 1) k m ∙ ap (λ x. includes (n + 1) k ++ include x ∷ includes (x + 1) m) same)

listed_split : (place count : ℕ) → place < count → includes 1 count ≡ includes 1 place ++ include (place + 1) ∷ includes (place + 1 + 1) (count - (place + 1))
listed_split place count within =
    let here : count ≡ place + suc (count - (place + 1)) = omega (arith, within) in
    let same : 1 + place ≡ place + 1 = omega arith in
    ap (includes 1) here ∙ includes_split 1 place (count - (place + 1)) ∙ ap (λ x. includes 1 place ++ include x ∷ includes (x + 1) (count - (place + 1))) same

-- one more was listed
pub taken_more : (r m end : Plain) (place : ℕ) (reply : Reply) → Taken r (includes 1 place) m → IsAnswered m end (include (place + 1)) reply → is_refused reply ≡ false
    → Taken r (includes 1 (place + 1)) end
taken_more r m end place reply taken a is =
    let here : place + 1 ≡ place + suc zero = omega arith in
    let same : 1 + place ≡ place + 1 = omega arith in
    let turns : includes 1 (place + 1) ≡ includes 1 place ++ include (place + 1) ∷ [] = ap (includes 1) here ∙ includes_split 1 place zero ∙ ap (λ x. includes 1 place ++ include x ∷ []) same in
    subst (λ ts. Taken r ts end) (sym turns) (taken_append r m end (includes 1 place) (include (place + 1) ∷ []) taken (taken_one m end (include (place + 1)) reply a is))

-- one wasn't
pub answer_listed : (r m end : Plain) (place count : ℕ) (reply : Reply) → place < count → Taken r (includes 1 place) m → IsAnswered m end (include (place + 1)) reply → is_refused reply ≡ true
    → (us : List Turn) → IsAnswer r (includes 1 count ++ us) reply
answer_listed r m end place count reply within taken a is us =
    let others = includes (place + 1 + 1) (count - (place + 1)) in
    answer_before r (includes 1 count) us reply is (subst (λ ts. IsAnswer r ts reply) (sym (listed_split place count within))
    (answer_behind r m (includes 1 place) (include (place + 1) ∷ others) reply taken (answer_first m end (include (place + 1)) others reply a is)))
