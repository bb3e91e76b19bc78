-- What a step sends, and what came.
use Rattle.std.proofs.Common.{◌≡◌, ◌≢◌, ℕ, ◌<◌, ◌≤◌, List, [], ◌∷◌, ◌++◌, length, take, drop, append-nil, Bool, true, false, Option, Result, Ok, Err, IfOk, refl, sym, ap, subst, ◌∙◌, arith}
use Rattle.std.proofs.lemmas.List.{take-append-le, take-append-drop}
use Rattle.std.specs.Io.KnownBytes.{Appends, Consumes, IsAtEnd}
use Rattle.rp_io.proofs.KnownLemmas.{Appends-nil}
use Rattle.rp_io.specs.Reads.{Reads, MakesReads}
use Rattle.rp_plain.specs.Plain.{Plain}
use Rattle.rp_http.specs.declared.connection.Connection.{Connection}
use Rattle.rp_http.specs.declared.connection.Phase.{Phase}
use Rattle.rp_http.specs.declared.connection.Phase.TheVariants.{Turns, Wants, Sends, Refuses}
use Rattle.rp_http.specs.declared.connection.Stepped.{Stepped}
use Rattle.rp_http.specs.declared.connection.Stepped.TheVariants.{Turned, Read, Sent, Ended, Over}
use Rattle.rp_http.specs.Inboxes.{State, Holds}
use Rattle.rp_http.specs.Turns.{IsAnswered}
use Rattle.rp_http.specs.Stepping.{settled, Moves, Spends, SendsOf, IsOneRead, IsCome, HasCome, IsTaken, Takes}

-- ---- what comes after a reply

pub settled_other : (phase : Phase) (owed : List ℕ) → phase ≢ Sends true → phase ≡ settled phase owed
settled_other Turns owed other = refl
settled_other Wants owed other = refl
settled_other (Sends true) owed other = absurd (other refl)
settled_other (Sends false) owed other = refl
settled_other Refuses owed other = refl

pub settled_out : (phase : Phase) (owed : List ℕ) → phase ≡ Sends true → owed ≡ [] → Turns ≡ settled phase owed
settled_out phase owed sends none = subst (λ l. Turns ≡ settled phase l) (sym none) (subst (λ p. Turns ≡ settled p []) (sym sends) refl)

some_more : (x : ℕ) (xs : List ℕ) → length (x ∷ xs) ≡ 0 → ⊥
some_more x xs none = omega (arith, none)

none_less : 0 < 0 → ⊥
none_less less = omega (arith, less)

pub settled_open : (phase : Phase) (owed : List ℕ) → 0 < length owed → phase ≡ settled phase owed
settled_open Turns owed some = refl
settled_open Wants owed some = refl
settled_open (Sends true) [] some = absurd (none_less some)
settled_open (Sends true) (x ∷ xs) some = refl
settled_open (Sends false) owed some = refl
settled_open Refuses owed some = refl

-- ---- what is sent

pub sent_of : (first rest left : List ℕ) (before after : Option (List ℕ)) (n : ℕ) → n ≤ length first → Appends before after (take n first) → left ≡ drop n (first ++ rest)
    → SendsOf (first ++ rest) left before after
sent_of first rest left before after n some wrote is =
    let front = take n (first ++ rest) in
    (front, sym (ap (λ l. front ++ l) is ∙ take-append-drop n (first ++ rest)), subst (λ l. Appends before after l) (sym (take-append-le n first rest some)) wrote)

pub sent_none : (owed left : List ℕ) (known : Option (List ℕ)) → left ≡ owed → SendsOf owed left known known
sent_none owed left known same = ([], sym same, Appends-nil known)

-- ---- what came

pub come_at : (tokens : List (List ℕ)) (came : List ℕ) (inbox : State) (owed : List ℕ) (phase is : Phase) → phase ≡ is → IsCome tokens came inbox owed phase → IsCome tokens came inbox owed is
come_at tokens came inbox owed phase is e come = subst (λ p. IsCome tokens came inbox owed p) e come

pub come_still : (tokens : List (List ℕ)) (came : List ℕ) (inbox left : State) (owed rest : List ℕ) (phase next : Phase) → left ≡ inbox → rest ≡ owed → next ≡ phase
    → IsCome tokens came inbox owed phase → IsCome tokens came left rest next
come_still tokens came inbox left owed rest phase next same_inbox same_owed same_phase come =
    subst (λ i. IsCome tokens came i rest next) (sym same_inbox) (subst (λ l. IsCome tokens came inbox l next) (sym same_owed) (subst (λ p. IsCome tokens came inbox owed p) (sym same_phase) come))

pub come_more : (tokens : List (List ℕ)) (came : List ℕ) (inbox : State) (owed rest : List ℕ) (phase : Phase) → Holds tokens came inbox → rest ≡ owed → owed ≡ [] → phase ≡ Turns
    → IsCome tokens came inbox rest phase
come_more tokens came inbox owed rest phase holds same none turns = subst (λ p. IsCome tokens came inbox rest p) (sym turns) (holds, same ∙ none)

come_settled : (tokens : List (List ℕ)) (came : List ℕ) (inbox : State) (owed left : List ℕ) (phase : Phase) → phase ≢ Turns → phase ≢ Wants → IsCome tokens came inbox owed phase
    → IsCome tokens came inbox left (settled phase left)
come_settled tokens came inbox owed left Turns turns wants come = absurd (turns refl)
come_settled tokens came inbox owed left Wants turns wants come = absurd (wants refl)
come_settled tokens came inbox owed [] (Sends true) turns wants come = (come, refl)
come_settled tokens came inbox owed (x ∷ xs) (Sends true) turns wants come = come
come_settled tokens came inbox owed left (Sends false) turns wants come = come
come_settled tokens came inbox owed left Refuses turns wants come = come

pub came_none : (tokens : List (List ℕ)) (came xs : List ℕ) (n : ℕ) (inbox : State) → n ≡ 0 → Holds tokens came inbox → Holds tokens (came ++ take n xs) inbox
came_none tokens came xs n inbox none holds = subst (λ k. Holds tokens (came ++ take k xs) inbox) (sym none) (subst (λ l. Holds tokens l inbox) (sym (append-nil came)) holds)

pub one_read : {R : Type 0} (made : R → Reads) (remaining : R → Option (List ℕ)) (gives : R → List ℕ → R → Type 0) (old new : R) (xs : List ℕ) (n room : ℕ) → length (take n xs) ≡ n
    → MakesReads (made old) (made new) 1 room → gives old (take n xs) new → Consumes (remaining old) (remaining new) (take n xs) → (n ≡ 0 → IsAtEnd (remaining new))
    → IsOneRead made remaining gives old new room (take n xs)
one_read made remaining gives old new xs n room fits counted gave used end = record {
  counted = counted;
  gave = gave;
  used = used;
  end = λ none. end (sym fits ∙ ap length none);
}

-- a read that gave nothing
pub read_none : {R : Type 0} (made : R → Reads) (remaining : R → Option (List ℕ)) (gives : R → List ℕ → R → Type 0) (old new : R) (room : ℕ) (piece : List ℕ) → length piece ≡ 0
    → IsOneRead made remaining gives old new room piece → IsOneRead made remaining gives old new room []
read_none made remaining gives old new room [] none is = is
read_none made remaining gives old new room (x ∷ xs) none is = absurd (some_more x xs none)

-- ---- a turn

pub taken_answer : (tokens : List (List ℕ)) (came : List ℕ) (old new : Plain) (inbox : State) (sent bytes : List ℕ) (stays : Bool) → IsAnswered tokens came inbox old new bytes stays → sent ≡ bytes
    → IsTaken tokens came old new inbox sent (Sends stays)
taken_answer tokens came old new inbox sent bytes stays is same = subst (λ b. IsAnswered tokens came inbox old new b stays) (sym same) is

-- ---- a step that sends

takes_sent : (tokens : List (List ℕ)) (came : List ℕ) (r : Plain) (old new : Connection) (gives : List ℕ → Type 0) (stepped : Stepped) → old.phase ≢ Turns → old.phase ≢ Wants → Moves old new stepped
    → HasCome tokens came old → Takes tokens came r r new gives stepped
takes_sent tokens came r old new gives Turned turns wants moves come = absurd (turns moves.0)
takes_sent tokens came r old new gives (Read n) turns wants moves come = absurd (wants moves.0)
takes_sent tokens came r old new gives Sent turns wants moves come = come_still tokens came old.inbox new.inbox _ _ _ new.phase moves.2 refl moves.3 (come_settled tokens came old.inbox _ _ old.phase turns wants come)
takes_sent tokens came r old new gives Ended turns wants moves come = absurd (wants moves.0)
takes_sent tokens came r old new gives Over turns wants moves come = subst (λ (c : Connection). HasCome tokens came c) (sym moves.2) come

pub takes_on : {E : Type 0} (tokens : List (List ℕ)) (came : List ℕ) (r : Plain) (old new : Connection) (gives : List ℕ → Type 0) (result : Result Stepped E) → old.phase ≢ Turns → old.phase ≢ Wants
    → IfOk result (λ stepped. Moves old new stepped) → HasCome tokens came old → IfOk result (λ stepped. Takes tokens came r r new gives stepped)
takes_on tokens came r old new gives (Ok stepped) turns wants moves come = takes_sent tokens came r old new gives stepped turns wants moves come
takes_on tokens came r old new gives (Err e) turns wants moves come = tt

spends_sent : {R : Type 0} (made : R → Reads) (remaining : R → Option (List ℕ)) (reader : R) (old new : Connection) (stepped : Stepped) → old.phase ≢ Wants → Moves old new stepped → new.reads ≡ old.reads
    → Spends made remaining stepped old.reads new.reads reader reader
spends_sent made remaining reader old new Turned wants moves same = (same, refl)
spends_sent made remaining reader old new (Read n) wants moves same = absurd (wants moves.0)
spends_sent made remaining reader old new Sent wants moves same = (same, refl)
spends_sent made remaining reader old new Ended wants moves same = absurd (wants moves.0)
spends_sent made remaining reader old new Over wants moves same = (same, refl)

pub spends_on : {R E : Type 0} (made : R → Reads) (remaining : R → Option (List ℕ)) (reader : R) (old new : Connection) (result : Result Stepped E) → old.phase ≢ Wants
    → IfOk result (λ stepped. Moves old new stepped) → new.reads ≡ old.reads → IfOk result (λ stepped. Spends made remaining stepped old.reads new.reads reader reader)
spends_on made remaining reader old new (Ok stepped) wants moves same = spends_sent made remaining reader old new stepped wants moves same
spends_on made remaining reader old new (Err e) wants moves same = tt
