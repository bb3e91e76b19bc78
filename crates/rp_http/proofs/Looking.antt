-- What is found at the front of what came.
use Rattle.std.proofs.Common.{◌≡◌, ℕ, ◌+◌, ◌-◌, ◌<◌, List, [], length, drop, Bool, Result, length-drop, length-append, take_all, inl, inr, refl, sym, ap, subst, ◌∙◌, arith}
use Rattle.std.proofs.lemmas.Grind.{common_steps}
use Rattle.std.specs.Prelude.{slice_range}
use Rattle.httparse.specs.Grammar.{RequestHead, print_request}
use Rattle.rp_plain.specs.Plain.{Plain}
use Rattle.http_messages.specs.Heads.{IsHead}
use Rattle.http_messages.specs.Next.{Parts, Call, Announces, IsCall, IsBegun, IsAwaited, head_of}
use Rattle.http_messages.proofs.Uniqueness.{announces_one}
use Rattle.http_routes.specs.Answers.{no_memory_text}
use Rattle.http_routes.specs.declared.answers.Bare.{Bare}
use Rattle.rp_messages.specs.Meaning.{meant_by, meant}
use Rattle.rp_messages.specs.Routing.{Stops, headed, by_head, Routed, routed}
use Rattle.rp_messages.specs.declared.routing.Asked.{Asked}
use Rattle.rp_messages.specs.declared.routing.Unrouted.{Unrouted}
use Rattle.rp_http.specs.declared.inbox.Dropped.{Dropped}
use Rattle.rp_http.specs.declared.inbox.Dropped.TheVariants.{ByHead, NoMemory}
use Rattle.rp_http.specs.Inboxes.{State, Open, Gathers, Skips, IsComing, IsLooked, IsWaiting, IsWhole, IsGathered, shown, room_of, weight, Holds, MayDrop}
use Rattle.rp_http.specs.Runs.{IsUnfinished}
use Rattle.rp_http.specs.Turns.{Answers, IsAnswered, IsRouted, dropped_text}
use Rattle.rp_http.proofs.Answering.{no_memory, barely}

pub shown_came : (tokens : List (List ℕ)) (came : List ℕ) (s : State) → IsLooked s → Holds tokens came s → shown s ≡ came
shown_came tokens came (Open bytes) looked holds = holds
shown_came tokens came (Gathers bytes size stays) looked holds = holds.0
shown_came tokens came (Skips left stays why) looked holds = absurd looked

-- a message that was gathered is all that is there
pub whole_of : (s : State) (call : Call) (n : ℕ) → IsLooked s → IsCall (shown s) call n → IsWhole s n
whole_of (Open bytes) call n looked is = is.within
whole_of (Gathers bytes size stays) call n looked is =
    let one = announces_one bytes call.parts looked.0.parts is.start looked.0.start n size is.announced looked.0.announced in
    omega (arith, one.2, looked.1, is.within, looked.0.within)
whole_of (Skips left stays why) call n looked is = absurd looked

head_some : (h : RequestHead) → IsHead h → 0 < length (print_request h)
unfolding print_request
head_some h v = simp length-append (omega (arith, v.method.0))

pub call_some : (bytes : List ℕ) (call : Call) (n : ℕ) → IsCall bytes call n → 0 < n
call_some bytes call n is = omega (arith, is.announced.whole, is.announced.front, head_some is.announced.head is.announced.has.reads.0)

pub less_of : (s : State) (call : Call) (n : ℕ) → IsLooked s → IsCall (shown s) call n → length (drop n (shown s)) < weight s
less_of (Open bytes) call n looked is = omega (arith, length-drop n bytes, is.within, call_some bytes call n is)
less_of (Gathers bytes size stays) call n looked is = omega (arith, length-drop n bytes, is.within, call_some bytes call n is)
less_of (Skips left stays why) call n looked is = absurd looked

pub complete : (tokens : List (List ℕ)) (came : List ℕ) (s left : State) (old new : Plain) (call : Call) (size : ℕ) (bytes : List ℕ) (stays : Bool) (asked : Result Asked Unrouted)
    → IsLooked s → Holds tokens came s → IsCall (shown s) call size → left ≡ Open (drop size (shown s)) → call.parts.stays ≡ stays
    → ((found : Routed) → IsRouted found asked → Answers old new (meant_by old found) bytes) → IsRouted (routed tokens call) asked → IsAnswered tokens came left old new bytes stays
complete tokens came s left old new call size bytes stays asked looked holds is rest same answers found =
    let here = shown_came tokens came s looked holds in
    record {
      call = call;
      size = size;
      is = subst (λ b. IsCall b call size) here is;
      holds = subst (λ l. Holds tokens (drop size came) l) (sym rest) (ap (drop size) here);
      same = same;
      answers = answers (routed tokens call) found;
    }

-- ---- more bytes have to come

coming : (came : List ℕ) (parts : Parts) (n : ℕ) (stays : Bool) → IsAwaited came parts n → parts.stays ≡ stays → IsComing came n stays
coming came parts n stays is same = record {
  parts = parts;
  start = is.start;
  announced = is.announced;
  within = omega (arith, is.beyond);
  same = same;
}

-- the same, with what is still to come beside what came
abbrev behind : (came : List ℕ) (parts : Parts) (n : ℕ) (stays : Bool) → IsAwaited came parts n → parts.stays ≡ stays → IsComing came (length came + (n - length came)) stays
behind came parts n stays is same =
    let all : length came + (n - length came) ≡ n = omega (arith, is.beyond) in
    record {
      parts = parts;
      start = is.start;
      announced = subst (λ k. Announces came parts is.start k) (sym all) is.announced;
      within = omega arith;
      same = same;
    }

gathers_on : (tokens : List (List ℕ)) (came : List ℕ) (parts : Parts) (n : ℕ) (stays : Bool) (left : State) → IsAwaited came parts n → parts.stays ≡ stays → IsGathered came n stays left
    → Holds tokens came left × (0 < room_of left)
gathers_on tokens came parts n stays left is same (inl e) =
    subst (λ l. Holds tokens came l × (0 < room_of l)) (sym e) ((refl, coming came parts n stays is same), omega (arith, is.beyond))
gathers_on tokens came parts n stays left is same (inr e) =
    subst (λ l. Holds tokens came l × (0 < room_of l)) (sym e) ((behind came parts n stays is same, tt), omega (arith, is.beyond))

-- there is room for all of a message, or it is dropped
pub gathered : (tokens : List (List ℕ)) (came : List ℕ) (s left : State) (r : Plain) (parts : Parts) (n : ℕ) (stays : Bool) → IsLooked s → Holds tokens came s → IsAwaited (shown s) parts n
    → parts.stays ≡ stays → IsGathered (shown s) n stays left → IsUnfinished came × Holds tokens came left × (0 < room_of left) × (r ≡ r)
gathered tokens came s left r parts n stays looked holds is same then =
    let here = shown_came tokens came s looked holds in
    let is' : IsAwaited came parts n = subst (λ b. IsAwaited b parts n) here is in
    let on = gathers_on tokens came parts n stays left is' same (subst (λ b. IsGathered b n stays left) here then) in
    (inr (parts, n, is'), on.0, on.1, refl)

-- the head decides, and the body is dropped
pub decided : (tokens : List (List ℕ)) (came : List ℕ) (s left : State) (r : Plain) (parts : Parts) (n : ℕ) (stays : Bool) (bare : Bare) → IsLooked s → Holds tokens came s → IsAwaited (shown s) parts n
    → parts.stays ≡ stays → headed tokens parts ≡ Stops bare → left ≡ Skips (n - length (shown s)) stays (ByHead bare) → IsUnfinished came × Holds tokens came left × (0 < room_of left) × (r ≡ r)
decided tokens came s left r parts n stays bare looked holds is same stops then =
    let here = shown_came tokens came s looked holds in
    let is' : IsAwaited came parts n = subst (λ b. IsAwaited b parts n) here is in
    let e : left ≡ Skips (n - length came) stays (ByHead bare) = subst (λ b. left ≡ Skips (n - length b) stays (ByHead bare)) here then in
    let on : Holds tokens came left × (0 < room_of left) =
    subst (λ l. Holds tokens came l × (0 < room_of l)) (sym e) ((behind came parts n stays is' same, stops), omega (arith, is'.beyond)) in
    (inr (parts, n, is'), on.0, on.1, refl)

-- a message that was gathered has a head
no_head_there : (bytes : List ℕ) (size : ℕ) (stays : Bool) → IsComing bytes size stays → IsBegun bytes → ⊥
no_head_there bytes size stays is begun =
    let all : head_of bytes ≡ bytes = take_all 16384 bytes (omega (arith, begun.short)) in
    begun.none is.announced.head is.announced.has.rest (is.announced.has.reads.0, sym all ∙ is.announced.has.reads.1)

room_for_more : (s : State) → IsLooked s → IsBegun (shown s) → 0 < room_of s
room_for_more (Open bytes) looked begun = omega (arith, begun.short)
room_for_more (Gathers bytes size stays) looked begun = absurd (no_head_there bytes size stays looked.0 begun)
room_for_more (Skips left stays why) looked begun = absurd looked

pub begun : (tokens : List (List ℕ)) (came : List ℕ) (s : State) (r : Plain) → IsLooked s → Holds tokens came s → IsBegun (shown s) → IsUnfinished came × Holds tokens came s × (0 < room_of s) × (r ≡ r)
begun tokens came s r looked holds is = (inl (subst (λ b. IsBegun b) (shown_came tokens came s looked holds) is), holds, room_for_more s looked is, refl)

-- more of a body is still to come, and its head is there
pub waits : (tokens : List (List ℕ)) (came : List ℕ) (s : State) (r : Plain) → IsWaiting s → Holds tokens came s → IsUnfinished came × Holds tokens came s × (0 < room_of s) × (r ≡ r)
waits tokens came (Open bytes) r waiting holds = absurd waiting
waits tokens came (Gathers bytes size stays) r waiting holds =
    (inr (holds.1.parts, size, record { start = holds.1.start; announced = holds.1.announced; beyond = subst (λ b. length b < size) holds.0 waiting }), holds, omega (arith, waiting), refl)
waits tokens came (Skips left stays why) r waiting holds =
    (inr (holds.0.parts, length came + left, record { start = holds.0.start; announced = holds.0.announced; beyond = omega (arith, waiting) }), holds, waiting, refl)

-- ---- a message whose body was dropped

none_behind : (came : List ℕ) → drop (length came + 0) came ≡ []
none_behind came = grind (arith, common_steps)

told_of : (tokens : List (List ℕ)) (r : Plain) (call : Call) (why : Dropped) → MayDrop tokens call.parts why → Answers r r (meant tokens r call) (dropped_text why)
told_of tokens r call (ByHead bare) stops = barely r (routed tokens call) bare (dropped_text (ByHead bare)) (ap (λ h. by_head h call.body) stops) refl
told_of tokens r call NoMemory may = no_memory r (meant tokens r call) no_memory_text refl

pub skipped : (tokens : List (List ℕ)) (came : List ℕ) (s left : State) (r : Plain) (stays : Bool) (why : Dropped) (bytes : List ℕ) → s ≡ Skips 0 stays why → Holds tokens came s → left ≡ Open []
    → bytes ≡ dropped_text why → IsAnswered tokens came left r r bytes stays
skipped tokens came s left r stays why bytes e holds none is =
    let here : Holds tokens came (Skips 0 stays why) = subst (λ x. Holds tokens came x) e holds in
    let size = length came + 0 in
    let call : Call = record { parts = here.0.parts; body = slice_range came here.0.start size } in
    record {
      call = call;
      size = size;
      is = record { start = here.0.start; announced = here.0.announced; within = omega arith; body = refl };
      holds = subst (λ l. Holds tokens (drop size came) l) (sym none) (sym (none_behind came));
      same = here.0.same;
      answers = subst (λ b. Answers r r (meant tokens r call) b) (sym is) (told_of tokens r call why here.1);
    }
