-- What is answered is what a message means.
use Rattle.std.proofs.Common.{rules, ◌≡◌, ℕ, ◌+◌, ◌<◌, ◌≤◌, List, [], ◌∷◌, length, Bool, true, false, true≢false, Option, Some, None, Result, Ok, Err, IfOk, inl, inr, refl, sym, ap, subst, ◌∙◌, arith}
use Rattle.std.specs.Prelude.{if◌then◌else◌, IsErrOf, option_and_then, is_some, unwrap_or}
use Rattle.std.specs.Fmt.{digits}
use Rattle.std.specs.Str.{bytes_eq}
use Rattle.serde_json.proofs.OnLiterals.{serde_json_on_literals}
use Rattle.rp_plain.specs.Plain.{Plain}
use Rattle.rp_plain.specs.declared.messages.Refusal.TheVariants as refusals
use Rattle.rp_plain.specs.declared.messages.Request.{Request}
use Rattle.rp_plain.specs.declared.messages.Reply.TheVariants as replies
use Rattle.rp_core.specs.Held.{Kept, turn, made, made_of, IsPrepared}
use Rattle.rp_core.specs.declared.steps.Pending.{Pending}
use Rattle.http_messages.specs.Next.{Call}
use Rattle.http_routes.specs.Answers.{bare_text, bare_status, no_memory_text}
use Rattle.http_routes.specs.Paths.{Place, method_of, path_of}
use Rattle.http_routes.specs.Tokens.{place_from, place_among}
use Rattle.http_routes.specs.declared.answers.Bare.{Bare}
use Rattle.http_routes.specs.declared.answers.Bare.TheVariants.{MethodNotAllowed}
use Rattle.rp_messages.specs.Answers.{Told, Barely, answer_of_reply}
use Rattle.rp_messages.specs.Meaning.{Effect, meant_by}
use Rattle.rp_messages.specs.Routing.{Goes, Stops, by_caller, by_head, by_request, request_at, Routed, Asks, Unreadable, Unasked, routed}
use Rattle.rp_messages.specs.declared.routing.Asked.{Asked}
use Rattle.rp_messages.specs.declared.routing.Unrouted.{Unrouted}
use Rattle.rp_messages.specs.declared.routing.Unrouted.TheVariants.{Head, BadRequest, NoMemory}
use Rattle.rp_http.specs.Turns.{Answers, IsRouted, IsToldOr}

-- ---- answers

no_memory_told : no_memory_text ≡ answer_of_reply (replies.Refused refusals.NoMemory)
unfolding serde_json_on_literals digits
no_memory_told = search rules

-- the answer for want of memory may come at any time
pub no_memory : (r : Plain) (meaning : Effect) (bytes : List ℕ) → bytes ≡ no_memory_text → Answers r r meaning bytes
no_memory r meaning bytes is = record {
  answer = Told (replies.Refused refusals.NoMemory);
  may = λ told. absurd (true≢false told);
  content = refl;
  is = is ∙ no_memory_told;
}

pub barely : (r : Plain) (asked : Routed) (bare : Bare) (bytes : List ℕ) → asked ≡ Unasked bare → bytes ≡ bare_text (bare_status bare) → Answers r r (meant_by r asked) bytes
barely r asked bare bytes asks is = subst (λ a. Answers r r (meant_by r a) bytes) (sym asks) (record {
  answer = Barely bare;
  may = λ _. refl;
  content = refl;
  is = is;
})

pub unreadable : (r : Plain) (asked : Routed) (bytes : List ℕ) → asked ≡ Unreadable → IsToldOr (replies.Refused refusals.BadRequest) bytes → Answers r r (meant_by r asked) bytes
unreadable r asked bytes asks (inl is) = subst (λ a. Answers r r (meant_by r a) bytes) (sym asks) (record {
  answer = Told (replies.Refused refusals.BadRequest);
  may = λ _. refl;
  content = refl;
  is = is;
})
unreadable r asked bytes asks (inr is) = no_memory r (meant_by r asked) bytes is

-- what was prepared, and then committed
pub prepared : (r : Plain) (mid : Kept) (new : Plain) (place : ℕ) (request : Request) (pending : Pending) (bytes : List ℕ) → IsPrepared r mid.both (turn r place request) pending → mid.content ≡ r
    → bytes ≡ answer_of_reply pending.reply → new ≡ made pending.steps mid → Answers r new (meant_by r (Asks place request)) bytes
prepared r mid new place request pending bytes is same said changed = record {
  answer = Told pending.reply;
  may = λ told. ap Told (is.replies told);
  content = changed ∙ ap (made_of pending.steps mid.both) same ∙ is.changes;
  is = said;
}

-- ---- who asks

asker : Routed → Option ℕ
asker (Asks place request) = Some place
asker Unreadable = None
asker (Unasked bare) = None

by_request_asker : (n : ℕ) (o : Option Request) (p : ℕ) → asker (by_request n o) ≡ Some p → Some n ≡ Some p
unfolding asker
by_request_asker n None p e = absurd (true≢false (sym (ap is_some e)))
by_request_asker n (Some q) p e = e

by_method_asker : (n : ℕ) (place : Place) (same : Bool) (body : List ℕ) (p : ℕ) → asker (by_head (if same then Goes n place else Stops MethodNotAllowed) body) ≡ Some p → Some n ≡ Some p
unfolding asker
by_method_asker n place true body p e = by_request_asker n (request_at place body) p e
by_method_asker n place false body p e = absurd (true≢false (sym (ap is_some e)))

by_caller_asker : (found : Option ℕ) (place : Option Place) (method body : List ℕ) (p : ℕ) → asker (by_head (by_caller found place method) body) ≡ Some p → found ≡ Some p
unfolding asker
by_caller_asker None place method body p e = absurd (true≢false (sym (ap is_some e)))
by_caller_asker (Some n) None method body p e = absurd (true≢false (sym (ap is_some e)))
by_caller_asker (Some n) (Some place) method body p e = by_method_asker n place (bytes_eq method (method_of place)) body p e

if_within : (t : Bool) (n p bound : ℕ) (rest : Option ℕ) → n < bound → (rest ≡ Some p → p < bound) → (if t then Some n else rest) ≡ Some p → p < bound
if_within true n p bound rest here later e = subst (λ k. k < bound) (ap (λ o. unwrap_or o 0) e) here
if_within false n p bound rest here later e = later e

from_within : (n : ℕ) (tokens : List (List ℕ)) (token : List ℕ) (p : ℕ) → place_from n tokens token ≡ Some p → p < n + length tokens
from_within n [] token p e = absurd (true≢false (sym (ap is_some e)))
from_within n (t ∷ ts) token p e =
    if_within (bytes_eq t token) n p (n + length (t ∷ ts)) (place_from (n + 1) ts token) (omega arith) (λ later. omega (arith, from_within (n + 1) ts token p later)) e

token_within : (tokens : List (List ℕ)) (token : Option (List ℕ)) (p : ℕ) → option_and_then (place_among tokens) token ≡ Some p → p < length tokens
token_within tokens None p e = absurd (true≢false (sym (ap is_some e)))
token_within tokens (Some token) p e = omega (arith, from_within 0 tokens token p e)

pub asked_within : (tokens : List (List ℕ)) (call : Call) (n : ℕ) (asked : Result Asked Unrouted) → IfOk asked (λ found. routed tokens call ≡ Asks found.partner found.request) → length tokens ≤ n
    → IfOk asked (λ found. found.partner < n)
unfolding asker
asked_within tokens call n (Err why) is few = tt
asked_within tokens call n (Ok found) is few =
    omega (
      arith,
      few,
      token_within tokens call.parts.token found.partner
          (by_caller_asker (option_and_then (place_among tokens) call.parts.token) (path_of call.parts.target) call.parts.method call.body found.partner (ap asker is)),
    )

-- what was found of a message is what it asks for
pub found : (asked : Routed) (r : Result Asked Unrouted) → IfOk r (λ it. asked ≡ Asks it.partner it.request) → ((bare : Bare) → IsErrOf r (Head bare) → asked ≡ Unasked bare)
    → (IsErrOf r BadRequest → asked ≡ Unreadable) → IsRouted asked r
found asked (Ok it) ok head bad = ok
found asked (Err (Head bare)) ok head bad = head bare refl
found asked (Err BadRequest) ok head bad = bad refl
found asked (Err NoMemory) ok head bad = tt
