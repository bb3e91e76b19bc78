-- Bytes begin with one head at most, and so with one request.
use Rattle.std.proofs.Common.{◌≡◌, ℕ, ◌+◌, Bool, true, false, true≢false, List, [], ◌∷◌, ◌++◌, length, drop, map, append-nil, Option, refl, sym, ap, subst, ◌∙◌, arith}
use Rattle.std.specs.Prelude.{slice_range}
use Rattle.std.proofs.lemmas.List.{append_cancel_left, append_cancel_right}
use Rattle.httparse.specs.Grammar.{RequestHead, print_blank, print_request}
use Rattle.httparse.specs.Spans.{name_and_value}
use Rattle.httparse.proofs.GrammarLemmas.{request_unique}
use Rattle.http_messages.specs.declared.framing.Framing.{Framing}
use Rattle.http_messages.specs.declared.framing.Framing.TheVariants.{Sized, BadLength, Coded}
use Rattle.http_messages.specs.declared.message.Fault.{Fault}
use Rattle.http_messages.specs.declared.message.Fault.TheVariants.{BadHead, BadBodyLength, BodyTooLarge, HeadTooLarge, CodedBody}
use Rattle.http_messages.specs.Heads.{ReadsHead}
use Rattle.http_messages.specs.Mask.{masked}
use Rattle.http_messages.specs.Framing.{framing_of}
use Rattle.http_messages.specs.Fields.{token_in, stays_of}
use Rattle.http_messages.specs.Next.{head_of, HasHead, Parts, Says, Announces, Call, IsCall, FailsBy}
use Rattle.http_messages.proofs.Masks.{plain_head, after, printed}
use Rattle.http_messages.proofs.Parsing.{reads_plain}

-- two heads that differ in their targets alone, and are spelled alike
same_targets : (h : RequestHead) (target rest : List ℕ) → print_request (record h { target = target }) ++ rest ≡ print_request h ++ rest → target ≡ h.target
unfolding after
same_targets h target rest e =
    let k = record h { target = target } in
    let front = print_blank h.blank ++ h.method in
    let spelled : front ++ 32 ∷ (target ++ 32 ∷ after h rest) ≡ front ++ 32 ∷ (h.target ++ 32 ∷ after h rest) = sym (printed k rest) ∙ e ∙ printed h rest in
    let behind = append_cancel_left front _ _ spelled in
    append_cancel_right target h.target (32 ∷ after h rest) (ap (λ l. drop 1 l) behind)

with_target : List ℕ → RequestHead → RequestHead
with_target target h = record h { target = target }

pub one_head : (bytes : List ℕ) (g h : RequestHead) (r s : List ℕ) → ReadsHead bytes g r → ReadsHead bytes h s → g ≡ h
unfolding with_target
one_head bytes g h r s x y =
    let same = request_unique (masked bytes) (plain_head g) (plain_head h) r s (reads_plain bytes g r x) (reads_plain bytes h s y) in
    let k = record h { target = g.target } in
    let but_target : g ≡ k = ap (with_target g.target) same.0 in
    let spelled : print_request k ++ r ≡ print_request h ++ r =
    sym (ap (λ p. print_request p ++ r) but_target) ∙ sym x.1 ∙ y.1 ∙ ap (λ l. print_request h ++ l) (sym same.1) in
    but_target ∙ ap (λ t. with_target t h) (same_targets h g.target r spelled)

one_framing : (bytes : List ℕ) (g h : RequestHead) (f e : Framing) → HasHead bytes g f → HasHead bytes h e → f ≡ e
one_framing bytes g h f e x y = sym x.framed ∙ ap (λ p. framing_of (map name_and_value p.fields)) (one_head (head_of bytes) g h x.rest y.rest x.reads y.reads) ∙ y.framed

-- the size that a framing gives
size_in : Framing → ℕ
size_in (Sized n) = n
size_in BadLength = 0
size_in Coded = 0

is_sized : Framing → Bool
is_sized (Sized n) = true
is_sized BadLength = false
is_sized Coded = false

one_size : (n m : ℕ) → Sized n ≡ Sized m → n ≡ m
unfolding size_in
one_size n m e = ap size_in e

as_parts : List ℕ → List ℕ → Option (List ℕ) → Bool → Parts
as_parts method target token stays = record { method = method; target = target; token = token; stays = stays }

parts_of : RequestHead → Parts
parts_of h = as_parts h.method h.target (token_in (map name_and_value h.fields)) (stays_of h.minor (map name_and_value h.fields))

said : (h : RequestHead) (p : Parts) → Says h p → p ≡ parts_of h
unfolding as_parts parts_of
said h p says =
    ap (λ x. as_parts x p.target p.token p.stays) says.method
    ∙ ap (λ x. as_parts h.method x p.token p.stays) says.target
    ∙ ap (λ x. as_parts h.method h.target x p.stays) says.token
    ∙ ap (λ x. as_parts h.method h.target (token_in (map name_and_value h.fields)) x) says.stays

pub announces_one : (bytes : List ℕ) (p q : Parts) (s t n m : ℕ) → Announces bytes p s n → Announces bytes q t m → (p ≡ q) × (s ≡ t) × (n ≡ m)
announces_one bytes p q s t n m x y =
    let heads = one_head (head_of bytes) x.head y.head x.has.rest y.has.rest x.has.reads y.has.reads in
    let sizes = one_size x.size y.size (one_framing bytes x.head y.head _ _ x.has y.has) in
    let starts : s ≡ t = x.front ∙ ap (λ h. length (print_request h)) heads ∙ sym y.front in
    (said x.head p x.says ∙ ap parts_of heads ∙ sym (said y.head q y.says), starts, x.whole ∙ ap (λ k. k + x.size) starts ∙ ap (λ k. t + k) sizes ∙ sym y.whole)

as_call : Parts → List ℕ → Call
as_call parts body = record { parts = parts; body = body }

pub call_one : (bytes : List ℕ) (c d : Call) (n m : ℕ) → IsCall bytes c n → IsCall bytes d m → (c ≡ d) × (n ≡ m)
unfolding as_call
call_one bytes c d n m x y =
    let same = announces_one bytes c.parts d.parts x.start y.start n m x.announced y.announced in
    let bodies : c.body ≡ d.body = x.body ∙ ap (λ k. slice_range bytes k n) same.1 ∙ ap (λ k. slice_range bytes y.start k) same.2 ∙ sym y.body in
    let by_parts : c ≡ as_call d.parts c.body = ap (λ p. as_call p c.body) same.0 in
    (by_parts ∙ ap (as_call d.parts) bodies, same.2)

unsized : (bytes : List ℕ) (g h : RequestHead) (f : Framing) (n : ℕ) → is_sized f ≡ false → HasHead bytes g f → HasHead bytes h (Sized n) → ⊥
unfolding is_sized
unsized bytes g h f n none x y = true≢false (ap is_sized (one_framing bytes h g (Sized n) f y x) ∙ none)

pub fault_none : (bytes : List ℕ) (fault : Fault) (parts : Parts) (start end : ℕ) → FailsBy bytes fault → ¬ (Announces bytes parts start end)
unfolding is_sized
fault_none bytes BadHead parts start end never is =
    never [] is.head (is.has.rest) (subst (λ l. ReadsHead l is.head is.has.rest) (sym (append-nil (head_of bytes))) is.has.reads)
fault_none bytes HeadTooLarge parts start end full is = full.1 is.head is.has.rest is.has.reads
fault_none bytes CodedBody parts start end has is = unsized bytes has.0 is.head Coded is.size refl has.1 is.has
fault_none bytes BadBodyLength parts start end has is = unsized bytes has.0 is.head BadLength is.size refl has.1 is.has
fault_none bytes BodyTooLarge parts start end has is =
    let sizes = one_size has.1 is.size (one_framing bytes has.0 is.head _ _ has.2 is.has) in
    omega (arith, has.3, is.small, sizes)
