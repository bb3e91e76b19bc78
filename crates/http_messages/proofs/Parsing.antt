-- What the parser says of the masked bytes is so of the bytes.
use Rattle.std.proofs.Common.{◌≡◌, ℕ, zero, suc, ◌<◌, ◌≤◌, inl, inr, Bool, true, false, ◌==◌, nat_lt, List, [], ◌∷◌, ◌++◌, length, drop, map, length-append, append_assoc, refl, sym, ap, subst, ◌∙◌, arith, IsTrue, Result, Ok, Err}
use Rattle.std.specs.Prelude.{if◌then◌else◌, IsAscii, OnErr}
use Rattle.std.specs.List.{AllByRecursion}
use Rattle.std.proofs.lemmas.Bool.Decides.{nat_tests}
use Rattle.std.proofs.lemmas.List.{length-map}
use Rattle.std.proofs.lemmas.List.Elements.{recursion_from_All, All-from_recursion}
use Rattle.std.proofs.lemmas.Str.{IsUtf8-from_ascii}
use Rattle.httparse.specs.Grammar.{LineEnd, lf, print_blank, RequestHead, IsRequestHead, IsToken, AllPass, is_uri_byte, print_request, ReadsRequest, HasNoRequest, NeverHasRequest, MayBecomeRequest}
use Rattle.httparse.specs.Spans.{IsRequestOf, RequestExceeds, name_and_value}
use Rattle.httparse.specs.Outcome.{IfComplete, OnPartial, OnInvalid, OnTooManyHeaders}
use Rattle.httparse.specs.declared.Error.{Error}
use Rattle.httparse.specs.declared.Status.{Status}
use Rattle.httparse.specs.declared.Status.TheVariants.{Complete, Partial}
use Rattle.httparse.specs.declared.spans.HeaderSpan.{HeaderSpan}
use Rattle.httparse.specs.declared.spans.RequestSpans.{RequestSpans}
use Rattle.httparse.proofs.GrammarLemmas.{cons-append}
use Rattle.http_messages.specs.Heads.{IsHead, ReadsHead, HasNoHead, NeverHasHead, MayBecomeHead}
use Rattle.http_messages.specs.Mask.{plain, mask_target, masked, target_in, IsHeadAt}
use Rattle.http_messages.proofs.Sizes.{never_too_many}
use Rattle.http_messages.proofs.Masks.{plain_head, plain_blank, after, forth, back, grows, target_of_head}

-- ---- a head with a plain target is one of the parser's grammar

plain_small : (b : ℕ) (q : Bool) → nat_lt 127 b ≡ q → (if q then 97 else b) < 128
plain_small b true e = omega arith
plain_small b false e = grind (arith, nat_tests, e)

plain_ascii : (xs : List ℕ) → IsAscii (map plain xs)
plain_ascii [] i = omega arith
plain_ascii (x ∷ xs) zero = plain_small x (nat_lt 127 x) refl
plain_ascii (x ∷ xs) (suc i) = plain_ascii xs i

plain_uri : (b : ℕ) (q : Bool) → IsTrue (is_uri_byte b) → IsTrue (is_uri_byte (if q then 97 else b))
plain_uri b true t = refl
plain_uri b false t = t

plain_uris : (xs : List ℕ) → AllByRecursion (λ b. IsTrue (is_uri_byte b)) xs → AllByRecursion (λ b. IsTrue (is_uri_byte b)) (map plain xs)
plain_uris [] h = tt
plain_uris (x ∷ xs) h = (plain_uri x (nat_lt 127 x) h.0, plain_uris xs h.1)

plain_some : (xs : List ℕ) → 0 < length xs → 0 < length (map plain xs)
plain_some xs some = omega (arith, some, length-map xs plain)

pub plain_is : (h : RequestHead) → IsHead h → IsRequestHead (plain_head h)
plain_is h is =
    record {
      method = is.method;
      target = (plain_some h.target is.target.0, All-from_recursion _ (map plain h.target) (plain_uris h.target (recursion_from_All _ h.target is.target.1)));
      target_text = IsUtf8-from_ascii (map plain h.target) (plain_ascii h.target);
      minor = is.minor;
      fields = is.fields;
    }

pub reads_plain : (bytes : List ℕ) (h : RequestHead) (rest : List ℕ) → ReadsHead bytes h rest → ReadsRequest (masked bytes) (plain_head h) rest
reads_plain bytes h rest reads = (plain_is h reads.0, ap masked reads.1 ∙ forth h rest reads.0)

-- each head of the parser's grammar is one here
is_head : (h : RequestHead) → IsRequestHead h → IsHead h
is_head h is = record { method = is.method; target = is.target; minor = is.minor; fields = is.fields }

-- ---- no head, now or ever

pub no_head : (bytes : List ℕ) → HasNoRequest (masked bytes) → HasNoHead bytes
no_head bytes none h rest reads = none (plain_head h) rest (reads_plain bytes h rest reads)

pub never_head : (bytes : List ℕ) → NeverHasRequest (masked bytes) → NeverHasHead bytes
never_head bytes never more h rest reads =
    let tail = grows bytes more in
    let plain_reads = reads_plain (bytes ++ more) h rest reads in
    never tail.0 (plain_head h) rest (plain_reads.0, sym tail.1 ∙ plain_reads.1)

-- ---- a head may come

twice_at : (b : ℕ) (q : Bool) → nat_lt 127 b ≡ q → plain (if q then 97 else b) ≡ (if q then 97 else b)
twice_at b true e = refl
twice_at b false e = rw e refl

target_twice_at : (b : ℕ) (bs ys : List ℕ) (q : Bool) → (b == 32) ≡ q → mask_target (mask_target bs ++ ys) ≡ mask_target (bs ++ ys)
    → mask_target ((if q then b ∷ bs else plain b ∷ mask_target bs) ++ ys) ≡ (if q then b ∷ (bs ++ ys) else plain b ∷ mask_target (bs ++ ys))
target_twice_at b bs ys true e more = rw e refl
target_twice_at b bs ys false e more = rw (plain_blank b e) (ap (λ n. n ∷ mask_target (mask_target bs ++ ys)) (twice_at b (nat_lt 127 b) refl) ∙ ap (λ l. plain b ∷ l) more)

target_twice : (xs ys : List ℕ) → mask_target (mask_target xs ++ ys) ≡ mask_target (xs ++ ys)
target_twice [] ys = refl
target_twice (x ∷ xs) ys = target_twice_at x xs ys (x == 32) refl (target_twice xs ys)

masked_twice_at : (b : ℕ) (bs ys : List ℕ) (q : Bool) → (b == 32) ≡ q → masked (masked bs ++ ys) ≡ masked (bs ++ ys)
    → masked ((if q then b ∷ mask_target bs else b ∷ masked bs) ++ ys) ≡ (if q then b ∷ mask_target (bs ++ ys) else b ∷ masked (bs ++ ys))
masked_twice_at b bs ys true e more = rw e (ap (λ l. b ∷ l) (target_twice bs ys))
masked_twice_at b bs ys false e more = rw e (ap (λ l. b ∷ l) more)

-- what was masked may be masked again
masked_twice : (xs ys : List ℕ) → masked (masked xs ++ ys) ≡ masked (xs ++ ys)
masked_twice [] ys = refl
masked_twice (x ∷ xs) ys = masked_twice_at x xs ys (x == 32) refl (masked_twice xs ys)

-- what follows the masked bytes to make a head of them may follow the bytes
may_by : (bytes more : List ℕ) (h : RequestHead) → IsHead h → masked bytes ++ more ≡ print_request h ++ [] → MayBecomeHead bytes
may_by bytes more h is printed =
    let reads : ReadsRequest (masked (bytes ++ more)) (plain_head h) [] = (plain_is h is, sym (masked_twice bytes more) ∙ ap masked printed ∙ forth h [] is) in
    let found = back (bytes ++ more) (plain_head h) [] reads in
    (more, found.0, (found.1, found.2))

-- a head whose target goes on by one byte, with the least that may follow
ended : List LineEnd → List ℕ → List ℕ → RequestHead
ended blank method target = record { blank = blank; method = method; target = target ++ 97 ∷ []; minor = 1; line_end = lf; fields = []; last = lf }

uris_ended : (xs : List ℕ) → AllByRecursion (λ b. IsTrue (is_uri_byte b)) xs → AllByRecursion (λ b. IsTrue (is_uri_byte b)) (xs ++ 97 ∷ [])
uris_ended [] h = (refl, tt)
uris_ended (x ∷ xs) h = (h.0, uris_ended xs h.1)

ended_is : (blank : List LineEnd) (method target : List ℕ) → IsToken method → AllPass is_uri_byte target → IsHead (ended blank method target)
unfolding ended
ended_is blank method target token uris =
    record {
      method = token;
      target = (omega (arith, length-append target (97 ∷ [])), All-from_recursion _ (target ++ 97 ∷ []) (uris_ended target (recursion_from_All _ target uris)));
      minor = omega arith;
      fields = All-from_recursion _ [] tt;
    }

ended_printed : (blank : List LineEnd) (method target : List ℕ)
    → (print_blank blank ++ method ++ 32 ∷ target) ++ 97 ∷ 32 ∷ after (ended blank method target) [] ≡ print_request (ended blank method target) ++ []
unfolding ended after print_request
ended_printed blank method target = simp (append_assoc, cons-append) refl

pub may_head : (bytes : List ℕ) → MayBecomeRequest (masked bytes) → MayBecomeHead bytes
may_head bytes (inl found) = may_by bytes found.0 found.1 (is_head found.1 found.2.0) (found.2.1)
may_head bytes (inr (blank, method, target, token, uris, is)) =
    let h = ended blank method target in
    may_by bytes (97 ∷ 32 ∷ after h []) h (ended_is blank method target token uris) (ap (λ l. l ++ 97 ∷ 32 ∷ after h []) is ∙ ended_printed blank method target)

-- ---- a head

plain_len : (h : RequestHead) → length (print_request (plain_head h)) ≡ length (print_request h)
unfolding print_request
plain_len h = simp (length-append, length-map) refl

pub head_at : (bytes : List ℕ) (spans : List HeaderSpan) (r : RequestSpans) → IsRequestOf (masked bytes) spans r → IsHeadAt bytes (masked bytes) spans r
head_at bytes spans r found =
    let h = found.0 in
    let at = found.1 in
    let was = back bytes h _ at.reads in
    let g = was.0 in
    record {
      head = g;
      rest = drop r.len (masked bytes);
      reads = (was.1, was.2);
      len = at.len ∙ sym (ap (λ k. length (print_request k)) was.3) ∙ plain_len g;
      method = at.method ∙ sym (ap (λ k. k.method) was.3);
      target = ap target_in was.2 ∙ target_of_head g _ was.1;
      version = at.version ∙ sym (ap (λ k. k.minor) was.3);
      fields = at.fields ∙ sym (ap (λ k. map name_and_value k.fields) was.3);
    }

-- ---- what the parser answers, by its result

pub never_parsed : {A : Type 0} (r : Result A Error) (text : List ℕ) (room : ℕ) → length text ≤ 16384 → 5461 ≤ room → OnInvalid r (NeverHasRequest text)
    → OnTooManyHeaders r (RequestExceeds room text) → OnErr r (NeverHasRequest text)
never_parsed (Ok a) text room short enough invalid many = tt
never_parsed (Err e) text room short enough invalid many = invalid (λ full. never_too_many text room short enough (many (ap Err full)))

pub head_parsed : (r : Result (Status RequestSpans) Error) (bytes text : List ℕ) (spans : List HeaderSpan) → text ≡ masked bytes
    → IfComplete r (IsRequestOf text spans) → IfComplete r (IsHeadAt bytes text spans)
head_parsed (Ok (Complete a)) bytes text spans same found =
    subst (λ t. IsHeadAt bytes t spans a) (sym same) (head_at bytes spans a (subst (λ t. IsRequestOf t spans a) same found))
head_parsed (Ok Partial) bytes text spans same found = tt
head_parsed (Err e) bytes text spans same found = tt

-- the same of texts and spans that are those
pub head_held : (r : Result (Status RequestSpans) Error) (bytes text held : List ℕ) (spans kept : List HeaderSpan) → text ≡ held → kept ≡ spans
    → IfComplete r (IsHeadAt bytes text spans) → IfComplete r (IsHeadAt bytes held kept)
head_held r bytes text held spans kept same whole found = subst (λ t. IfComplete r (IsHeadAt bytes t kept)) same (subst (λ s. IfComplete r (IsHeadAt bytes text s)) (sym whole) found)

pub none_parsed : (r : Result (Status RequestSpans) Error) (bytes text : List ℕ) → text ≡ masked bytes → OnPartial r (HasNoRequest text) → OnPartial r (HasNoHead bytes)
none_parsed (Ok (Complete a)) bytes text same none = tt
none_parsed (Ok Partial) bytes text same none = no_head bytes (subst (λ t. HasNoRequest t) same none)
none_parsed (Err e) bytes text same none = tt

pub may_parsed : (r : Result (Status RequestSpans) Error) (bytes text : List ℕ) → text ≡ masked bytes → OnPartial r (MayBecomeRequest text) → OnPartial r (MayBecomeHead bytes)
may_parsed (Ok (Complete a)) bytes text same may = tt
may_parsed (Ok Partial) bytes text same may = may_head bytes (subst (λ t. MayBecomeRequest t) same may)
may_parsed (Err e) bytes text same may = tt

pub never_head_parsed : (r : Result (Status RequestSpans) Error) (bytes text : List ℕ) → text ≡ masked bytes → OnErr r (NeverHasRequest text) → OnErr r (NeverHasHead bytes)
never_head_parsed (Ok a) bytes text same never = tt
never_head_parsed (Err e) bytes text same never = never_head bytes (subst (λ t. NeverHasRequest t) same never)
