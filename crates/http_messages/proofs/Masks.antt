-- Masking goes with printing.
use Rattle.std.proofs.Common.{◌≡◌, ℕ, ◌<◌, Bool, true, false, ◌==◌, nat_lt, List, [], ◌∷◌, ◌++◌, length, map, get_or, take, drop, length-append, append_assoc, refl, sym, ap, subst, ◌∙◌, arith, IsTrue, true≢false}
use Rattle.std.specs.Prelude.{if◌then◌else◌}
use Rattle.std.specs.List.{AllByRecursion}
use Rattle.std.proofs.lemmas.Bool.Decides.{nat_tests}
use Rattle.std.proofs.lemmas.List.{length-map}
use Rattle.std.proofs.lemmas.List.Elements.{recursion_from_All, All-from_recursion}
use Rattle.httparse.specs.Grammar.{LineEnd, crlf, lf, print_end, print_blank, print_version, print_section, RequestHead, is_token_byte, is_uri_byte, print_request, ReadsRequest}
use Rattle.httparse.proofs.GrammarLemmas.{cons-append}
use Rattle.http_messages.specs.Heads.{IsHead}
use Rattle.http_messages.specs.Mask.{plain, mask_target, masked, blank_at, target_at, target_in}

-- the head with a plain target
abbrev pub plain_head : RequestHead → RequestHead
plain_head h = record h { target = map plain h.target }

-- no byte is a blank
abbrev NoBlank : List ℕ → Type 0
NoBlank xs = AllByRecursion (λ b. (b == 32) ≡ false) xs

pub method_forth : (xs ys : List ℕ) → NoBlank xs → masked (xs ++ 32 ∷ ys) ≡ xs ++ 32 ∷ mask_target ys
method_forth [] ys h = refl
method_forth (x ∷ xs) ys h = rw h.0 (ap (λ l. x ∷ l) (method_forth xs ys h.1))

pub target_forth : (xs ys : List ℕ) → NoBlank xs → mask_target (xs ++ 32 ∷ ys) ≡ map plain xs ++ 32 ∷ ys
target_forth [] ys h = refl
target_forth (x ∷ xs) ys h = rw h.0 (ap (λ l. plain x ∷ l) (target_forth xs ys h.1))

pub NoBlank-append : (xs ys : List ℕ) → NoBlank xs → NoBlank ys → NoBlank (xs ++ ys)
NoBlank-append [] ys h k = k
NoBlank-append (x ∷ xs) ys h k = (h.0, NoBlank-append xs ys h.1 k)

end_plain : (e : LineEnd) → NoBlank (print_end e)
end_plain crlf = (refl, (refl, tt))
end_plain lf = (refl, tt)

blanks_plain : (es : List LineEnd) → NoBlank (print_blank es)
blanks_plain [] = tt
blanks_plain (e ∷ es) = NoBlank-append (print_end e) (print_blank es) (end_plain e) (blanks_plain es)

is_blank : (b : ℕ) → (b == 32) ≡ true → b ≡ 32
is_blank b e = grind (arith, nat_tests)

blank_no_token : IsTrue (is_token_byte 32) → ⊥
unfolding is_token_byte
blank_no_token t = true≢false (sym t)

token_at : (b : ℕ) (q : Bool) → (b == 32) ≡ q → IsTrue (is_token_byte b) → q ≡ false
token_at b false e t = refl
token_at b true e t = absurd (blank_no_token (subst (λ x. IsTrue (is_token_byte x)) (is_blank b e) t))

tokens_plain : (xs : List ℕ) → AllByRecursion (λ b. IsTrue (is_token_byte b)) xs → NoBlank xs
tokens_plain [] h = tt
tokens_plain (x ∷ xs) h = (token_at x (x == 32) refl h.0, tokens_plain xs h.1)

uri_at : (b : ℕ) → IsTrue (is_uri_byte b) → (b == 32) ≡ false
uri_at b t = grind (arith, nat_tests, t)

uris_plain : (xs : List ℕ) → AllByRecursion (λ b. IsTrue (is_uri_byte b)) xs → NoBlank xs
uris_plain [] h = tt
uris_plain (x ∷ xs) h = (uri_at x h.0, uris_plain xs h.1)

-- what comes behind the target
unfoldable pub after : RequestHead → List ℕ → List ℕ
after h rest = print_version h.minor ++ (print_end h.line_end ++ (print_section h.fields h.last ++ rest))

pub printed : (h : RequestHead) (rest : List ℕ) → print_request h ++ rest ≡ (print_blank h.blank ++ h.method) ++ 32 ∷ (h.target ++ 32 ∷ after h rest)
unfolding print_request after
printed h rest = simp (append_assoc, cons-append) refl

pub forth : (h : RequestHead) (rest : List ℕ) → IsHead h → masked (print_request h ++ rest) ≡ print_request (plain_head h) ++ rest
unfolding after print_request
forth h rest is =
    let front = print_blank h.blank ++ h.method in
    let no_blank = NoBlank-append (print_blank h.blank) h.method (blanks_plain h.blank) (tokens_plain h.method (recursion_from_All _ h.method is.method.1)) in
    let target = uris_plain h.target (recursion_from_All _ h.target is.target.1) in
    ap masked (printed h rest)
    ∙ method_forth front (h.target ++ 32 ∷ after h rest) no_blank
    ∙ ap (λ l. front ++ 32 ∷ l) (target_forth h.target (after h rest) target)
    ∙ sym (printed (plain_head h) rest)

-- ---- and back

heads : (x y : ℕ) (xs ys : List ℕ) → x ∷ xs ≡ y ∷ ys → x ≡ y
heads x y xs ys e = ap (λ l. get_or l 0 0) e

tails : (x y : ℕ) (xs ys : List ℕ) → x ∷ xs ≡ y ∷ ys → xs ≡ ys
tails x y xs ys e = ap (λ l. drop 1 l) e

unequal : (b x : ℕ) (P : Type 0) → b ≡ x → (b == 32) ≡ true → (x == 32) ≡ false → P
unequal b x P e yes_b no_x = absurd (true≢false (sym yes_b ∙ ap (λ n. n == 32) e ∙ no_x))

no_nil : (xs ys : List ℕ) (P : Type 0) → [] ≡ xs ++ 32 ∷ ys → P
no_nil xs ys P e = absurd (omega (arith, ap length e, length-append xs (32 ∷ ys)))

Opens : List ℕ → List ℕ → List ℕ → Type 0
Opens xs bytes ys = (zs : List ℕ) × (bytes ≡ xs ++ 32 ∷ zs) × (mask_target zs ≡ ys)

opens_here : (b : ℕ) (bs ys : List ℕ) (q : Bool) → (b == 32) ≡ q → (if q then b ∷ mask_target bs else b ∷ masked bs) ≡ 32 ∷ ys → Opens [] (b ∷ bs) ys
unfolding Opens
opens_here b bs ys true e is = (bs, ap (λ n. n ∷ bs) (is_blank b e), tails b 32 (mask_target bs) ys is)
opens_here b bs ys false e is = absurd (true≢false (sym (ap (λ n. n == 32) (heads b 32 (masked bs) ys is)) ∙ e))

opens_more : (b x : ℕ) (bs xs ys : List ℕ) (q : Bool) → (b == 32) ≡ q → (x == 32) ≡ false → (masked bs ≡ xs ++ 32 ∷ ys → Opens xs bs ys)
    → (if q then b ∷ mask_target bs else b ∷ masked bs) ≡ x ∷ (xs ++ 32 ∷ ys) → Opens (x ∷ xs) (b ∷ bs) ys
unfolding Opens
opens_more b x bs xs ys true e other back is = unequal b x _ (heads b x (mask_target bs) (xs ++ 32 ∷ ys) is) e other
opens_more b x bs xs ys false e other back is =
    let more = back (tails b x (masked bs) (xs ++ 32 ∷ ys) is) in
    (more.0, ap (λ n. n ∷ bs) (heads b x (masked bs) (xs ++ 32 ∷ ys) is) ∙ ap (λ l. x ∷ l) more.1, more.2)

method_back : (xs bytes ys : List ℕ) → NoBlank xs → masked bytes ≡ xs ++ 32 ∷ ys → Opens xs bytes ys
method_back xs [] ys h e = no_nil xs ys _ e
method_back [] (b ∷ bs) ys h e = opens_here b bs ys (b == 32) refl e
method_back (x ∷ xs) (b ∷ bs) ys h e = opens_more b x bs xs ys (b == 32) refl h.0 (λ k. method_back xs bs ys h.1 k) e

Ends : List ℕ → List ℕ → List ℕ → Type 0
Ends xs bytes ys = (ts : List ℕ) × (bytes ≡ ts ++ 32 ∷ ys) × (map plain ts ≡ xs)

plain_at : (b : ℕ) (q : Bool) → (b == 32) ≡ false → ((if q then 97 else b) == 32) ≡ false
plain_at b true e = refl
plain_at b false e = e

pub plain_blank : (b : ℕ) → (b == 32) ≡ false → (plain b == 32) ≡ false
plain_blank b e = plain_at b (nat_lt 127 b) e

ends_here : (b : ℕ) (bs ys : List ℕ) (q : Bool) → (b == 32) ≡ q → (if q then b ∷ bs else plain b ∷ mask_target bs) ≡ 32 ∷ ys → Ends [] (b ∷ bs) ys
unfolding Ends
ends_here b bs ys true e is = ([], is, refl)
ends_here b bs ys false e is = absurd (true≢false (sym (ap (λ n. n == 32) (heads (plain b) 32 (mask_target bs) ys is)) ∙ plain_blank b e))

ends_more : (b x : ℕ) (bs xs ys : List ℕ) (q : Bool) → (b == 32) ≡ q → (x == 32) ≡ false → (mask_target bs ≡ xs ++ 32 ∷ ys → Ends xs bs ys)
    → (if q then b ∷ bs else plain b ∷ mask_target bs) ≡ x ∷ (xs ++ 32 ∷ ys) → Ends (x ∷ xs) (b ∷ bs) ys
unfolding Ends
ends_more b x bs xs ys true e other back is = unequal b x _ (heads b x bs (xs ++ 32 ∷ ys) is) e other
ends_more b x bs xs ys false e other back is =
    let more = back (tails (plain b) x (mask_target bs) (xs ++ 32 ∷ ys) is) in
    (b ∷ more.0, ap (λ l. b ∷ l) more.1, ap (λ n. n ∷ map plain more.0) (heads (plain b) x (mask_target bs) (xs ++ 32 ∷ ys) is) ∙ ap (λ l. x ∷ l) more.2)

target_back : (xs bytes ys : List ℕ) → NoBlank xs → mask_target bytes ≡ xs ++ 32 ∷ ys → Ends xs bytes ys
target_back xs [] ys h e = no_nil xs ys _ e
target_back [] (b ∷ bs) ys h e = ends_here b bs ys (b == 32) refl e
target_back (x ∷ xs) (b ∷ bs) ys h e = ends_more b x bs xs ys (b == 32) refl h.0 (λ k. target_back xs bs ys h.1 k) e

-- a byte that is plain is of a target's class where its plain one is
uri_when : (b : ℕ) (q : Bool) → nat_lt 127 b ≡ q → IsTrue (is_uri_byte (if q then 97 else b)) → IsTrue (is_uri_byte b)
uri_when b true e t = grind (arith, nat_tests, e)
uri_when b false e t = t

uris_back : (ts : List ℕ) → AllByRecursion (λ b. IsTrue (is_uri_byte b)) (map plain ts) → AllByRecursion (λ b. IsTrue (is_uri_byte b)) ts
uris_back [] h = tt
uris_back (b ∷ bs) h = (uri_when b (nat_lt 127 b) refl h.0, uris_back bs h.1)

pub back : (bytes : List ℕ) (h : RequestHead) (rest : List ℕ) → ReadsRequest (masked bytes) h rest → (g : RequestHead) × IsHead g × (bytes ≡ print_request g ++ rest) × (plain_head g ≡ h)
unfolding Opens Ends after print_request
back bytes h rest reads =
    let is = reads.0 in
    let front = print_blank h.blank ++ h.method in
    let no_blank = NoBlank-append (print_blank h.blank) h.method (blanks_plain h.blank) (tokens_plain h.method (recursion_from_All _ h.method is.method.1)) in
    let uris = recursion_from_All _ h.target is.target.1 in
    let method = method_back front bytes (h.target ++ 32 ∷ after h rest) no_blank (reads.1 ∙ printed h rest) in
    let target = target_back h.target method.0 (after h rest) (uris_plain h.target uris) method.2 in
    let ts = target.0 in
    let g : RequestHead = record h { target = ts } in
    let some : 0 < length ts = omega (arith, is.target.0, ap length target.2, length-map ts plain) in (
      g,
      record {
        method = is.method;
        target = (some, All-from_recursion _ ts (uris_back ts (subst (λ l. AllByRecursion (λ b. IsTrue (is_uri_byte b)) l) (sym target.2) uris)));
        minor = is.minor;
        fields = is.fields;
      },
      method.1 ∙ ap (λ l. front ++ 32 ∷ l) target.1 ∙ sym (printed g rest),
      ap (λ t. record h { target = t }) target.2,
    )

-- ---- what follows is masked apart

target_goes : (b : ℕ) (xs ys : List ℕ) (q : Bool) → (tail : List ℕ) × (mask_target (xs ++ ys) ≡ mask_target xs ++ tail)
    → (tail : List ℕ) × ((if q then b ∷ (xs ++ ys) else plain b ∷ mask_target (xs ++ ys)) ≡ (if q then b ∷ xs else plain b ∷ mask_target xs) ++ tail)
target_goes b xs ys true more = (ys, refl)
target_goes b xs ys false more = (more.0, ap (λ l. plain b ∷ l) more.1)

target_grows : (xs ys : List ℕ) → (tail : List ℕ) × (mask_target (xs ++ ys) ≡ mask_target xs ++ tail)
target_grows [] ys = (mask_target ys, refl)
target_grows (x ∷ xs) ys = target_goes x xs ys (x == 32) (target_grows xs ys)

method_goes : (b : ℕ) (xs ys : List ℕ) (q : Bool) → (tail : List ℕ) × (mask_target (xs ++ ys) ≡ mask_target xs ++ tail) → (tail : List ℕ) × (masked (xs ++ ys) ≡ masked xs ++ tail)
    → (tail : List ℕ) × ((if q then b ∷ mask_target (xs ++ ys) else b ∷ masked (xs ++ ys)) ≡ (if q then b ∷ mask_target xs else b ∷ masked xs) ++ tail)
method_goes b xs ys true target more = (target.0, ap (λ l. b ∷ l) target.1)
method_goes b xs ys false target more = (more.0, ap (λ l. b ∷ l) more.1)

pub grows : (xs ys : List ℕ) → (tail : List ℕ) × (masked (xs ++ ys) ≡ masked xs ++ tail)
grows [] ys = (masked ys, refl)
grows (x ∷ xs) ys = method_goes x xs ys (x == 32) (target_grows xs ys) (grows xs ys)

-- ---- where the target of a head stands

behind_front : (xs ys : List ℕ) → NoBlank xs → drop (target_at (xs ++ 32 ∷ ys)) (xs ++ 32 ∷ ys) ≡ ys
behind_front [] ys h = refl
behind_front (x ∷ xs) ys h = rw h.0 (behind_front xs ys h.1)

before_blank : (xs ys : List ℕ) → NoBlank xs → take (blank_at (xs ++ 32 ∷ ys)) (xs ++ 32 ∷ ys) ≡ xs
before_blank [] ys h = refl
before_blank (x ∷ xs) ys h = rw h.0 (ap (λ l. x ∷ l) (before_blank xs ys h.1))

pub target_of_head : (h : RequestHead) (rest : List ℕ) → IsHead h → target_in (print_request h ++ rest) ≡ h.target
target_of_head h rest is =
    let front = print_blank h.blank ++ h.method in
    let no_blank = NoBlank-append (print_blank h.blank) h.method (blanks_plain h.blank) (tokens_plain h.method (recursion_from_All _ h.method is.method.1)) in
    let target = uris_plain h.target (recursion_from_All _ h.target is.target.1) in
    ap target_in (printed h rest)
    ∙ ap (λ l. take (blank_at l) l) (behind_front front (h.target ++ 32 ∷ after h rest) no_blank)
    ∙ before_blank h.target (after h rest) target
