-- Segments, one slash after another.
use Rattle.std.proofs.Common.{◌≡◌, ℕ, zero, suc, ◌+◌, ◌<◌, Bool, true, false, ◌==◌, List, [], ◌∷◌, length, take, drop, slice_index, Option, Some, None, MatchOption, refl, ap, ◌∙◌, arith}
use Rattle.std.specs.Prelude.{if◌then◌else◌, ◌&&◌, nat_lt, IsUtf8}
use Rattle.std.specs.Str.{is_utf8}
use Rattle.std.proofs.lemmas.Str.{is_utf8-from_IsUtf8, IsUtf8-from_is_utf8}
use Rattle.std.proofs.lemmas.Bool.Decides.{nat_tests}
use Rattle.memchr.specs.Find.{IsFirstByte, is_byte}
use Rattle.http_routes.specs.Paths.{segments, onto_first, place_of, is_named}

not_true : (q : Bool) → ¬ (q ≡ true) → q ≡ false
not_true true h = absurd (h refl)
not_true false h = refl

no_slash : (bytes : List ℕ) → ((k : ℕ) → k < length bytes → ¬ ((slice_index bytes k == 47) ≡ true)) → segments bytes ≡ bytes ∷ []
no_slash [] none = refl
no_slash (x ∷ bytes) none = rw (not_true (x == 47) (none 0 (omega arith))) (ap (onto_first x) (no_slash bytes (λ k lt. none (suc k) (omega arith))))

first_slash : (bytes : List ℕ) (at : ℕ) → at < length bytes → ((k : ℕ) → k < at → ¬ ((slice_index bytes k == 47) ≡ true)) → (slice_index bytes at == 47) ≡ true
    → segments bytes ≡ take at bytes ∷ segments (drop (suc at) bytes)
first_slash [] at within none is = absurd (omega arith)
first_slash (x ∷ bytes) zero within none is = rw is refl
first_slash (x ∷ bytes) (suc at) within none is =
    rw (not_true (x == 47) (none 0 (omega arith))) (ap (onto_first x) (first_slash bytes at (omega arith) (λ k lt. none (suc k) (omega arith)) is))

-- what `memchr` says of the first slash
pub slash_found : (bytes : List ℕ) (r : Option ℕ) → IsFirstByte (is_byte 47) bytes r
    → MatchOption r (segments bytes ≡ bytes ∷ []) (λ at. (segments bytes ≡ take at bytes ∷ segments (drop (at + 1) bytes)) × (at < length bytes))
slash_found bytes None h = no_slash bytes (λ k lt e. h k (omega arith) lt e)
slash_found bytes (Some at) h =
    let next : suc at ≡ at + 1 = omega arith in
    (first_slash bytes at h.0.high (λ k lt e. h.0.before k (omega arith) lt e) h.1 ∙ ap (λ n. take at bytes ∷ segments (drop n bytes)) next, h.0.high)

-- ---- more segments than any path has

some_first : (b : ℕ) (ss : List (List ℕ)) (a w o n : List ℕ) → place_of (w ∷ o ∷ n ∷ a ∷ onto_first b ss) ≡ None
some_first b [] a w o n = refl
some_first b (s ∷ ss) a w o n = refl

some_next : (b : ℕ) (bs : List ℕ) (q : Bool) (a w o n : List ℕ) → place_of (w ∷ o ∷ n ∷ a ∷ (if q then [] ∷ segments bs else onto_first b (segments bs))) ≡ None
some_next b bs true a w o n = refl
some_next b bs false a w o n = some_first b (segments bs) a w o n

pub five_are_none : (w o n a bytes : List ℕ) → place_of (w ∷ o ∷ n ∷ a ∷ segments bytes) ≡ None
five_are_none w o n a [] = refl
five_are_none w o n a (b ∷ bs) = some_next b bs (b == 47) a w o n

-- the same as they are cut, one after another
pub none_of_two : (all rest : List (List ℕ)) (w o : List ℕ) → all ≡ w ∷ rest → rest ≡ o ∷ [] → place_of all ≡ None
none_of_two all rest w o e f = ap place_of (e ∙ ap (λ l. w ∷ l) f)

pub none_of_five : (all behind_w behind_o behind_n : List (List ℕ)) (w o n a bytes : List ℕ) → all ≡ w ∷ behind_w → behind_w ≡ o ∷ behind_o → behind_o ≡ n ∷ behind_n
    → behind_n ≡ a ∷ segments bytes → place_of all ≡ None
none_of_five all behind_w behind_o behind_n w o n a bytes e f g h =
    ap place_of (e ∙ ap (λ l. w ∷ l) (f ∙ ap (λ l. o ∷ l) (g ∙ ap (λ l. n ∷ l) h))) ∙ five_are_none w o n a bytes

-- ---- which segments may be owners and names

pub text_is_named : (xs : List ℕ) → 0 < length xs → IsUtf8 xs → is_named xs ≡ true
text_is_named xs some text =
    let longer : nat_lt 0 (length xs) ≡ true = grind (arith, nat_tests, some) in
    rw (longer, is_utf8-from_IsUtf8 xs text) refl

pub nothing_is_unnamed : (xs : List ℕ) → length xs ≡ 0 → is_named xs ≡ false
nothing_is_unnamed [] none = refl
nothing_is_unnamed (x ∷ xs) none = absurd (omega (arith, none))

no_text : (xs : List ℕ) (q : Bool) → is_utf8 xs ≡ q → ¬ (IsUtf8 xs) → q ≡ false
no_text xs true e none = absurd (none (IsUtf8-from_is_utf8 xs e))
no_text xs false e none = refl

and_false : (p q : Bool) → q ≡ false → (p && q) ≡ false
and_false true q e = e
and_false false q e = refl

pub no_text_is_unnamed : (xs : List ℕ) → ¬ (IsUtf8 xs) → is_named xs ≡ false
no_text_is_unnamed xs none = and_false (nat_lt 0 (length xs)) (is_utf8 xs) (no_text xs (is_utf8 xs) refl none)
