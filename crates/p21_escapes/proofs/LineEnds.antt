-- The bytes of a string that are no line ends.
use Rattle.std.proofs.Common.{◌≡◌, ◌++◌, ◌≤◌, ◌<◌, ℕ, zero, suc, ◌+◌, ◌-◌, not, Bool, true, false, ◌==◌, if◌then◌else◌, List, [], ◌∷◌, length, take, drop, slice_index, get_or, refl, sym, ◌∙◌, ap, arith}
use Rattle.std.proofs.lemmas.Bool.Decides.{nat_tests}
use Rattle.std.specs.List.{prefix_len, list_all}
use Rattle.p21_escapes.specs.Decoding.{is_line_end, is_bare}
use Rattle.p21_escapes.specs.Encoding.{is_itself}
use Rattle.p21_escapes.specs.LineEnds.{kept, BeginsKept, four}

pub kept_end : (b : ℕ) (z : List ℕ) → is_line_end b ≡ true → kept (b ∷ z) ≡ kept z
unfolding kept
kept_end b z is = rw is refl

pub kept_byte : (b : ℕ) (z : List ℕ) → is_line_end b ≡ false → kept (b ∷ z) ≡ b ∷ kept z
unfolding kept
kept_byte b z is = rw is refl

pub kept_nil : kept [] ≡ []
unfolding kept
kept_nil = refl

-- one byte more
pub after_end : (left : ℕ) (z : List ℕ) → 1 ≤ length z → is_line_end (get_or z 0 0) ≡ true → drop left (kept (drop 1 z)) ≡ drop left (kept z)
after_end left [] some is = absurd (omega arith)
after_end left (b ∷ z) some is = ap (drop left) (sym (kept_end b z is))

pub after_byte : (left : ℕ) (z : List ℕ) → 1 ≤ length z → 1 ≤ left → is_line_end (get_or z 0 0) ≡ false → drop (left - 1) (kept (drop 1 z)) ≡ drop left (kept z)
after_byte left [] some more is = absurd (omega arith)
after_byte zero (b ∷ z) some more is = absurd (omega arith)
after_byte (suc left) (b ∷ z) some more is =
    let less : suc left - 1 ≡ left = omega arith in
    ap (λ k. drop k (kept z)) less ∙ ap (drop (suc left)) (sym (kept_byte b z is))

pub after_all : (left : ℕ) (z : List ℕ) → length z ≡ 0 → kept z ≡ drop left (kept z)
after_all left [] none = kept_nil ∙ sym (drop_nil left) ∙ ap (drop left) (sym kept_nil)
  where
    drop_nil : (n : ℕ) → drop {A = ℕ} n [] ≡ []
    drop_nil zero = refl
    drop_nil (suc n) = refl
after_all left (b ∷ z) none = absurd (omega arith)

-- the byte behind so many
pub byte_at : (z rest : List ℕ) (at : ℕ) → kept rest ≡ drop at (kept z) → BeginsKept rest → slice_index rest 0 ≡ slice_index (kept z) at
byte_at z [] at is begins = past at (kept z) (sym is ∙ kept_nil)
  where
    past : (at : ℕ) (l : List ℕ) → drop at l ≡ [] → 0 ≡ slice_index l at
    past zero l is = sym (ap (λ k. slice_index k 0) is)
    past (suc at) [] is = refl
    past (suc at) (d ∷ l) is = past at l is
byte_at z (c ∷ rest) at is begins = at_drop at (kept z) (sym is ∙ kept_byte c rest begins)
  where
    at_drop : (at : ℕ) (l : List ℕ) → drop at l ≡ c ∷ kept rest → c ≡ slice_index l at
    at_drop zero l is = sym (ap (λ k. slice_index k 0) is)
    at_drop (suc at) [] is = cc
    at_drop (suc at) (d ∷ l) is = at_drop at l is

-- whether any is left
pub any_kept : (z rest : List ℕ) → kept rest ≡ drop 0 (kept z) → BeginsKept rest → (length rest == 0) ≡ (length (kept z) == 0)
any_kept z [] is begins = ap (λ (l : List ℕ). length l == 0) (sym kept_nil ∙ is)
any_kept z (b ∷ rest) is begins = by_list (kept z) (sym (kept_byte b rest begins) ∙ is)
  where
    by_list : (l : List ℕ) → b ∷ kept rest ≡ l → (length (b ∷ rest) == 0) ≡ (length l == 0)
    by_list [] is = cc
    by_list (d ∷ l) is = grind (arith, nat_tests)

pub kept_fits : (z : List ℕ) → length (kept z) ≤ length z
unfolding kept
kept_fits [] = omega arith
kept_fits (b ∷ z) = by_test (is_line_end b) (kept_fits z)
  where
    by_test : (t : Bool) → length (kept z) ≤ length z → length (if not t then b ∷ kept z else kept z) ≤ length (b ∷ z)
    by_test true more = omega arith
    by_test false more = omega arith

-- ---- a run

itself_stands : (b : ℕ) → is_itself b ≡ true → is_line_end b ≡ false
itself_stands b is = grind (arith, nat_tests)

itself_bare : (b : ℕ) → is_itself b ≡ true → is_bare b ≡ true
itself_bare b is = grind (arith, nat_tests)

pub kept_run : (z : List ℕ) → kept z ≡ take (prefix_len is_itself z) z ++ kept (drop (prefix_len is_itself z) z)
kept_run [] = refl
kept_run (b ∷ z) = by_test (is_itself b) refl (kept_run z)
  where
    by_test : (t : Bool) → is_itself b ≡ t → kept z ≡ take (prefix_len is_itself z) z ++ kept (drop (prefix_len is_itself z) z)
        → kept (b ∷ z) ≡ take (if t then 1 + prefix_len is_itself z else 0) (b ∷ z) ++ kept (drop (if t then 1 + prefix_len is_itself z else 0) (b ∷ z))
    by_test false is more = refl
    by_test true is more =
        let n = prefix_len is_itself z in
        let one_more : suc n ≡ 1 + n = omega arith in
        kept_byte b z (itself_stands b is) ∙ ap (λ l. b ∷ l) more ∙ ap (λ k. take k (b ∷ z) ++ kept (drop k (b ∷ z))) one_more

pub run_bare : (z : List ℕ) → list_all is_bare (take (prefix_len is_itself z) z) ≡ true
run_bare [] = refl
run_bare (b ∷ z) = by_test (is_itself b) refl (run_bare z)
  where
    by_test : (t : Bool) → is_itself b ≡ t → list_all is_bare (take (prefix_len is_itself z) z) ≡ true → list_all is_bare (take (if t then 1 + prefix_len is_itself z else 0) (b ∷ z)) ≡ true
    by_test false is more = refl
    by_test true is more =
        let n = prefix_len is_itself z in
        let one_more : 1 + n ≡ suc n = omega arith in
        ap (λ k. list_all is_bare (take k (b ∷ z))) one_more ∙ rw (itself_bare b is) more

pub run_cut : (z front back : List ℕ) (n : ℕ) → n ≡ prefix_len is_itself z → front ≡ take n z → back ≡ drop n z → kept z ≡ front ++ kept back
run_cut z front back n is first rest = kept_run z ∙ sym (ap (λ l. l ++ kept back) (first ∙ ap (λ k. take k z) is) ∙ ap (λ l. take (prefix_len is_itself z) z ++ kept l) (rest ∙ ap (λ k. drop k z) is))

pub cut_bare : (z front : List ℕ) (n : ℕ) → n ≡ prefix_len is_itself z → front ≡ take n z → list_all is_bare front ≡ true
cut_bare z front n is first = ap (list_all is_bare) (first ∙ ap (λ k. take k z) is) ∙ run_bare z

-- ---- the first four bytes

pub some_left : (z : List ℕ) → (length z == 0) ≡ false → 0 < length z
some_left [] is = cc
some_left (b ∷ z) is = omega arith

pub window : (n : ℕ) (z : List ℕ) → n ≤ 4 → n ≤ length z → take n (four z) ≡ take n z
window zero z few fits = refl
window (suc zero) (a ∷ z) few fits = refl
window (suc (suc zero)) (a ∷ b ∷ z) few fits = refl
window (suc (suc (suc zero))) (a ∷ b ∷ c ∷ z) few fits = refl
window (suc (suc (suc (suc zero)))) (a ∷ b ∷ c ∷ d ∷ z) few fits = refl
window (suc (suc (suc (suc (suc n))))) z few fits = absurd (omega arith)
window (suc n) [] few fits = absurd (omega arith)
window (suc (suc n)) (a ∷ []) few fits = absurd (omega arith)
window (suc (suc (suc n))) (a ∷ b ∷ []) few fits = absurd (omega arith)
window (suc (suc (suc (suc n)))) (a ∷ b ∷ c ∷ []) few fits = absurd (omega arith)
