-- Lines: what stands before the first line feed of bytes and behind the last one, and what stands below them.
use Rattle.std.proofs.Common.{◌≡◌, ℕ, ◌+◌, ◌-◌, ◌<◌, true, ◌==◌, List, [], ◌∷◌, ◌++◌, Option, None, Some, length, take, drop, slice_index, get_or, refl, ◌∙◌, ap, arith, inl, inr}
use Rattle.std.proofs.lemmas.Bool.{cases_Bool}
use Rattle.std.proofs.lemmas.Grind.{common_steps}
use Rattle.std.proofs.lemmas.List.{take_more}
use Rattle.std.proofs.lemmas.List.Elements.{filter_map-append}
use Rattle.std.proofs.lemmas.List.Sums.{prefix_len_is, suffix_len_is}
use Rattle.std.specs.List.{filter_map, prefix_len, suffix_len}
use Rattle.memchr.specs.Find.{NoneAfter, NoneBefore, Nowhere, Passes, is_byte}
use Rattle.ex_check.specs.Explained.{is_within_line, first_line, last_line}

is_within : (b : ℕ) → ¬ ((b == 10) ≡ true) → is_within_line b ≡ true
is_within b h = elim (cases_Bool (b == 10)) [ inl is ↦ absurd (h is) | inr is_not ↦ rw is_not refl ]

pub last_behind : (z : List ℕ) (i : ℕ) → NoneAfter (Passes (is_byte 10) z) 0 (length z) i → Passes (is_byte 10) z i → take (length z - (i + 1)) (drop (i + 1) z) ≡ last_line z
last_behind z i after is =
    let e : suffix_len is_within_line z ≡ length z - (i + 1) =
    suffix_len_is is_within_line z (i + 1) 0 (omega arith) (λ k low high. is_within (slice_index z k) (after.after k low high)) (λ _. let same : (i + 1) - 1 ≡ i = omega arith in rw (same, is) refl) in
    let n : length z - suffix_len is_within_line z ≡ i + 1 = omega arith in
    rw n (grind (arith, common_steps))

pub last_of_one : (z : List ℕ) → Nowhere (Passes (is_byte 10) z) 0 (length z) → z ≡ last_line z
last_of_one z none =
    let e : suffix_len is_within_line z ≡ length z - 0 =
    suffix_len_is is_within_line z 0 0 (omega arith) (λ k low high. is_within (slice_index z k) (none k low high)) (λ h. absurd (omega arith)) in
    let n : length z - suffix_len is_within_line z ≡ 0 = omega arith in
    rw n refl

pub first_before : (z : List ℕ) (i : ℕ) → NoneBefore (Passes (is_byte 10) z) 0 (length z) i → Passes (is_byte 10) z i → take i z ≡ first_line z
first_before z i before is =
    let e : prefix_len is_within_line z ≡ i =
    prefix_len_is is_within_line z i 0 (omega arith) (λ k high. is_within (slice_index z k) (before.before k (omega arith) high)) (λ _. rw is refl) in
    rw e refl

pub first_of_one : (z : List ℕ) → Nowhere (Passes (is_byte 10) z) 0 (length z) → z ≡ first_line z
first_of_one z none =
    let e : prefix_len is_within_line z ≡ length z =
    prefix_len_is is_within_line z (length z) 0 (omega arith) (λ k high. is_within (slice_index z k) (none k (omega arith) high)) (λ h. absurd (omega arith)) in
    rw e (grind (arith, common_steps))

-- ---- what one element more gives

module _ {X Y : Type 0} (h : X → Option Y) (xs : List X) (i : ℕ) (d : X) (within : i < length xs) where
  pub passed_over : h (get_or xs i d) ≡ None → filter_map h (take (i + 1) xs) ≡ filter_map h (take i xs)
  passed_over is = ap (filter_map h) (take_more xs i d within) ∙ filter_map-append h (take i xs) (get_or xs i d ∷ []) ∙ rw is (grind (arith, common_steps))

  pub taken : (y : Y) → h (get_or xs i d) ≡ Some y → filter_map h (take (i + 1) xs) ≡ filter_map h (take i xs) ++ (y ∷ [])
  taken y is = ap (filter_map h) (take_more xs i d within) ∙ filter_map-append h (take i xs) (get_or xs i d ∷ []) ∙ rw is refl
