-- Where a target stands, and the masked bytes piece by piece.
use Rattle.std.proofs.Common.{◌≡◌, ℕ, zero, suc, ◌<◌, Bool, true, false, ◌==◌, List, [], ◌∷◌, ◌++◌, length, take, drop, map, slice_index, Option, Some, None, MatchOption, refl, sym, ap, ◌∙◌, arith}
use Rattle.std.specs.Prelude.{if◌then◌else◌}
use borrow.Rule.Slice.PartMut.{put_mid}
use Rattle.memchr.specs.Find.{IsFirstByte, is_byte}
use Rattle.http_messages.specs.Mask.{plain, mask_target, masked, blank_at, target_at}

not_true : (q : Bool) → ¬ (q ≡ true) → q ≡ false
not_true true h = absurd (h refl)
not_true false h = refl

none_blank : (bytes : List ℕ) → ((k : ℕ) → k < length bytes → ¬ ((slice_index bytes k == 32) ≡ true)) → (blank_at bytes ≡ length bytes) × (target_at bytes ≡ length bytes)
none_blank [] none = (refl, refl)
none_blank (x ∷ bytes) none =
    let more = none_blank bytes (λ k lt. none (suc k) (omega arith)) in
    rw (not_true (x == 32) (none 0 (omega arith))) (ap suc more.0, ap suc more.1)

first_blank : (bytes : List ℕ) (at : ℕ) → at < length bytes → ((k : ℕ) → k < at → ¬ ((slice_index bytes k == 32) ≡ true)) → (slice_index bytes at == 32) ≡ true
    → (blank_at bytes ≡ at) × (target_at bytes ≡ suc at)
first_blank [] at within none is = absurd (omega arith)
first_blank (x ∷ bytes) zero within none is = rw is (refl, refl)
first_blank (x ∷ bytes) (suc at) within none is =
    let more = first_blank bytes at (omega arith) (λ k lt. none (suc k) (omega arith)) is in
    rw (not_true (x == 32) (none 0 (omega arith))) (ap suc more.0, ap suc more.1)

-- what `memchr` says of the first blank
pub blank_found : (bytes : List ℕ) (r : Option ℕ) → IsFirstByte (is_byte 32) bytes r
    → MatchOption r ((blank_at bytes ≡ length bytes) × (target_at bytes ≡ length bytes)) (λ at. (blank_at bytes ≡ at) × (target_at bytes ≡ suc at) × (at < length bytes))
blank_found bytes None h = none_blank bytes (λ k lt e. h k (omega arith) lt e)
blank_found bytes (Some at) h =
    let found = first_blank bytes at h.0.high (λ k lt e. h.0.before k (omega arith) lt e) h.1 in
    (found.0, found.1, h.0.high)

-- ---- piece by piece

masked_at : (x : ℕ) (xs : List ℕ) (q : Bool) → (x == 32) ≡ q → masked xs ≡ take (target_at xs) xs ++ mask_target (drop (target_at xs) xs)
    → (if q then x ∷ mask_target xs else x ∷ masked xs) ≡ take (if q then 1 else suc (target_at xs)) (x ∷ xs) ++ mask_target (drop (if q then 1 else suc (target_at xs)) (x ∷ xs))
masked_at x xs true e more = refl
masked_at x xs false e more = ap (λ l. x ∷ l) more

masked_pieces : (xs : List ℕ) → masked xs ≡ take (target_at xs) xs ++ mask_target (drop (target_at xs) xs)
masked_pieces [] = refl
masked_pieces (x ∷ xs) = masked_at x xs (x == 32) refl (masked_pieces xs)

target_piece : (x : ℕ) (xs : List ℕ) (q : Bool) → (x == 32) ≡ q → mask_target xs ≡ map plain (take (blank_at xs) xs) ++ drop (blank_at xs) xs
    → (if q then x ∷ xs else plain x ∷ mask_target xs) ≡ map plain (take (if q then 0 else suc (blank_at xs)) (x ∷ xs)) ++ drop (if q then 0 else suc (blank_at xs)) (x ∷ xs)
target_piece x xs true e more = refl
target_piece x xs false e more = ap (λ l. plain x ∷ l) more

target_pieces : (xs : List ℕ) → mask_target xs ≡ map plain (take (blank_at xs) xs) ++ drop (blank_at xs) xs
target_pieces [] = refl
target_pieces (x ∷ xs) = target_piece x xs (x == 32) refl (target_pieces xs)

pub all_pieces : (xs : List ℕ) → masked xs ≡ take (target_at xs) xs ++ (map plain (take (blank_at (drop (target_at xs) xs)) (drop (target_at xs) xs)) ++ drop (blank_at (drop (target_at xs) xs)) (drop (target_at xs) xs))
all_pieces xs = masked_pieces xs ∙ ap (λ l. take (target_at xs) xs ++ l) (target_pieces (drop (target_at xs) xs))

-- a list whose elements were made plain one by one
pub plain_all : (xs ys : List ℕ) → length ys ≡ length xs → ((k : ℕ) → k < length xs → slice_index ys k ≡ plain (slice_index xs k)) → ys ≡ map plain xs
plain_all [] [] same each = refl
plain_all [] (y ∷ ys) same each = absurd (omega (arith, same))
plain_all (x ∷ xs) [] same each = absurd (omega (arith, same))
plain_all (x ∷ xs) (y ∷ ys) same each =
    let shorter : length ys ≡ length xs = omega (arith, same) in
    ap (λ n. n ∷ ys) (each 0 (omega arith)) ∙ ap (λ l. plain x ∷ l) (plain_all xs ys shorter (λ k lt. each (suc k) (omega arith)))

-- the target was made plain in its place: n is where it begins, and m how many bytes it has
pub masked_in_place : (xs ys : List ℕ) (n m : ℕ) → n ≡ target_at xs → m ≡ blank_at (drop n xs) → ys ≡ map plain (take m (drop n xs)) → put_mid n m xs ys ≡ masked xs
masked_in_place xs ys n m at size made =
    let by_m : put_mid n m xs ys ≡ take n xs ++ (map plain (take (blank_at (drop n xs)) (drop n xs)) ++ drop (blank_at (drop n xs)) (drop n xs)) =
    ap (λ l. take n xs ++ (l ++ drop m (drop n xs))) made ∙ ap (λ k. take n xs ++ (map plain (take k (drop n xs)) ++ drop k (drop n xs))) size in
    by_m
    ∙ ap (λ k. take k xs ++ (map plain (take (blank_at (drop k xs)) (drop k xs)) ++ drop (blank_at (drop k xs)) (drop k xs))) at
    ∙ sym (all_pieces xs)
