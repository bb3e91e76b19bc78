-- Numbers among a list, one number more, and the greatest.
use Rattle.std.proofs.Common.{◌≡◌, ◌<◌, ◌≤◌, ℕ, zero, suc, ◌+◌, max, true, false, ◌||◌, ◌==◌, List, [], ◌∷◌, ◌++◌, length, drop, get_or, fold, ⊎_elim, refl, ◌∙◌, arith, le_refl, le_trans}
use Rattle.std.proofs.lemmas.Bool.{cases_Bool, eqb-true}
use Rattle.std.proofs.lemmas.Bool.Decides.{nat_tests}
use Rattle.std.proofs.lemmas.List.Folds.{list_any-append}
use Rattle.plain_data.specs.Numbers.{is_among}
use Rattle.plain_data.proofs.Disjunctions.{or_last, or_turn_left}

pub is_among-append : (xs ys : List ℕ) (n : ℕ) → is_among (xs ++ ys) n ≡ (is_among xs n || is_among ys n)
is_among-append xs ys n = list_any-append (λ m. m == n) xs ys

pub is_among-push : (xs : List ℕ) (x n : ℕ) → is_among (xs ++ x ∷ []) n ≡ ((x == n) || is_among xs n)
is_among-push xs x n = is_among-append xs (x ∷ []) n ∙ or_last (is_among xs n) (x == n)

-- the next one, and those that are left behind it
pub is_among-drop : (i n : ℕ) (xs : List ℕ) → i < length xs → is_among (drop i xs) n ≡ ((get_or xs i 0 == n) || is_among (drop (i + 1) xs) n)
is_among-drop i n [] within = let no : ⊥ = omega arith in absurd no
is_among-drop zero n (x ∷ xs) within = refl
is_among-drop (suc i) n (x ∷ xs) within = let same : suc i + 1 ≡ suc (i + 1) = omega arith in rw same (is_among-drop i n xs (omega arith))

pub none_among : (xs : List ℕ) (n : ℕ) → ((k : ℕ) → k < length xs → (get_or xs k 0 == n) ≡ false) → is_among xs n ≡ false
none_among [] n apart = refl
none_among (x ∷ xs) n apart = rw (apart 0 (omega arith), none_among xs n (λ k within. apart (suc k) (omega arith))) refl

pub not_below : (a x : ℕ) → a < x → (a == x) ≡ false
not_below a x less = grind (arith, nat_tests)

pub not_above : (a x : ℕ) → x < a → (a == x) ≡ false
not_above a x more = grind (arith, nat_tests)

pub only_one : (n x : ℕ) → is_among (x ∷ []) n ≡ true → x ≡ n
only_one n x there = ⊎_elim
    (λ (is : (x == n) ≡ true). eqb-true x n is)
    (λ (other : (x == n) ≡ false). let no : false ≡ true = rw other at there in cc)
    (cases_Bool (x == n))

-- ---- numbers that are put into a set

pub set_next : (i : ℕ) (numbers found more : List ℕ) (n : ℕ) → i < length numbers → is_among more n ≡ ((get_or numbers i 0 == n) || is_among found n)
    → (is_among more n || is_among (drop (i + 1) numbers) n) ≡ (is_among found n || is_among (drop i numbers) n)
set_next i numbers found more n within e =
    rw (e, is_among-drop i n numbers within) (or_turn_left (get_or numbers i 0 == n) (is_among found n) (is_among (drop (i + 1) numbers) n))

-- ---- the greatest

pub greatest_grows : (numbers : List ℕ) (most : ℕ) → most ≤ fold max most numbers
greatest_grows [] most = le_refl most
greatest_grows (x ∷ xs) most = let more : most ≤ max most x = omega arith in le_trans more (greatest_grows xs (max most x))

pub at_most_greatest : (numbers : List ℕ) (most n : ℕ) → is_among numbers n ≡ true → n ≤ fold max most numbers
at_most_greatest [] most n is = cc
at_most_greatest (x ∷ xs) most n is = ⊎_elim
    (λ (same : (x == n) ≡ true). let is_n : x ≡ n = eqb-true x n same in let more : n ≤ max most x = omega arith in le_trans more (greatest_grows xs (max most x)))
    (λ (other : (x == n) ≡ false). at_most_greatest xs (max most x) n (rw other at is))
    (cases_Bool (x == n))
