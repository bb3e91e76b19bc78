-- Sets of numbers in ascending order.
use Rattle.std.proofs.Common.{◌≡◌, ◌≤◌, ◌<◌, ℕ, zero, suc, ◌+◌, max, Bool, true, false, ◌||◌, ◌&&◌, nat_lt, slice_index, ◌==◌, List, [], ◌∷◌, length, filter, fold, ⊎_elim, refl, sym, ◌∙◌, ap, subst, arith, le_refl}
use Rattle.std.proofs.lemmas.Bool.Decides.{nat_tests}
use Rattle.std.proofs.lemmas.Bool.{cases_Bool}
use Rattle.std.proofs.lemmas.List.FromFn.{get_or-range_with_len, length-range_with_len}
use Rattle.std.proofs.lemmas.List.Kept.{IsStrictlySortedBy-filter}
use Rattle.std.proofs.lemmas.Map.Keys.{sorted_from_strictly_increasing, IsStrictlyIncreasing-from_sorted}
use Rattle.std.specs.List.Sorted.{IsStrictlyIncreasing}
use Rattle.std.specs.Ordering.{nat_cmp}
use Rattle.plain_data.specs.Numbers.{is_among}
use Rattle.plain_data.proofs.Numbers.{at_most_greatest}
use Rattle.graphs.proofs.Families.{among_numbers, is_among-filter}
use Rattle.graphs.proofs.Numbers.{numbers_are}
use Rattle.graphs.specs.Graphs.{numbers_from}
use Rattle.ex_layouts.specs.Entities.{ascending}

-- each is the number or more, and more than the one before it
abbrev Rising : ℕ → List ℕ → Type 0
Rising from [] = Unit {0}
Rising from (x ∷ xs) = (from ≤ x) × Rising (suc x) xs

-- each is less than the number
abbrev AreBelow : ℕ → List ℕ → Type 0
AreBelow limit [] = Unit {0}
AreBelow limit (x ∷ xs) = (x < limit) × AreBelow limit xs

none_of_none : (count start : ℕ) → filter (is_among []) (numbers_from start count) ≡ []
none_of_none zero start = refl
none_of_none (suc count) start = none_of_none count (suc start)

-- a number below all others is none of them
not_among : (from n : ℕ) (xs : List ℕ) → Rising from xs → n < from → is_among xs n ≡ false
not_among from n [] up less = refl
not_among from n (x ∷ xs) up less =
    let other : (x == n) ≡ false = grind (arith, nat_tests, up.0) in
    rw (other, not_among (suc x) n xs up.1 (omega arith)) refl

-- the first of them plays no part further on
later : (x : ℕ) (xs : List ℕ) (start count : ℕ) → x < start → filter (is_among (x ∷ xs)) (numbers_from start count) ≡ filter (is_among xs) (numbers_from start count)
later x xs start zero less = refl
later x xs start (suc count) less =
    let other : (x == start) ≡ false = grind (arith, nat_tests) in
    let more : x < suc start = omega arith in
    rw (other, later x xs (suc start) count more) refl

selected : (count start : ℕ) (xs : List ℕ) → Rising start xs → AreBelow (start + count) xs → filter (is_among xs) (numbers_from start count) ≡ xs
selected count start [] up low = none_of_none count start
selected zero start (x ∷ xs) up low = let from = up.0 in let to = low.0 in absurd (omega arith)
selected (suc count) start (x ∷ xs) up low =
    let total : start + suc count ≡ suc start + count = omega arith in
    ⊎_elim
    (λ (same : (x == start) ≡ true).
    let is : x ≡ start = grind (arith, nat_tests) in
    let low2 : AreBelow (suc start + count) xs = subst (λ n. AreBelow n xs) total low.1 in
    let up2 : Rising (suc start) xs = subst (λ n. Rising (suc n) xs) is up.1 in
    rw same (ap (λ l. start ∷ l) (later x xs (suc start) count (rw is (le_refl (suc start))) ∙ selected count (suc start) xs up2 low2) ∙ ap (λ n. n ∷ xs) (sym is)))
    (λ (other : (x == start) ≡ false).
    let more : suc start ≤ x = (let from = up.0 in grind (arith, nat_tests)) in
    let not_first = not_among (suc x) start xs up.1 (omega arith) in
    let low2 : AreBelow (suc start + count) (x ∷ xs) = subst (λ n. AreBelow n (x ∷ xs)) total low in
    rw (other, not_first) (selected count (suc start) (x ∷ xs) (more, up.1) low2))
    (cases_Bool (x == start))

-- ---- what a set gives

rises : (xs : List ℕ) (from : ℕ) → IsStrictlyIncreasing xs → (0 < length xs → from ≤ slice_index xs 0) → Rising from xs
rises [] from up first = tt
rises (x ∷ xs) from up first =
    let l = x ∷ xs in
    let next : IsStrictlyIncreasing xs = (λ k within.
    let e : suc k + 1 ≡ suc (k + 1) = omega arith in
    subst (λ j. slice_index l (suc k) < slice_index l j) e (up (suc k) (omega arith))) in
    (first (omega arith), rises xs (suc x) next (λ some. up 0 (omega arith)))

all_below : (limit : ℕ) (xs : List ℕ) → ((n : ℕ) → is_among xs n ≡ true → n < limit) → AreBelow limit xs
all_below limit [] low = tt
all_below limit (x ∷ xs) low =
    let here : is_among (x ∷ xs) x ≡ true = (let same : (x == x) ≡ true = grind (arith, nat_tests) in rw same refl) in
    (low x here, all_below limit xs (λ n is. low n (in_tail (x == n) (is_among xs n) is)))
  where
    in_tail : (a b : Bool) → b ≡ true → (a || b) ≡ true
    in_tail true b e = refl
    in_tail false b e = e

-- the set of some numbers is these in ascending order
pub one_set : (numbers set : List ℕ) → IsStrictlyIncreasing set → ((n : ℕ) → is_among set n ≡ is_among numbers n) → set ≡ ascending numbers
unfolding ascending
one_set numbers set up same =
    let limit = suc (fold max zero numbers) in
    let low : AreBelow limit set = all_below limit set (λ n is. let most = at_most_greatest numbers zero n (sym (same n) ∙ is) in omega arith) in
    let low2 : AreBelow (zero + limit) set = (let e : limit ≡ zero + limit = omega arith in subst (λ n. AreBelow n set) e low) in
    sym (selected limit zero set (rises set zero up (λ some. omega arith)) low2) ∙ (λ i. filter (λ n. same n i) (numbers_from zero limit))

-- ---- they are a set

numbers_rise : (n : ℕ) → IsStrictlyIncreasing (numbers_from zero n)
numbers_rise n = rw (numbers_are zero n) (λ k within.
    let many = length-range_with_len zero n in
    omega (arith, get_or-range_with_len zero n k 0 (omega arith), get_or-range_with_len zero n (k + 1) 0 (omega arith)))

pub ascending_rises : (numbers : List ℕ) → IsStrictlyIncreasing (ascending numbers)
unfolding ascending
ascending_rises numbers =
    let limit = suc (fold max zero numbers) in
    IsStrictlyIncreasing-from_sorted (filter (is_among numbers) (numbers_from zero limit))
    (IsStrictlySortedBy-filter nat_cmp (is_among numbers) (numbers_from zero limit) (sorted_from_strictly_increasing (numbers_from zero limit) (numbers_rise limit)))

within : (b t : Bool) → (b ≡ true → t ≡ true) → (t && b) ≡ b
within true t low = rw (low refl) refl
within false true low = refl
within false false low = refl

pub ascending_has : (numbers : List ℕ) (n : ℕ) → is_among (ascending numbers) n ≡ is_among numbers n
unfolding ascending
ascending_has numbers n =
    let limit = suc (fold max zero numbers) in
    let low : is_among numbers n ≡ true → nat_lt n limit ≡ true = (λ is. let most = at_most_greatest numbers zero n is in grind (arith, nat_tests, most)) in
    is_among-filter (is_among numbers) (numbers_from zero limit) n ∙ ap (λ t. t && is_among numbers n) (among_numbers limit n) ∙ within (is_among numbers n) (nat_lt n limit) low
