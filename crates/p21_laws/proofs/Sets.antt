-- Lists of numbers that have the same members.
use Rattle.std.proofs.Common.{◌≡◌, ◌≤◌, ℕ, zero, suc, max, Bool, true, false, not, ◌&&◌, ◌||◌, ◌==◌, nat_lt, List, [], ◌∷◌, filter, fold, Some, None, ⊎_elim, refl, sym, ◌∙◌, ap, subst, arith, le_antisymm}
use Rattle.std.proofs.lemmas.Bool.{cases_Bool, eq-eqb}
use Rattle.std.proofs.lemmas.Bool.Decides.{nat_tests}
use Rattle.std.proofs.lemmas.List.Folds.{list_any-append}
use Rattle.std.specs.List.{find, flat_map, list_all, list_any}
use Rattle.plain_data.specs.Numbers.{is_among}
use Rattle.plain_data.proofs.Numbers.{at_most_greatest}
use Rattle.graphs.proofs.Bounded.{any_at, any_where}
use Rattle.graphs.proofs.Certain.{each_passes}
use Rattle.graphs.proofs.Families.{among_numbers, is_among-filter}
use Rattle.graphs.proofs.Sets.{either, or_right}
use Rattle.graphs.specs.Graphs.{each_once, numbers_from}

abbrev pub AreSame : List ℕ → List ℕ → Type 0
AreSame xs ys = (n : ℕ) → is_among xs n ≡ is_among ys n

pub same_members : (xs ys : List ℕ) → AreSame xs ys → is_among xs ≡ is_among ys
same_members xs ys same = λ i n. same n i

pub one_way : (a b : Bool) → (a ≡ true → b ≡ true) → (b ≡ true → a ≡ true) → a ≡ b
one_way true b to from = sym (to refl)
one_way false true to from = from refl
one_way false false to from = refl

pub here : (x : ℕ) (xs : List ℕ) → is_among (x ∷ xs) x ≡ true
here x xs = rw (eq-eqb x x refl) refl

pub behind : (x n : ℕ) (xs : List ℕ) → is_among xs n ≡ true → is_among (x ∷ xs) n ≡ true
behind x n xs there = or_right (x == n) (is_among xs n) there

-- ---- tests of all and of some

pub all_pass : (p : ℕ → Bool) (xs : List ℕ) → ((n : ℕ) → is_among xs n ≡ true → p n ≡ true) → list_all p xs ≡ true
all_pass p [] each = refl
all_pass p (x ∷ xs) each = rw (each x (here x xs)) (all_pass p xs (λ n there. each n (behind x n xs there)))

pub all_same : (p : ℕ → Bool) (xs ys : List ℕ) → AreSame xs ys → list_all p xs ≡ list_all p ys
all_same p xs ys same = one_way (list_all p xs) (list_all p ys)
    (λ all. all_pass p ys (λ n there. each_passes p xs all n (same n ∙ there)))
    (λ all. all_pass p xs (λ n there. each_passes p ys all n (sym (same n) ∙ there)))

pub any_same : (p : ℕ → Bool) (xs ys : List ℕ) → AreSame xs ys → list_any p xs ≡ list_any p ys
any_same p xs ys same = one_way (list_any p xs) (list_any p ys)
    (λ any. let at = any_where p xs any in any_at p ys at.0 (sym (same at.0) ∙ at.1.0) at.1.1)
    (λ any. let at = any_where p ys any in any_at p xs at.0 (same at.0 ∙ at.1.0) at.1.1)

pub any_flat : {A : Type 0} (p : A → Bool) (f : ℕ → List A) (xs : List ℕ) → list_any p (flat_map f xs) ≡ list_any (λ n. list_any p (f n)) xs
any_flat p f [] = refl
any_flat p f (x ∷ xs) = list_any-append p (f x) (flat_map f xs) ∙ ap (λ b. list_any p (f x) || b) (any_flat p f xs)

-- ---- the first that passes

pub found : (p : ℕ → Bool) (xs : List ℕ) (n : ℕ) → find p xs ≡ Some n → (is_among xs n ≡ true) × (p n ≡ true)
found p [] n e = cc
found p (x ∷ xs) n e = ⊎_elim
    (λ (passes : p x ≡ true). let first : Some x ≡ Some n = rw passes at e in let same : x ≡ n = cc in subst (λ n. (is_among (x ∷ xs) n ≡ true) × (p n ≡ true)) same (here x xs, passes))
    (λ (fails : p x ≡ false). let later = found p xs n (rw fails at e) in (behind x n xs later.0, later.1))
    (cases_Bool (p x))

none_found : (p : ℕ → Bool) (xs : List ℕ) → find p xs ≡ None → list_any p xs ≡ false
none_found p [] e = refl
none_found p (x ∷ xs) e = ⊎_elim
    (λ (passes : p x ≡ true). let first : Some x ≡ None = rw passes at e in cc)
    (λ (fails : p x ≡ false). rw fails (none_found p xs (rw fails at e)))
    (cases_Bool (p x))

find_none : (p : ℕ → Bool) (xs : List ℕ) → list_any p xs ≡ false → find p xs ≡ None
find_none p [] e = refl
find_none p (x ∷ xs) e = ⊎_elim
    (λ (passes : p x ≡ true). let some : true ≡ false = rw passes at e in cc)
    (λ (fails : p x ≡ false). rw fails (find_none p xs (rw fails at e)))
    (cases_Bool (p x))

pub none_same : (p : ℕ → Bool) (xs ys : List ℕ) → AreSame xs ys → find p xs ≡ None → find p ys ≡ None
none_same p xs ys same none = find_none p ys (sym (any_same p xs ys same) ∙ none_found p xs none)

-- ---- the greatest

within : (numbers : List ℕ) (most limit : ℕ) → most ≤ limit → ((n : ℕ) → is_among numbers n ≡ true → n ≤ limit) → fold max most numbers ≤ limit
within [] most limit low all = low
within (x ∷ xs) most limit low all =
    let first = all x (here x xs) in
    within xs (max most x) limit (omega arith) (λ n there. all n (behind x n xs there))

same_greatest : (xs ys : List ℕ) → AreSame xs ys → fold max zero xs ≡ fold max zero ys
same_greatest xs ys same = le_antisymm
    (within xs zero (fold max zero ys) (omega arith) (λ n there. at_most_greatest ys zero n (sym (same n) ∙ there)))
    (within ys zero (fold max zero xs) (omega arith) (λ n there. at_most_greatest xs zero n (same n ∙ there)))

abbrev pub selected : List ℕ → List ℕ
selected numbers = filter (is_among numbers) (numbers_from zero (suc (fold max zero numbers)))

pub selected_same : (xs ys : List ℕ) → AreSame xs ys → selected xs ≡ selected ys
selected_same xs ys same =
    ap (λ p. filter p (numbers_from zero (suc (fold max zero xs)))) (same_members xs ys same)
    ∙ ap (λ m. filter (is_among ys) (numbers_from zero (suc m))) (same_greatest xs ys same)

pub in_selected : (xs : List ℕ) → AreSame (selected xs) xs
in_selected xs n =
    is_among-filter (is_among xs) (numbers_from zero (suc (fold max zero xs))) n
    ∙ ap (λ b. b && is_among xs n) (among_numbers (suc (fold max zero xs)) n)
    ∙ by_test (is_among xs n) refl
  where
    by_test : (t : Bool) → is_among xs n ≡ t → (nat_lt n (suc (fold max zero xs)) && t) ≡ t
    by_test true is = let low = at_most_greatest xs zero n is in grind (arith, nat_tests)
    by_test false is = never (nat_lt n (suc (fold max zero xs)))
      where
        never : (a : Bool) → (a && false) ≡ false
        never true = refl
        never false = refl

-- ---- each once

pub in_once : (xs : List ℕ) (n : ℕ) → is_among (each_once xs) n ≡ true → is_among xs n ≡ true
in_once [] n there = there
in_once (x ∷ xs) n there = ⊎_elim
    (λ (same : (x == n) ≡ true). rw same refl)
    (λ (later : is_among (filter (λ y. not (y == x)) (each_once xs)) n ≡ true).
    let both : (is_among (each_once xs) n && not (n == x)) ≡ true = sym (is_among-filter (λ y. not (y == x)) (each_once xs) n) ∙ later in
    behind x n xs (in_once xs n (first (is_among (each_once xs) n) (not (n == x)) both)))
    (either (x == n) (is_among (filter (λ y. not (y == x)) (each_once xs)) n) there)
  where
    first : (a b : Bool) → (a && b) ≡ true → a ≡ true
    first true b e = refl
    first false b e = cc
