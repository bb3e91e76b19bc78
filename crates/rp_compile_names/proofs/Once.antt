-- Numbers that are seen are passed over.
use Rattle.std.proofs.Common.{◌≡◌, ℕ, ◌==◌, ◌||◌, ◌&&◌, not, Bool, true, false, List, [], ◌∷◌, ◌++◌, filter, drop, length, get_or, if◌then◌else◌, refl, sym, ◌∙◌, ap, arith, append_assoc, ◌<◌, ◌+◌, drop-cons, add-one}
use Rattle.std.proofs.lemmas.Bool.Decides.{nat_tests}
use Rattle.std.specs.BTreeSet.{insert_key}
use Rattle.std.specs.Ordering.{nat_cmp}
use Rattle.graphs.specs.Graphs.{each_once}
use Rattle.graphs.proofs.Sets.{is_among-insert}
use Rattle.plain_data.specs.Numbers.{is_among}

abbrev unseen : List ℕ → ℕ → Bool
unseen seen y = not (is_among seen y)

abbrev other : ℕ → ℕ → Bool
other x y = not (y == x)

two-at : (p q : ℕ → Bool) (x : ℕ) (xs ys : List ℕ) (t u : Bool) → q x ≡ t → p x ≡ u → filter p xs ≡ ys
    → filter p (if q x then x ∷ xs else xs) ≡ (if q x && p x then x ∷ ys else ys)
two-at p q x xs ys true true a b same = rw a (rw b (ap (λ zs. x ∷ zs) same))
two-at p q x xs ys true false a b same = rw a (rw b same)
two-at p q x xs ys false u a b same = rw a same

two : (p q : ℕ → Bool) (xs : List ℕ) → filter p (filter q xs) ≡ filter (λ y. q y && p y) xs
two p q [] = refl
two p q (x ∷ xs) = two-at p q x (filter q xs) (filter (λ y. q y && p y) xs) (q x) (p x) refl refl (two p q xs)

same-tests : (p q : ℕ → Bool) → ((y : ℕ) → p y ≡ q y) → (xs : List ℕ) → filter p xs ≡ filter q xs
same-tests p q same xs = λ i. filter (λ y. same y i) xs

de-morgan : (a b : Bool) → (not a && not b) ≡ not (a || b)
de-morgan true b = refl
de-morgan false b = refl

swapped : (x y : ℕ) → (x == y) ≡ (y == x)
swapped x y = grind (arith, nat_tests)

-- what is told apart already is told apart from one more
more : (seen : List ℕ) (x y : ℕ) → (other x y && unseen seen y) ≡ unseen (insert_key nat_cmp seen x) y
more seen x y = de-morgan (y == x) (is_among seen y) ∙ ap not (ap (λ b. b || is_among seen y) (swapped y x) ∙ sym (is_among-insert seen x y))

absorbed : (seen : List ℕ) (x y : ℕ) (t : Bool) → (y == x) ≡ t → is_among seen x ≡ true → (other x y && unseen seen y) ≡ unseen seen y
absorbed seen x y true is h = let same : y ≡ x = grind (arith, nat_tests, is) in rw is (rw same (rw h refl))
absorbed seen x y false is h = rw is refl

pub once-new : (seen : List ℕ) (x : ℕ) (xs : List ℕ) → is_among seen x ≡ false
    → filter (unseen seen) (each_once (x ∷ xs)) ≡ x ∷ filter (unseen (insert_key nat_cmp seen x)) (each_once xs)
once-new seen x xs h = rw h (ap (λ ys. x ∷ ys) (two (unseen seen) (other x) (each_once xs) ∙ same-tests _ _ (more seen x) (each_once xs)))

pub once-seen : (seen : List ℕ) (x : ℕ) (xs : List ℕ) → is_among seen x ≡ true
    → filter (unseen seen) (each_once (x ∷ xs)) ≡ filter (unseen seen) (each_once xs)
once-seen seen x xs h = rw h (two (unseen seen) (other x) (each_once xs) ∙ same-tests _ _ (λ y. absorbed seen x y (y == x) refl h) (each_once xs))

dropped : (xs : List ℕ) (i : ℕ) → i < length xs → drop i xs ≡ get_or xs i 0 ∷ drop (i + 1) xs
dropped xs i h = rw (add-one) (drop-cons xs i 0 h)

pub turn-new : (seen found xs : List ℕ) (i : ℕ) → i < length xs → is_among seen (get_or xs i 0) ≡ false
    → found ++ filter (unseen seen) (each_once (drop i xs)) ≡ (found ++ get_or xs i 0 ∷ []) ++ filter (unseen (insert_key nat_cmp seen (get_or xs i 0))) (each_once (drop (i + 1) xs))
turn-new seen found xs i h new =
    let x = get_or xs i 0 in
    rw (dropped xs i h) (ap (λ ys. found ++ ys) (once-new seen x (drop (i + 1) xs) new) ∙ sym (append_assoc found (x ∷ []) (filter (unseen (insert_key nat_cmp seen x)) (each_once (drop (i + 1) xs)))))

pub turn-seen : (seen found xs : List ℕ) (i : ℕ) → i < length xs → is_among seen (get_or xs i 0) ≡ true
    → found ++ filter (unseen seen) (each_once (drop i xs)) ≡ found ++ filter (unseen seen) (each_once (drop (i + 1) xs))
turn-seen seen found xs i h old = rw (dropped xs i h) (ap (λ ys. found ++ ys) (once-seen seen (get_or xs i 0) (drop (i + 1) xs) old))

pub all-unseen : (xs : List ℕ) → filter (unseen []) xs ≡ xs
all-unseen [] = refl
all-unseen (x ∷ xs) = ap (λ ys. x ∷ ys) (all-unseen xs)
