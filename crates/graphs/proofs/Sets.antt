-- Numbers among a list, and one number more.
use Rattle.std.proofs.Common.{◌≡◌, ℕ, Bool, true, false, not, ◌||◌, ◌==◌, List, [], ◌∷◌, ◌++◌, ◌⊎◌, inl, inr, refl, sym, ◌∙◌, ap, arith, Ordering, Less, Equal, Greater}
use Rattle.std.proofs.lemmas.Bool.{eq-eqb}
use Rattle.std.proofs.lemmas.Bool.Decides.{nat_tests}
use Rattle.std.specs.BTreeSet.{insert_key}
use Rattle.std.specs.List.{list_any}
use Rattle.std.specs.Ordering.{is_eq, match_ordering, nat_cmp}
use Rattle.plain_data.specs.Numbers.{is_among}
use Rattle.plain_data.proofs.Disjunctions.{or_again, or_turn}
use Rattle.plain_data.proofs.Numbers.{is_among-append}

one_number : (n x y : ℕ) → nat_cmp x y ≡ Equal → (x == n) ≡ (y == n)
one_number n x y e = grind (arith, nat_tests)

at_head : (n : ℕ) (o : Ordering) (k x : ℕ) (xs : List ℕ) → nat_cmp k x ≡ o → is_among (insert_key nat_cmp xs k) n ≡ ((k == n) || is_among xs n)
    → is_among (match_ordering o (k ∷ x ∷ xs) (x ∷ xs) (x ∷ insert_key nat_cmp xs k)) n ≡ ((k == n) || is_among (x ∷ xs) n)
at_head n Less k x xs e more = refl
at_head n Equal k x xs e more = or_again (k == n) (x == n) (is_among xs n) (one_number n k x e)
at_head n Greater k x xs e more = rw more (or_turn (x == n) (k == n) (is_among xs n))

pub is_among-insert : (xs : List ℕ) (k n : ℕ) → is_among (insert_key nat_cmp xs k) n ≡ ((k == n) || is_among xs n)
is_among-insert [] k n = refl
is_among-insert (x ∷ xs) k n = at_head n (nat_cmp k x) k x xs refl (is_among-insert xs k n)

pub either : (a b : Bool) → (a || b) ≡ true → (a ≡ true) ⊎ (b ≡ true)
either true b e = inl refl
either false b e = inr e

pub or_left : (a b : Bool) → a ≡ true → (a || b) ≡ true
or_left a b e = rw e refl

pub or_right : (a b : Bool) → b ≡ true → (a || b) ≡ true
or_right true b e = refl
or_right false b e = e

pub in_first : (xs ys : List ℕ) (n : ℕ) → is_among xs n ≡ true → is_among (xs ++ ys) n ≡ true
in_first xs ys n e = is_among-append xs ys n ∙ or_left (is_among xs n) (is_among ys n) e

pub in_second : (xs ys : List ℕ) (n : ℕ) → is_among ys n ≡ true → is_among (xs ++ ys) n ≡ true
in_second xs ys n e = is_among-append xs ys n ∙ or_right (is_among xs n) (is_among ys n) e

pub in_either : (xs ys : List ℕ) (n : ℕ) → is_among (xs ++ ys) n ≡ true → (is_among xs n ≡ true) ⊎ (is_among ys n ≡ true)
in_either xs ys n e = either (is_among xs n) (is_among ys n) (sym (is_among-append xs ys n) ∙ e)

-- the last one is there
pub in_last : (xs : List ℕ) (x : ℕ) → is_among (xs ++ x ∷ []) x ≡ true
in_last xs x = in_second xs (x ∷ []) x (rw (eq-eqb x x refl) refl)

-- ---- a set's keys

pub inserted : (keys more : List ℕ) (k : ℕ) → more ≡ insert_key nat_cmp keys k → (n : ℕ) → is_among more n ≡ ((k == n) || is_among keys n)
inserted keys more k e n = ap (λ l. is_among l n) e ∙ is_among-insert keys k n

compared : (k x : ℕ) → is_eq (nat_cmp k x) ≡ (x == k)
compared k x = grind (arith, nat_tests)

pub contained : (keys : List ℕ) (k : ℕ) → list_any (λ x. is_eq (nat_cmp k x)) keys ≡ is_among keys k
contained [] k = refl
contained (x ∷ xs) k = rw (compared k x, contained xs k) refl

turned : (added there : Bool) → added ≡ not there → there ≡ not added
turned added true e = rw e refl
turned added false e = rw e refl

-- what was added was not there, and what was not added was
pub was_new : (keys : List ℕ) (k : ℕ) (added : Bool) → added ≡ not (list_any (λ x. is_eq (nat_cmp k x)) keys) → added ≡ true → is_among keys k ≡ false
was_new keys k added e yes_added = sym (contained keys k) ∙ turned added _ e ∙ ap not yes_added

pub was_there : (keys : List ℕ) (k : ℕ) (added : Bool) → added ≡ not (list_any (λ x. is_eq (nat_cmp k x)) keys) → added ≡ false → is_among keys k ≡ true
was_there keys k added e not_added = sym (contained keys k) ∙ turned added _ e ∙ ap not not_added
