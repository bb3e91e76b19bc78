-- Tests of pairs, and pairs among others.
use Rattle.std.proofs.Common.{◌≡◌, ◌≢◌, ℕ, Bool, true, false, cond, ◌||◌, List, [], ◌∷◌, ◌++◌, ◌<◌, ◌+◌, zero, suc, length, take, drop, get_or, map, append_assoc, refl, sym, ◌∙◌, ap, arith}
use Rattle.std.proofs.lemmas.Bool.{and_parts, cases_Bool}
use Rattle.std.proofs.lemmas.Bool.Decides.{nat_tests}
use Rattle.std.proofs.lemmas.Cmp.{nat_cmp_total, tied_itself}
use Rattle.std.proofs.lemmas.List.Folds.{list_all-append, list_all-map, list_all_more}
use Rattle.std.proofs.lemmas.List.{drop_more}
use Rattle.std.proofs.Common.{⊎_elim}
use Rattle.std.specs.Cmp.{tied_then}
use Rattle.std.specs.List.{flat_map, list_all}
use Rattle.std.specs.Ordering.{nat_cmp, is_eq}
use Rattle.rp_index.specs.Pairs.{pair_cmp, has_pair, HasAll, Grows, KeepsOthers}

pub or_left : (a b : Bool) → a ≡ true → (a || b) ≡ true
or_left a b e = rw e refl

pub or_right : (a b : Bool) → b ≡ true → (a || b) ≡ true
or_right true b e = refl
or_right false b e = e

-- ---- two pairs

pub same_number : (a b : ℕ) → is_eq (nat_cmp a b) ≡ true → a ≡ b
same_number a b e = grind (arith, nat_tests)

pub same_pair : (p q : ℕ × ℕ) → is_eq (pair_cmp p q) ≡ true → (p.0 ≡ q.0) × (p.1 ≡ q.1)
same_pair p q e =
    let parts = and_parts (is_eq (nat_cmp p.0 q.0)) (is_eq (nat_cmp p.1 q.1)) (tied_then (nat_cmp p.0 q.0) (nat_cmp p.1 q.1) ∙ e) in
    (same_number p.0 q.0 parts.0, same_number p.1 q.1 parts.1)

pub itself : (q : ℕ × ℕ) → is_eq (pair_cmp q q) ≡ true
itself q = rw (tied_itself nat_cmp_total q.0, tied_itself nat_cmp_total q.1) refl

pub apart : (p q : ℕ × ℕ) → q.1 ≢ p.1 → is_eq (pair_cmp p q) ≡ false
apart p q other = ⊎_elim
    (λ (same : is_eq (pair_cmp p q) ≡ true). absurd (other (sym (same_pair p q same).1)))
    (λ (others : is_eq (pair_cmp p q) ≡ false). others)
    (cases_Bool (is_eq (pair_cmp p q)))

-- ---- all of some pairs

pub grown : (former later : ℕ × ℕ → Bool) (qs : List (ℕ × ℕ)) → Grows former later → HasAll former qs → HasAll later qs
grown former later [] up all = refl
grown former later (q ∷ qs) up all =
    let parts = and_parts (former q) (list_all former qs) all in
    rw (up q parts.0) (grown former later qs up parts.1)

pub has_both : (has : ℕ × ℕ → Bool) (ps qs : List (ℕ × ℕ)) → HasAll has ps → HasAll has qs → HasAll has (ps ++ qs)
has_both has ps qs first second = list_all-append has ps qs ∙ rw (first, second) refl

pub has_parts : (has : ℕ × ℕ → Bool) (ps qs : List (ℕ × ℕ)) → HasAll has (ps ++ qs) → HasAll has ps × HasAll has qs
has_parts has ps qs all = and_parts (list_all has ps) (list_all has qs) (sym (list_all-append has ps qs) ∙ all)

-- each passes a test that whatever is among them passes
pub all_from : (has : ℕ × ℕ → Bool) (qs : List (ℕ × ℕ)) → Grows (has_pair qs) has → HasAll has qs
all_from has [] among = refl
all_from has (q ∷ qs) among =
    rw (among q (or_left (is_eq (pair_cmp q q)) (has_pair qs q) (itself q)))
    (all_from has qs (λ p e. among p (or_right (is_eq (pair_cmp p q)) (has_pair qs p) e)))

-- ---- a set with one pair more, or less

more : (t b : Bool) → b ≡ true → cond t true b ≡ true
more true b e = refl
more false b e = e

pub inserted : (p : ℕ × ℕ) (former later : ℕ × ℕ → Bool) → ((q : ℕ × ℕ) → later q ≡ cond (is_eq (pair_cmp p q)) true (former q)) → Grows former later
inserted p former later is = λ q e. is q ∙ more (is_eq (pair_cmp p q)) (former q) e

pub removed : (p : ℕ × ℕ) (former later : ℕ × ℕ → Bool) → ((q : ℕ × ℕ) → later q ≡ cond (is_eq (pair_cmp p q)) false (former q)) → KeepsOthers p.1 former later
removed p former later is = λ q other e. is q ∙ rw (apart p q other) e

-- the same beside others that stay
pub beside : (settled former later : ℕ × ℕ → Bool) → Grows former later → Grows (λ q. settled q || former q) (λ q. settled q || later q)
beside settled former later up = λ q e. ⊎_elim
    (λ (first : settled q ≡ true). or_left (settled q) (later q) first)
    (λ (other : settled q ≡ false). or_right (settled q) (later q) (up q (rw other at e)))
    (cases_Bool (settled q))

pub removed_beside : (p : ℕ × ℕ) (settled former later : ℕ × ℕ → Bool) → ((q : ℕ × ℕ) → later q ≡ cond (is_eq (pair_cmp p q)) false (former q))
    → KeepsOthers p.1 (λ q. settled q || former q) (λ q. settled q || later q)
removed_beside p settled former later is = λ q other e. ⊎_elim
    (λ (first : settled q ≡ true). or_left (settled q) (later q) first)
    (λ (rest : settled q ≡ false). or_right (settled q) (later q) (removed p former later is q other (rw rest at e)))
    (cases_Bool (settled q))

pub kept_then : (n : ℕ) (a b c : ℕ × ℕ → Bool) → KeepsOthers n a b → KeepsOthers n b c → KeepsOthers n a c
kept_then n a b c first second = λ q other e. second q other (first q other e)

-- one more that passes
pub has_more : (has : ℕ × ℕ → Bool) (qs : List (ℕ × ℕ)) (k : ℕ) (d : ℕ × ℕ) → k < length qs → HasAll has (take k qs) → has (get_or qs k d) ≡ true → HasAll has (take (k + 1) qs)
has_more has qs k d within all here = list_all_more has qs k d within ∙ rw (all, here) refl

pub mapped_more : (has : ℕ × ℕ → Bool) (f : ℕ → ℕ × ℕ) (ns : List ℕ) (k d : ℕ) → k < length ns → HasAll has (map f (take k ns)) → has (f (get_or ns k d)) ≡ true → HasAll has (map f (take (k + 1) ns))
mapped_more has f ns k d within all here =
    list_all-map has f (take (k + 1) ns) ∙ list_all_more (λ n. has (f n)) ns k d within ∙ rw (sym (list_all-map has f (take k ns)) ∙ all, here) refl

pub flat_more : {X : Type 0} (has : ℕ × ℕ → Bool) (f : X → List (ℕ × ℕ)) (xs : List X) (k : ℕ) (x : X) → k < length xs → x ≡ get_or xs k x
    → HasAll has (flat_map f (take k xs)) → HasAll has (f x) → HasAll has (flat_map f (take (k + 1) xs))
flat_more has f [] k x within is all own = let none : ⊥ = omega arith in absurd none
flat_more has f (y ∷ ys) zero x within is all own = has_both has (f y) [] (ap (λ z. list_all has (f z)) (sym is) ∙ own) refl
flat_more has f (y ∷ ys) (suc k) x within is all own =
    let same : suc k + 1 ≡ suc (k + 1) = omega arith in
    let parts = has_parts has (f y) (flat_map f (take k ys)) all in
    rw same (has_both has (f y) (flat_map f (take (k + 1) ys)) parts.0 (flat_more has f ys k x (omega arith) is parts.1 own))

-- what is pushed of an element more
pub pushed_more : {X : Type 0} (f : X → List (ℕ × ℕ)) (xs : List X) (k : ℕ) (x : X) (found more whole : List (ℕ × ℕ)) → k < length xs → x ≡ get_or xs k x
    → more ≡ found ++ f x → found ++ flat_map f (drop k xs) ≡ whole → more ++ flat_map f (drop (k + 1) xs) ≡ whole
pushed_more f xs k x found more whole within is own before =
    let here : x ∷ drop (k + 1) xs ≡ drop k xs = ap (λ y. y ∷ drop (k + 1) xs) is ∙ sym (drop_more xs k x within) in
    ap (λ ps. ps ++ flat_map f (drop (k + 1) xs)) own
    ∙ append_assoc found (f x) (flat_map f (drop (k + 1) xs))
    ∙ ap (λ ys. found ++ flat_map f ys) here
    ∙ before
