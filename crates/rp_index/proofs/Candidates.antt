-- What a part of a set of pairs has, and candidates that are told from all that is entered.
use Rattle.std.proofs.Common.{◌≡◌, ◌≢◌, ◌<◌, ◌≤◌, ◌+◌, ℕ, zero, suc, Bool, true, false, ◌==◌, List, [], ◌∷◌, map, filter, length, take, drop, get_or, refl, sym, ◌∙◌, ap, true≢false, subst, arith}
use Rattle.std.proofs.Common.{⊎_elim}
use Rattle.std.proofs.Math.Dec.{ltb, leb}
use Rattle.std.proofs.lemmas.Bool.{and_parts, cases_Bool, eqb-true, eq-eqb, ltb-true, leb-false}
use Rattle.std.proofs.lemmas.Bool.Decides.{nat_tests}
use Rattle.std.proofs.lemmas.Cmp.{nat_cmp_total, tied_itself}
use Rattle.std.specs.BTreeMap.Range.{range_contains}
use Rattle.std.specs.List.{flat_map, list_all, list_any, AllByRecursion}
use Rattle.std.specs.Prelude.{if◌then◌else◌}
use Rattle.std.specs.Ordering.{nat_cmp, is_eq, is_le, ordering_then}
use Rattle.std.specs.declared.cmp.Ordering.{Ordering}
use Rattle.std.specs.declared.cmp.Ordering.TheVariants.{Less, Equal, Greater}
use Rattle.std.specs.declared.ops.Bound.TheVariants.{Included, Excluded}
use Rattle.plain_data.specs.Numbers.{is_among}
use Rattle.rp_content.specs.declared.instance.Instance.{Instance}
use Rattle.rp_rows.specs.Contents.{references_of}
use Rattle.rp_index.specs.Pairs.{pair_cmp, has_pair, HasAll}
use Rattle.rp_index.specs.Index.{uses_of, AreUsersAmong}
use Rattle.rp_index.proofs.Tests.{or_left, or_right, same_pair, has_parts}

-- ---- the pairs of one first

le_zero : (b : ℕ) → is_le (nat_cmp 0 b) ≡ true
le_zero b = grind (arith, nat_tests)

not_le_next : (a : ℕ) → is_le (nat_cmp (a + 1) a) ≡ false
not_le_next a = grind (arith, nat_tests)

then_above : (o p : Ordering) → is_le o ≡ false → is_le (ordering_then o p) ≡ false
then_above Less p e = cc
then_above Equal p e = cc
then_above Greater p e = refl

in_range : (first a b : ℕ) → first ≡ a → range_contains pair_cmp (Included (first, 0)) (Excluded (first + 1, 0)) (a, b) ≡ true
in_range first a b same =
    let start : is_le (pair_cmp (first, 0) (a, b)) ≡ true = rw (same, tied_itself nat_cmp_total a) (le_zero b) in
    let end : is_le (pair_cmp (first + 1, 0) (a, b)) ≡ false = rw same (then_above (nat_cmp (a + 1) a) (nat_cmp 0 b) (not_le_next a)) in
    rw (start, end) refl

skipped : (t : Bool) (p : ℕ × ℕ) (qs : List (ℕ × ℕ)) (u : ℕ) → is_among (map (λ (q : ℕ × ℕ). q.1) qs) u ≡ true
    → is_among (map (λ (q : ℕ × ℕ). q.1) (if t then p ∷ qs else qs)) u ≡ true
skipped true p qs u there = or_right (p.1 == u) (is_among (map (λ (q : ℕ × ℕ). q.1) qs) u) there
skipped false p qs u there = there

abbrev within : ℕ → ℕ × ℕ → Bool
within first = range_contains pair_cmp (Included (first, 0)) (Excluded (first + 1, 0))

pub seconds_have : (first u : ℕ) (ps : List (ℕ × ℕ)) → has_pair ps (first, u) ≡ true → is_among (map (λ (p : ℕ × ℕ). p.1) (filter (within first) ps)) u ≡ true
seconds_have first u [] there = absurd (true≢false (sym there))
seconds_have first u (p ∷ ps) there = ⊎_elim
    (λ (here : is_eq (pair_cmp (first, u) p) ≡ true).
    let same = same_pair (first, u) p here in
    let in_it : within first p ≡ true = in_range first p.0 p.1 same.0 in
    rw in_it (or_left (p.1 == u) (is_among (map (λ (q : ℕ × ℕ). q.1) (filter (within first) ps)) u) (eq-eqb p.1 u (sym same.1))))
    (λ (other : is_eq (pair_cmp (first, u) p) ≡ false).
    skipped (within first p) p (filter (within first) ps) u (seconds_have first u ps (rw other at there)))
    (cases_Bool (is_eq (pair_cmp (first, u) p)))

-- ---- the pairs of one first among those in order

other_first : (q p : ℕ × ℕ) → p.0 ≢ q.0 → is_eq (pair_cmp q p) ≡ false
other_first q p other = ⊎_elim
    (λ (same : is_eq (pair_cmp q p) ≡ true). absurd (other (sym (same_pair q p same).0)))
    (λ (apart : is_eq (pair_cmp q p) ≡ false). apart)
    (cases_Bool (is_eq (pair_cmp q p)))

-- where those before a place have other firsts, this pair stands behind it
pub behind_has : (q : ℕ × ℕ) (ps : List (ℕ × ℕ)) (i : ℕ) → ((k : ℕ) (d : ℕ × ℕ) → k < i → (get_or ps k d).0 ≢ q.0) → has_pair ps q ≡ true → has_pair (drop i ps) q ≡ true
behind_has q ps zero others there = there
behind_has q [] (suc i) others there = there
behind_has q (p ∷ ps) (suc i) others there =
    behind_has q ps i (λ k d low. others (suc k) d (omega arith)) (rw (other_first q p (others 0 p (omega arith))) at there)

-- where those from a place on have other firsts, this pair stands before it
pub before_has : (q : ℕ × ℕ) (ps : List (ℕ × ℕ)) (i : ℕ) → ((k : ℕ) (d : ℕ × ℕ) → i ≤ k → k < length ps → (get_or ps k d).0 ≢ q.0) → has_pair ps q ≡ true → has_pair (take i ps) q ≡ true
before_has q [] i others there = absurd (true≢false (sym there))
before_has q (p ∷ ps) zero others there =
    before_has q ps zero (λ k d low within. others (suc k) d (omega arith) (omega arith)) (rw (other_first q p (others 0 p (omega arith) (omega arith))) at there)
before_has q (p ∷ ps) (suc i) others there = ⊎_elim
    (λ (here : is_eq (pair_cmp q p) ≡ true). or_left (is_eq (pair_cmp q p)) (has_pair (take i ps) q) here)
    (λ (other : is_eq (pair_cmp q p) ≡ false).
    or_right (is_eq (pair_cmp q p)) (has_pair (take i ps) q) (before_has q ps i (λ k d low within. others (suc k) d (omega arith) (omega arith)) (rw other at there)))
    (cases_Bool (is_eq (pair_cmp q p)))

pub isnt_below : (a b : ℕ) → ltb a b ≡ true → a ≢ b
isnt_below a b e = λ same. let low = ltb-true a b e in absurd (omega arith)

pub isnt_above : (a b : ℕ) → leb a b ≡ false → a ≢ b
isnt_above a b e = λ same. let high = leb-false a b e in absurd (omega arith)

-- the second of a pair that is there
pub second_there : (first u : ℕ) (ps : List (ℕ × ℕ)) → has_pair ps (first, u) ≡ true → is_among (map (λ (p : ℕ × ℕ). p.1) ps) u ≡ true
second_there first u [] there = absurd (true≢false (sym there))
second_there first u (p ∷ ps) there = ⊎_elim
    (λ (here : is_eq (pair_cmp (first, u) p) ≡ true). or_left (p.1 == u) (is_among (map (λ (q : ℕ × ℕ). q.1) ps) u) (eq-eqb p.1 u (sym (same_pair (first, u) p here).1)))
    (λ (other : is_eq (pair_cmp (first, u) p) ≡ false). or_right (p.1 == u) (is_among (map (λ (q : ℕ × ℕ). q.1) ps) u) (second_there first u ps (rw other at there)))
    (cases_Bool (is_eq (pair_cmp (first, u) p)))

-- no more than so many of fewer are all
pub all_taken : {X : Type 0} (most : ℕ) (xs : List X) → length (take most xs) < most → take most xs ≡ xs
all_taken zero xs few = let none : ⊥ = omega arith in absurd none
all_taken (suc most) [] few = refl
all_taken (suc most) (x ∷ xs) few = ap (λ ys. x ∷ ys) (all_taken most xs (omega arith))

-- ---- users

none_referred : (names users : List ℕ) (has : ℕ × ℕ → Bool) → ((name u : ℕ) → is_among names name ≡ true → has (name, u) ≡ true → is_among users u ≡ true)
    → (name : ℕ) → is_among users name ≡ false → (ns : List ℕ) → HasAll has (map (λ n. (n, name)) ns) → list_any (is_among names) ns ≡ false
none_referred names users has found name gone [] all = refl
none_referred names users has found name gone (n ∷ ns) all =
    let parts = and_parts (has (n, name)) (list_all has (map (λ m. (m, name)) ns)) all in
    ⊎_elim
    (λ (yes : is_among names n ≡ true). absurd (true≢false (sym (found n name yes parts.0) ∙ gone)))
    (λ (other : is_among names n ≡ false). rw other (none_referred names users has found name gone ns parts.1))
    (cases_Bool (is_among names n))

pub users_cover : (names users : List ℕ) (has : ℕ × ℕ → Bool) → ((name u : ℕ) → is_among names name ≡ true → has (name, u) ≡ true → is_among users u ≡ true)
    → (is : List Instance) → HasAll has (flat_map uses_of is) → AreUsersAmong names users is
users_cover names users has found [] all = tt
users_cover names users has found (i ∷ is) all =
    let parts = has_parts has (uses_of i) (flat_map uses_of is) all in
    (λ gone. none_referred names users has found i.name gone (references_of i) parts.0, users_cover names users has found is parts.1)

-- ---- links

pub leads_cover : (target : ℕ) (places : List ℕ) (has : ℕ × ℕ → Bool) → ((u : ℕ) → has (target, u) ≡ true → is_among places u ≡ true)
    → (qs : List (ℕ × ℕ)) → HasAll has qs → AllByRecursion (λ q. (q.0 == target) ≡ true → is_among places q.1 ≡ true) qs
leads_cover target places has found [] all = tt
leads_cover target places has found (q ∷ qs) all =
    let parts = and_parts (has q) (list_all has qs) all in
    (λ e. found q.1 (subst (λ (n : ℕ). has (n, q.1) ≡ true) (eqb-true q.0 target e) parts.0), leads_cover target places has found qs parts.1)

-- ---- the keys of a set of numbers

compared : (k x : ℕ) → is_eq (nat_cmp k x) ≡ (x == k)
compared k x = grind (arith, nat_tests)

pub contained : (keys : List ℕ) (k : ℕ) → list_any (λ x. is_eq (nat_cmp k x)) keys ≡ is_among keys k
contained [] k = refl
contained (x ∷ xs) k = rw (compared k x, contained xs k) refl
