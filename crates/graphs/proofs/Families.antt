-- A member and its ancestors, in ascending order.
use Rattle.std.proofs.Common.{◌≡◌, ℕ, zero, suc, ◌+◌, ◌↔◌, Bool, true, false, ◌||◌, ◌&&◌, ◌==◌, nat_lt, List, [], ◌∷◌, length, filter, BTreeSet, refl, sym, ◌∙◌, ap, arith}
use Rattle.std.proofs.lemmas.Bool.Decides.{nat_tests}
use Rattle.std.proofs.lemmas.Cmp.{nat_cmp_total}
use Rattle.std.proofs.lemmas.List.FromFn.{get_or-range_with_len, length-range_with_len}
use Rattle.std.proofs.lemmas.List.Kept.{IsStrictlySortedBy-filter}
use Rattle.std.proofs.lemmas.Map.Keys.{sorted_from_strictly_increasing, IsStrictlyIncreasing-from_sorted}
use Rattle.std.proofs.lemmas.Map.Lookups.{btree_set_from_contains, exact_unsigned}
use Rattle.std.specs.BTreeSet.{insert_key}
use Rattle.std.specs.List.Sorted.{IsStrictlyIncreasing, IsStrictlySortedBy}
use Rattle.std.specs.Ordering.{is_gt, nat_cmp}
use Rattle.plain_data.specs.Numbers.{is_among}
use Rattle.graphs.specs.Graphs.{IsAncestor, is_ancestor, numbers_from, family}
use Rattle.graphs.proofs.Bounded.{answer_is}
use Rattle.graphs.proofs.Numbers.{numbers_are}
use Rattle.graphs.proofs.Sets.{contained, is_among-insert}

-- ---- which numbers a list has

kept_one : (p : ℕ → Bool) (x q : ℕ) (xs : List ℕ) (b : Bool) → p x ≡ b → is_among (filter p xs) q ≡ (is_among xs q && p q) → is_among (filter p (x ∷ xs)) q ≡ (is_among (x ∷ xs) q && p q)
kept_one p x q xs b is rest = (elim (x == q) as (λ t. (x == q) ≡ t → is_among (filter p (x ∷ xs)) q ≡ (is_among (x ∷ xs) q && p q)) [
  | true ↦ λ same. let one : x ≡ q = grind (arith, nat_tests) in let passes : p x ≡ p q = ap p one in (elim (p q) as (λ t. p q ≡ t → is_among (filter p (x ∷ xs)) q ≡ (is_among (x ∷ xs) q && p q)) [
    | true ↦ λ yes. rw (passes, yes, same) refl
    | false ↦ λ no. rw (passes, no, same, rest, no) (and_false (is_among xs q))
  ]) refl
  | false ↦ λ apart. (elim (p x) as (λ t. p x ≡ t → is_among (filter p (x ∷ xs)) q ≡ (is_among (x ∷ xs) q && p q)) [
    | true ↦ λ yes. rw (yes, apart) rest
    | false ↦ λ no. rw (no, apart) rest
  ]) refl
]) refl
  where
    and_false : (b : Bool) → (b && false) ≡ false
    and_false true = refl
    and_false false = refl

pub is_among-filter : (p : ℕ → Bool) (xs : List ℕ) (q : ℕ) → is_among (filter p xs) q ≡ (is_among xs q && p q)
is_among-filter p [] q = refl
is_among-filter p (x ∷ xs) q = kept_one p x q xs (p x) refl (is_among-filter p xs q)

among_from : (start n q : ℕ) → is_among (numbers_from start n) q ≡ (nat_lt q (start + n) && (start == q || nat_lt start q))
among_from start zero q = grind (arith, nat_tests)
among_from start (suc n) q = let rest = among_from (suc start) n q in grind (arith, nat_tests, rest)

pub among_numbers : (n q : ℕ) → is_among (numbers_from 0 n) q ≡ nat_lt q n
among_numbers n q = let from = among_from 0 n q in grind (arith, nat_tests, from)

below : (n q : ℕ) → is_gt (nat_cmp n q) ≡ nat_lt q n
below n q = grind (arith, nat_tests)

-- ---- ascending

numbers_rise : (n : ℕ) → IsStrictlyIncreasing (numbers_from 0 n)
numbers_rise n = rw (numbers_are 0 n) (λ k within.
    let many = length-range_with_len 0 n in
    omega (arith, get_or-range_with_len 0 n k 0 (omega arith), get_or-range_with_len 0 n (k + 1) 0 (omega arith)))

pub family_sorted : (graph : List (List ℕ)) (e : ℕ) → IsStrictlySortedBy nat_cmp (family graph e)
family_sorted graph e = IsStrictlySortedBy-filter nat_cmp (λ k. k == e || is_ancestor graph e k) (numbers_from 0 (length graph)) (sorted_from_strictly_increasing (numbers_from 0 (length graph)) (numbers_rise (length graph)))

pub family_rises : (graph : List (List ℕ)) (e : ℕ) → IsStrictlyIncreasing (family graph e)
family_rises graph e = IsStrictlyIncreasing-from_sorted (family graph e) (family_sorted graph e)

-- ---- the family of a member

pub in_family : (graph : List (List ℕ)) (e k : ℕ) → is_among (family graph e) k ≡ (nat_lt k (length graph) && (k == e || is_ancestor graph e k))
in_family graph e k = is_among-filter (λ j. j == e || is_ancestor graph e j) (numbers_from 0 (length graph)) k ∙ ap (λ b. b && (k == e || is_ancestor graph e k)) (among_numbers (length graph) k)

as_many : (a b c : Bool) (k e : ℕ) → a ≡ b → (((e == k) || a) && c) ≡ (c && (k == e || b))
as_many a b c k e same = grind (arith, nat_tests, same)

-- what is found above it and it, as far as there are members
pub family_is : (graph : List (List ℕ)) (e : ℕ) (above kept : List ℕ) → ((a : ℕ) → (is_among above a ≡ true) ↔ IsAncestor graph e a)
    → kept ≡ filter (λ k. is_gt (nat_cmp (length graph) k)) (insert_key nat_cmp above e) → IsStrictlySortedBy nat_cmp kept → kept ≡ family graph e
family_is graph e above kept exact is sorted =
    let found : BTreeSet ℕ = record { keys = kept } in
    let meant : BTreeSet ℕ = record { keys = family graph e } in
    btree_set_from_contains nat_cmp_total found meant sorted (family_sorted graph e) (λ q.
    contained kept q ∙ ap (λ l. is_among l q) is
    ∙ is_among-filter (λ k. is_gt (nat_cmp (length graph) k)) (insert_key nat_cmp above e) q
    ∙ rw (is_among-insert above e q, below (length graph) q) (as_many (is_among above q) (is_ancestor graph e q) (nat_lt q (length graph)) q e (answer_is graph e q (is_among above q) (exact q)))
    ∙ sym (in_family graph e q) ∙ sym (contained (family graph e) q)) exact_unsigned
