-- Numbers in ascending order.
use Rattle.std.proofs.Common.{◌≡◌, ℕ, ◌||◌, ◌==◌, Bool, true, false, List, [], ◌∷◌, BTreeSet, Ordering, Less, Equal, Greater, refl, sym, ◌∙◌, ap, arith}
use Rattle.std.proofs.lemmas.Bool.Decides.{nat_tests}
use Rattle.std.proofs.lemmas.Cmp.{nat_cmp_total}
use Rattle.std.proofs.lemmas.List.Elements.{All-cons, All-from_recursion, recursion_from_All}
use Rattle.std.proofs.lemmas.Map.Lookups.{btree_set_from_contains, exact_unsigned}
use Rattle.std.proofs.lemmas.Map.Views.{All-insert_key}
use Rattle.std.specs.BTreeSet.{insert_key}
use Rattle.std.specs.List.{All}
use Rattle.std.specs.List.Sorted.{IsStrictlySortedBy}
use Rattle.std.specs.Ordering.{match_ordering, nat_cmp}
use Rattle.plain_data.specs.Numbers.{is_among}
use Rattle.graphs.proofs.Sets.{contained, is_among-insert}
use Rattle.plain_data.proofs.Disjunctions.{or_swap}
use Rattle.ex_bind_algorithms.specs.Algorithms.{in_order}

pub among_insert : (xs : List ℕ) (k n : ℕ) → is_among (insert_key nat_cmp xs k) n ≡ (is_among xs n || k == n)
among_insert xs k n = is_among-insert xs k n ∙ or_swap (k == n) (is_among xs n)

pub among_in_order : (ns : List ℕ) (k : ℕ) → is_among (in_order ns) k ≡ is_among ns k
among_in_order [] k = refl
among_in_order (n ∷ ns) k = is_among-insert (in_order ns) n k ∙ ap (λ b. (n == k) || b) (among_in_order ns k)

less_on : (k x y : ℕ) → nat_cmp k x ≡ Less → nat_cmp x y ≡ Less → nat_cmp k y ≡ Less
less_on k x y first second = grind (arith, nat_tests)

turned : (k x : ℕ) → nat_cmp k x ≡ Greater → nat_cmp x k ≡ Less
turned k x e = grind (arith, nat_tests)

rising_insert : (xs : List ℕ) (k : ℕ) → IsStrictlySortedBy nat_cmp xs → IsStrictlySortedBy nat_cmp (insert_key nat_cmp xs k)
unfolding IsStrictlySortedBy
rising_insert [] k rising = (tt, tt)
rising_insert (x ∷ xs) k rising = by (nat_cmp k x) refl (rising_insert xs k rising.1)
  where
    above : All (λ y. nat_cmp x y ≡ Less) xs
    above = All-from_recursion (λ y. nat_cmp x y ≡ Less) xs rising.0

    by : (o : Ordering) → nat_cmp k x ≡ o → IsStrictlySortedBy nat_cmp (insert_key nat_cmp xs k) → IsStrictlySortedBy nat_cmp (match_ordering o (k ∷ x ∷ xs) (x ∷ xs) (x ∷ insert_key nat_cmp xs k))
    by Less is rest =
        let further : All (λ y. nat_cmp k y ≡ Less) xs = λ i d within. less_on k x _ is (above i d within) in
        (recursion_from_All (λ y. nat_cmp k y ≡ Less) (x ∷ xs) (All-cons (λ y. nat_cmp k y ≡ Less) x xs is further), rising)
    by Equal is rest = rising
    by Greater is rest =
        (recursion_from_All (λ y. nat_cmp x y ≡ Less) (insert_key nat_cmp xs k) (All-insert_key nat_cmp k (λ y. nat_cmp x y ≡ Less) xs above (turned k x is)), rest)

in_order_rises : (ns : List ℕ) → IsStrictlySortedBy nat_cmp (in_order ns)
unfolding IsStrictlySortedBy
in_order_rises [] = tt
in_order_rises (n ∷ ns) = rising_insert (in_order ns) n (in_order_rises ns)

-- ascending numbers are told by which they are
pub in_order_is : (keys ns : List ℕ) → IsStrictlySortedBy nat_cmp keys → ((k : ℕ) → is_among keys k ≡ is_among ns k) → keys ≡ in_order ns
in_order_is keys ns rising same =
    let found : BTreeSet ℕ = record { keys = keys } in
    let meant : BTreeSet ℕ = record { keys = in_order ns } in
    btree_set_from_contains nat_cmp_total found meant rising (in_order_rises ns)
    (λ q. contained keys q ∙ same q ∙ sym (among_in_order ns q) ∙ sym (contained (in_order ns) q)) exact_unsigned

pub or_none : (a b : Bool) → (a || false) ≡ b → a ≡ b
or_none true b e = e
or_none false b e = e
