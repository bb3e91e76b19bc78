-- Names whose hashes differ.
use Rattle.std.proofs.Common.{◌≡◌, ℕ, Bool, true, false, List, [], ◌∷◌, map, IsTrue, Bor, arith, refl, subst}
use Rattle.std.specs.Ordering.{eq_by_cmp, is_lt, nat_cmp}
use Rattle.std.specs.declared.cmp.Ordering.{Ordering}
use Rattle.std.specs.declared.cmp.Ordering.TheVariants.{Less, Equal, Greater}
use Rattle.std.specs.List.{IsDistinct, AllByRecursion, IsAllAdjacentAnswer}
use Rattle.std.specs.List.Sorted.{IsStrictlySortedBy, IsPermutation}
use Rattle.std.proofs.lemmas.Bool.Decides.{nat_tests}
use Rattle.std.proofs.lemmas.Cmp.{eq_by_cmp_equiv, nat_cmp_total}
use Rattle.std.proofs.lemmas.List.Sorted.{IsPermutation-sym}
use Rattle.std.proofs.lemmas.Map.Keys.{IsDistinct-from_sorted, IsDistinct-IsPermutation, sorted_from_all_adjacent}
use Rattle.std.proofs.lemmas.Map.Text.{is_eq-slice_cmp}
use Rattle.std.proofs.lemmas.Slice.Eq.{bytes_eq-Decides}
use Rattle.name_tables.specs.Hashes.{hash_of}
use Rattle.name_tables.specs.Names.{by_lent_bytes}

less : (o : Ordering) → true ≡ is_lt o → o ≡ Less
less Less is = refl
less Equal is = cc
less Greater is = cc

pub rising : (hashes : List ℕ) (told : Bool) → IsAllAdjacentAnswer (λ x y b. b ≡ is_lt (nat_cmp x y)) hashes told → IsTrue told → IsStrictlySortedBy nat_cmp hashes
rising hashes true answer told = sorted_from_all_adjacent nat_cmp_total hashes 0 (λ k within. less _ (answer k 0 within))
rising hashes false answer told = cc

apart : (x y : Bor (List ℕ)) → eq_by_cmp nat_cmp (hash_of x.now) (hash_of y.now) ≡ false → eq_by_cmp by_lent_bytes x y ≡ false
apart x y differ =
    let same = is_eq-slice_cmp x.now y.now in
    let tests = bytes_eq-Decides x.now y.now in
    grind (arith, nat_tests, same, tests.0, tests.1, differ)

apart_from_all : (x : Bor (List ℕ)) (ys : List (Bor (List ℕ))) → AllByRecursion (λ h. eq_by_cmp nat_cmp (hash_of x.now) h ≡ false) (map (λ n. hash_of n.now) ys) → AllByRecursion (λ y. eq_by_cmp by_lent_bytes x y ≡ false) ys
apart_from_all x [] differ = tt
apart_from_all x (y ∷ ys) differ = (apart x y differ.0, apart_from_all x ys differ.1)

all_apart : (names : List (Bor (List ℕ))) → IsDistinct (eq_by_cmp nat_cmp) (map (λ n. hash_of n.now) names) → IsDistinct (eq_by_cmp by_lent_bytes) names
unfolding IsDistinct
all_apart [] distinct = tt
all_apart (n ∷ names) distinct = (apart_from_all n names distinct.0, all_apart names distinct.1)

pub names_differ : (names : List (Bor (List ℕ))) (hashes sorted : List ℕ) → hashes ≡ map (λ n. hash_of n.now) names → IsPermutation hashes sorted → IsStrictlySortedBy nat_cmp sorted → IsDistinct (eq_by_cmp by_lent_bytes) names
names_differ names hashes sorted are moved ordered =
    let distinct = IsDistinct-IsPermutation (eq_by_cmp nat_cmp) (eq_by_cmp_equiv nat_cmp_total).symm sorted hashes (IsPermutation-sym hashes sorted moved) (IsDistinct-from_sorted nat_cmp sorted ordered) in
    all_apart names (subst (λ hs. IsDistinct (eq_by_cmp nat_cmp) hs) are distinct)
