-- A list of few ancestors, once it is in order and has no number twice.
use Rattle.std.proofs.Common.{◌≡◌, ℕ, ◌<◌, ◌==◌, List, [], ◌∷◌, ◌++◌, length, refl, ◌∙◌, ap, eqb, arith}
use Rattle.std.proofs.lemmas.Bool.Decides.{nat_tests}
use Rattle.std.proofs.lemmas.Cmp.{nat_cmp_total}
use Rattle.std.proofs.lemmas.List.Kept.{IsStrictlySortedBy-dedup}
use Rattle.std.proofs.lemmas.List.Sorted.{list_any-IsPermutation}
use Rattle.std.specs.Cmp.{unsigned_ties}
use Rattle.std.specs.List.{dedup, dedup_from}
use Rattle.std.specs.List.Sorted.{IsSorted, IsPermutation, IsStrictlySortedBy}
use Rattle.std.specs.Ordering.{nat_cmp}
use Rattle.plain_data.specs.Numbers.{is_among}
use Rattle.graphs.specs.Graphs.{family}
use Rattle.graphs.proofs.Families.{family_sorted, in_family}
use Rattle.ancestors.specs.Kept.{AreAbove}
use Rattle.ancestors.proofs.Members.{same_keys}
use Rattle.plain_data.proofs.Numbers.{is_among-push}

among_from : (k : ℕ) (xs : List ℕ) (n : ℕ) → is_among (dedup_from eqb k xs) n ≡ is_among (k ∷ xs) n
among_from k [] n = refl
among_from k (x ∷ xs) n =
    let here = among_from k xs n in
    let there = among_from x xs n in
    grind (arith, nat_tests, here, there)

among_dedup : (xs : List ℕ) (n : ℕ) → is_among (dedup eqb xs) n ≡ is_among xs n
among_dedup [] n = refl
among_dedup (x ∷ xs) n = among_from x xs n

pub few_are_family : (graph : List (List ℕ)) (e : ℕ) (above sorted kept : List ℕ) → AreAbove graph e above → e < length graph → IsPermutation (above ++ e ∷ []) sorted → IsSorted nat_cmp sorted → kept ≡ dedup eqb sorted → kept ≡ family graph e
few_are_family graph e above sorted kept are within moved rise is =
    let ordered : IsStrictlySortedBy nat_cmp kept = rw is (IsStrictlySortedBy-dedup nat_cmp_total unsigned_ties sorted rise) in
    same_keys kept (family graph e) ordered (family_sorted graph e) (λ q.
    let deduped = ap (λ l. is_among l q) is ∙ among_dedup sorted q in
    let permuted = list_any-IsPermutation (λ m. m == q) (above ++ e ∷ []) sorted moved in
    let pushed = is_among-push above e q in
    let among = in_family graph e q in
    let over = are q in
    grind (arith, nat_tests, deduped, permuted, pushed, among, over, within))
