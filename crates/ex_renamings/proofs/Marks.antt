-- What is found of all members of a graph once tells which lead to marked ones.
use Rattle.std.proofs.Common.{◌≡◌, ℕ, zero, suc, ◌+◌, ◌<◌, Bool, true, false, ◌||◌, ◌==◌, nat_lt, List, [], ◌∷◌, length, map, ⊎_elim, refl, sym, ◌∙◌, ap, arith}
use Rattle.std.specs.Prelude.{if◌then◌else◌}
use Rattle.std.specs.List.{list_any}
use Rattle.std.proofs.lemmas.Bool.{cases_Bool}
use Rattle.std.proofs.lemmas.Bool.Decides.{nat_tests}
use Rattle.graphs.specs.Graphs.{Reaches, is_ancestor, family, numbers_from}
use Rattle.graphs.proofs.Bounded.{any_where, is_member, is_ancestor_exact}
use Rattle.graphs.proofs.Certain.{both}
use Rattle.graphs.proofs.Families.{in_family}
use Rattle.graphs.proofs.Sets.{either}
use Rattle.ex_renamings.specs.Leading.{is_marked, leads, leading}

pub any_same : {A : Type 0} → (p q : A → Bool) → ((x : A) → p x ≡ q x) → (xs : List A) → list_any p xs ≡ list_any q xs
any_same p q same [] = refl
any_same p q same (x ∷ xs) = ap (λ b. b || list_any p xs) (same x) ∙ ap (λ b. q x || b) (any_same p q same xs)

numbered_at : (f : ℕ → Bool) (start count n : ℕ) → is_marked (map f (numbers_from start count)) n ≡ (if nat_lt n count then f (start + n) else false)
numbered_at f start zero n = grind (arith, nat_tests)
numbered_at f start (suc count) zero = grind (arith, nat_tests)
numbered_at f start (suc count) (suc n) =
    let here : suc start + n ≡ start + suc n = omega arith in
    let less : nat_lt (suc n) (suc count) ≡ nat_lt n count = grind (arith, nat_tests) in
    numbered_at f (suc start) count n ∙ rw (here, less) refl

leads_within : (graph : List (List ℕ)) (marks : List Bool) (n : ℕ) → leads graph marks n ≡ true → nat_lt n (length graph) ≡ true
leads_within graph marks n is =
    let found = any_where (is_marked marks) (family graph n) is in
    let a = found.0 in
    let parts = both (nat_lt a (length graph)) (a == n || is_ancestor graph n a) (sym (in_family graph n a) ∙ found.1.0) in
    ⊎_elim
    (λ (same : (a == n) ≡ true). let less = parts.0 in grind (arith, nat_tests))
    (λ (above : is_ancestor graph n a ≡ true).
    let way = (is_ancestor_exact graph n a).0 above in
    let within : n < length graph = starts_within a way.0 way.1 in
    grind (arith, nat_tests))
    (either (a == n) (is_ancestor graph n a) parts.1)
  where
    starts_within : (a steps : ℕ) → Reaches graph steps n a → n < length graph
    starts_within a zero there = is_member graph n a there
    starts_within a (suc steps) there = is_member graph n there.0 there.1.0

pub leading_at : (graph : List (List ℕ)) (marks : List Bool) (n : ℕ) → is_marked (leading graph marks) n ≡ leads graph marks n
unfolding leading
leading_at graph marks n =
    numbered_at (leads graph marks) zero (length graph) n
    ∙ (elim (nat_lt n (length graph)) as (λ t. nat_lt n (length graph) ≡ t → (if t then leads graph marks (0 + n) else false) ≡ leads graph marks n) [
      | true ↦ λ within. let same : 0 + n ≡ n = omega arith in rw same refl
      | false ↦ λ beyond. ⊎_elim
          (λ (is : leads graph marks n ≡ true). let within = leads_within graph marks n is in absurd cc)
          (λ (isnt : leads graph marks n ≡ false). sym isnt)
          (cases_Bool (leads graph marks n))
    ]) refl
