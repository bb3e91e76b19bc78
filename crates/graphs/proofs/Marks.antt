-- Marks for each member of a graph.
use Rattle.std.proofs.Common.{◌≡◌, ℕ, zero, suc, ◌<◌, ◌≤◌, Bool, true, false, List, [], ◌+◌, length, map, ⊎_elim, ◌∙◌, ap, sym, arith}
use Rattle.std.proofs.lemmas.Bool.{cases_Bool}
use Rattle.std.proofs.lemmas.List.{get_or_past}
use Rattle.std.specs.List.{list_any}
use Rattle.std.specs.Prelude.{nat_lt}
use Rattle.plain_data.specs.Numbers.{is_among}
use Rattle.graphs.specs.Graphs.{supertypes, Reaches, IsAncestor, IsAcyclic, is_ancestor, numbers_from}
use Rattle.graphs.proofs.Left.{within_or, beyond_or}
use Rattle.graphs.proofs.Bounded.{is_ancestor_exact}
use Rattle.graphs.proofs.Sets.{or_left, or_right}

none_reached : (graph : List (List ℕ)) (n e a : ℕ) → supertypes graph e ≡ [] → Reaches graph n e a → ⊥
none_reached graph zero e a none reaches = let there = ap (λ l. is_among l a) none in cc
none_reached graph (suc n) e a none reaches = let there = ap (λ l. is_among l reaches.0) none in let is = reaches.1.0 in cc

-- a number beyond the graph has no ancestors
pub none_beyond : (graph : List (List ℕ)) (e a : ℕ) → length graph ≤ e → IsAncestor graph e a → ⊥
none_beyond graph e a beyond ancestor = none_reached graph ancestor.0 e a (get_or_past graph e [] beyond) ancestor.1

marked_at : (set : Bool → Bool) (f : ℕ → Bool) (start n k : ℕ) → set (f (start + k)) ≡ true → k < n → list_any set (map f (numbers_from start n)) ≡ true
marked_at set f start zero k marked within = absurd (omega arith)
marked_at set f start (suc n) zero marked within =
    let here : start + 0 ≡ start = omega arith in
    or_left (set (f start)) (list_any set (map f (numbers_from (suc start) n))) (ap (λ m. set (f m)) (sym here) ∙ marked)
marked_at set f start (suc n) (suc k) marked within =
    let later : suc start + k ≡ start + suc k = omega arith in
    or_right (set (f start)) (list_any set (map f (numbers_from (suc start) n))) (marked_at set f (suc start) n k (ap (λ m. set (f m)) later ∙ marked) (omega arith))

-- where no mark is set, the graph has no cycle
pub acyclic_from_marks : (graph : List (List ℕ)) (marks : List Bool) (set : Bool → Bool) → set true ≡ true
    → marks ≡ map (λ k. is_ancestor graph k k) (numbers_from 0 (length graph)) → list_any set marks ≡ false → IsAcyclic graph
acyclic_from_marks graph marks set is exact none e ancestor = ⊎_elim
    (λ (within : nat_lt e (length graph) ≡ true).
    let own : is_ancestor graph e e ≡ true = (is_ancestor_exact graph e e).1 ancestor in
    let first : 0 + e ≡ e = omega arith in
    let marked : set (is_ancestor graph (0 + e) (0 + e)) ≡ true = rw (first, own) is in
    let there = marked_at set (λ k. is_ancestor graph k k) 0 (length graph) e marked (within_or e (length graph) within) in
    let some : list_any set marks ≡ true = ap (list_any set) exact ∙ there in
    cc)
    (λ (beyond : nat_lt e (length graph) ≡ false). none_beyond graph e e (beyond_or e (length graph) beyond) ancestor)
    (cases_Bool (nat_lt e (length graph)))
