-- Entities by how many don't stand above them are in the order of their depths.
use Rattle.std.proofs.Common.{◌≡◌, ℕ, zero, suc, ◌+◌, ◌-◌, ◌≤◌, ◌==◌, ◌||◌, Bool, true, false, List, [], ◌∷◌, filter, length, replicate, if◌then◌else◌, refl, ◌∙◌, ap, arith}
use Rattle.std.proofs.lemmas.Bool.Decides.{nat_tests}
use Rattle.std.specs.List.{flat_map}
use Rattle.graphs.specs.Graphs.{family, is_ancestor, numbers_from}
use Rattle.rp_compile_names.specs.Found.{by_depth, deepest_first}
use Rattle.rp_compile_names.specs.Rows.{put_all, of_number}
use Rattle.rp_compile_names.proofs.Put.{rows-joined, numbers-length}

fewer-at : (t : Bool) (x n : ℕ) (xs : List ℕ) → length xs ≤ n → length (if t then x ∷ xs else xs) ≤ suc n
fewer-at true x n xs h = omega (arith, h)
fewer-at false x n xs h = omega (arith, h)

fewer : (p : ℕ → Bool) (xs : List ℕ) → length (filter p xs) ≤ length xs
fewer p [] = omega arith
fewer p (x ∷ xs) = fewer-at (p x) x (length xs) (filter p xs) (fewer p xs)

module _ (graph : List (List ℕ)) where
  abbrev depth : ℕ → ℕ
  depth entity = length (family graph entity)

  depth-within : (entity : ℕ) → depth entity ≤ length graph
  depth-within entity =
      let h : depth entity ≤ length (numbers_from zero (length graph)) = fewer (λ k. (k == entity) || is_ancestor graph entity k) (numbers_from zero (length graph)) in
      rw (numbers-length zero (length graph)) at h

  same-row : (n d k : ℕ) → d ≤ n → ((n - d) == k) ≡ (d + k == n)
  same-row n d k h = grind (arith, nat_tests, h)

  one : (t : Bool) (k entity : ℕ) (us : List (ℕ × ℕ)) (es : List ℕ) → ((length graph - depth entity) == k) ≡ t → of_number k us ≡ es
      → of_number k ((length graph - depth entity, entity) ∷ us) ≡ (if t then entity ∷ es else es)
  one true k entity us es is same = rw is (ap (λ xs. entity ∷ xs) same)
  one false k entity us es is same = rw is same

  of-depth : (k : ℕ) (order : List ℕ) → of_number k (by_depth graph order) ≡ filter (λ entity. depth entity + k == length graph) order
  of-depth k [] = refl
  of-depth k (x ∷ xs) =
      one (depth x + k == length graph) k x (by_depth graph xs) (filter (λ entity. depth entity + k == length graph) xs) (same-row (length graph) (depth x) k (depth-within x)) (of-depth k xs)

  pub deepest-first : (order : List ℕ) → flat_map (λ row. row) (put_all (replicate (length graph) []) (by_depth graph order)) ≡ deepest_first graph order
  deepest-first order = rows-joined (length graph) (by_depth graph order) ∙ (λ i. flat_map (λ k. of-depth k order i) (numbers_from zero (length graph)))
