-- The numbers of names by their ranks are in the order of the names.
use Rattle.std.proofs.Common.{◌≡◌, ℕ, zero, suc, ◌==◌, Bool, true, false, List, [], ◌∷◌, length, replicate, if◌then◌else◌, Option, Some, None, refl, ap, ◌∙◌}
use Rattle.std.specs.List.{flat_map, filter_map}
use Rattle.graphs.specs.Graphs.{numbers_from}
use Rattle.name_tables.specs.Order.{rank}
use Rattle.plain_data.specs.Numbers.{numbered_from}
use Rattle.rp_meaning.specs.CompiledNames.{in_order}
use Rattle.rp_compile_names.specs.Found.{ranked}
use Rattle.rp_compile_names.specs.Rows.{put_all, of_number}
use Rattle.rp_compile_names.proofs.Put.{rows-joined}

module _ (names : List (List ℕ)) (k : ℕ) where
  abbrev place : ℕ → List ℕ → ℕ × ℕ
  place number name = (rank names name, number)

  abbrev at : ℕ → List ℕ → Option ℕ
  at number name = if rank names name == k then Some number else None

  one : (t : Bool) (m : ℕ) (us : List (ℕ × ℕ)) (os : List (Option ℕ)) (r : ℕ) → (r == k) ≡ t → of_number k us ≡ filter_map (λ n. n) os
      → of_number k ((r, m) ∷ us) ≡ filter_map (λ n. n) ((if r == k then Some m else None) ∷ os)
  one true m us os r is same = rw is (ap (λ ns. m ∷ ns) same)
  one false m us os r is same = rw is same

  of-rank : (m : ℕ) (xs : List (List ℕ)) → of_number k (numbered_from place m xs) ≡ filter_map (λ n. n) (numbered_from at m xs)
  of-rank m [] = refl
  of-rank m (x ∷ xs) = one (rank names x == k) m (numbered_from place (suc m) xs) (numbered_from at (suc m) xs) (rank names x) refl (of-rank (suc m) xs)

pub in-order : (names : List (List ℕ)) → flat_map (λ row. row) (put_all (replicate (length names) []) (ranked names)) ≡ in_order names
in-order names = rows-joined (length names) (ranked names) ∙ (λ i. flat_map (λ k. of-rank names k zero names i) (numbers_from zero (length names)))
