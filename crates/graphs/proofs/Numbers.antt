-- Answers for the members of a graph, one after the other.
use Rattle.std.proofs.Common.{◌≡◌, ℕ, zero, suc, ◌+◌, Bool, [], ◌∷◌, ◌++◌, map, refl, ap, ◌∙◌, arith}
use Rattle.std.proofs.lemmas.List.FromFn.{map-range_with_len_more}
use Rattle.std.specs.List.{range_with_len}
use Rattle.graphs.specs.Graphs.{numbers_from}

one_on : (start : ℕ) → suc start ≡ start + 1
one_on start = omega arith

pub numbers_are : (start n : ℕ) → numbers_from start n ≡ range_with_len start n
numbers_are start zero = refl
numbers_are start (suc n) = ap (λ l. start ∷ l) (numbers_are (suc start) n ∙ ap (λ k. range_with_len k n) (one_on start))

-- one answer more
pub one_more : (f : ℕ → Bool) (n : ℕ) → map f (numbers_from 0 (n + 1)) ≡ map f (numbers_from 0 n) ++ f n ∷ []
one_more f n = rw (numbers_are 0 (n + 1), numbers_are 0 n) (map-range_with_len_more f 0 n n (omega arith))
