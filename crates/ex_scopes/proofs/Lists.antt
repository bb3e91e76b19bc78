-- Positions of names, and elements that pass a test.
use Rattle.std.proofs.Common.{◌≡◌, ℕ, List, [], ◌∷◌, filter, length, ◌==◌, ◌<◌, ◌≤◌, Bor, None, Some, slice_index_or, refl, arith}
use Rattle.std.specs.List.{find, position}
use Rattle.std.specs.Str.{bytes_eq}
use Rattle.std.proofs.lemmas.Bool.Decides.{nat_tests}
use Rattle.name_tables.specs.Names.{bytes_of, place_of}
use Rattle.ex_named.specs.Scopes.{first}

pub position-place_of : (name : List ℕ) (names : List (Bor (List ℕ))) → position (λ n. bytes_eq n.now name) names ≡ place_of name (bytes_of names)
position-place_of name [] = refl
position-place_of name (n ∷ names) = grind (arith, nat_tests, position-place_of name names)

-- the first element of a number, from either side of the equation
pub first_found : {A : Type 0} (number : A → ℕ) (n : ℕ) (xs : List A) → first (filter (λ x. n == number x) xs) ≡ find (λ x. number x == n) xs
first_found number n [] = refl
first_found number n (x ∷ xs) = grind (arith, nat_tests, first_found number n xs)

pub no_first : {A : Type 0} (xs : List A) → length xs < 1 → first xs ≡ None
no_first [] h = refl
no_first (x ∷ xs) h = absurd (omega arith)

pub first_at : {A : Type 0} (xs : List A) (d : A) → 1 ≤ length xs → first xs ≡ Some (slice_index_or xs 0 d)
first_at [] d h = absurd (omega arith)
first_at (x ∷ xs) d h = refl
