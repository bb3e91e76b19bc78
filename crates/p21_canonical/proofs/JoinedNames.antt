-- Names that are joined.
use Rattle.std.proofs.Common.{◌≡◌, ◌++◌, ℕ, List, [], ◌∷◌, refl, map}
use Rattle.std.specs.List.{join_by, flat_map}
use Rattle.itertools.specs.Consumer.{joined}

module _ {X A : Type 0} (show : X → List ℕ) (name : A → List ℕ) (between : List ℕ) where
  after : (xs : List X) (all : List A) → map show xs ≡ map name all → flat_map (λ x. between ++ show x) xs ≡ flat_map (λ a. between ++ name a) all
  after [] [] e = refl
  after (x ∷ xs) (a ∷ all) e = (let first : show x ≡ name a = cc in let others : map show xs ≡ map name all = cc in rw (first, after xs all others) refl)
  after [] (a ∷ all) e = cc
  after (x ∷ xs) [] e = cc

  -- texts that are those of these names, joined
  pub joined_names : (xs : List X) (all : List A) → map show xs ≡ map name all → joined show between xs ≡ join_by name between all
  joined_names [] [] e = refl
  joined_names (x ∷ xs) (a ∷ all) e = (let first : show x ≡ name a = cc in let others : map show xs ≡ map name all = cc in rw (first, after xs all others) refl)
  joined_names [] (a ∷ all) e = cc
  joined_names (x ∷ xs) [] e = cc
