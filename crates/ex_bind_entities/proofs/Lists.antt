-- What is bound element by element.
use Rattle.std.proofs.Common.{◌≡◌, List, [], ◌∷◌, map, refl}
use Rattle.ex_named.specs.Outcomes.{Outcome, and_one, each_after}

-- to bind what a function gives is to bind through it
pub each_map : {A B C : Type 0} (f : A → B) (bind : B → Outcome C) (found : Outcome (List C)) (xs : List A) → each_after bind found (map f xs) ≡ each_after (λ a. bind (f a)) found xs
each_map f bind found [] = refl
each_map f bind found (x ∷ xs) = each_map f bind (and_one found (bind (f x))) xs
