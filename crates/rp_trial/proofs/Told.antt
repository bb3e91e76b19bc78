-- Limits, word by word.
use Rattle.std.proofs.Common.{◌≡◌, ℕ, List, [], ◌∷◌, ◌++◌, Option, Some, None, refl, sym, ap}
use Rattle.std.specs.Prelude.{option_map}
use Rattle.std.proofs.lemmas.List.{append_assoc}

-- one more limit, before those of what is left
pub one_more : (found : List ℕ) (limit : ℕ) (o : Option (List ℕ)) → option_map (λ rest. found ++ rest) (option_map (λ limits. limit ∷ limits) o) ≡ option_map (λ rest. (found ++ limit ∷ []) ++ rest) o
one_more found limit None = refl
one_more found limit (Some rest) = ap Some (sym (append_assoc found (limit ∷ []) rest))
