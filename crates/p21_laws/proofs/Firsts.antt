-- Several that are all there: the first is, and so are the others.
use Rattle.std.proofs.Common.{◌≡◌, List, ◌∷◌, Option, Some, None, refl}
use Rattle.p21_values.specs.Taking.{with_first}

pub record Split {A : Type 0} (first : Option A) (others : Option (List A)) (xs : List A) : Type 0 where
  pub head : A
  pub tail : List A
  pub is_head : first ≡ Some head
  pub is_tail : others ≡ Some tail
  pub is : head ∷ tail ≡ xs

pub split : {A : Type 0} (first : Option A) (others : Option (List A)) (xs : List A) → with_first first others ≡ Some xs → Split first others xs
split None others xs e = cc
split (Some x) None xs e = cc
split (Some x) (Some ys) xs e = let same : x ∷ ys ≡ xs = cc in record { head = x; tail = ys; is_head = refl; is_tail = refl; is = same }
