-- Where the first of a list stands that passes a test.
use Rattle.std.proofs.Common.{◌≡◌, ℕ, ◌<◌, ◌≤◌, Bool, true, false, cond, List, length, get_or, Some, None, slice_get, nat_lt, refl, ◌∙◌, ap, arith}
use Rattle.std.specs.List.{find, position, position_or_len}
use Rattle.std.proofs.lemmas.Bool.Decides.{nat_tests}
use Rattle.std.proofs.lemmas.List.Folds.{find_at}
use Rattle.std.proofs.lemmas.Option.{slice_get-get_or, slice_get_past}

pub found_at : {X : Type 0} (p : X → Bool) (xs : List X) (i : ℕ) (d : X) → position p xs ≡ Some i → i < length xs → find p xs ≡ Some (get_or xs i d)
found_at p xs i d at within = by (nat_lt (position_or_len p xs) (length xs)) at
  where
    by : (b : Bool) → cond b (Some (position_or_len p xs)) None ≡ Some i → find p xs ≡ Some (get_or xs i d)
    by true is = let same : position_or_len p xs ≡ i = cc in find_at p xs ∙ ap (slice_get xs) same ∙ slice_get-get_or xs i d within
    by false is = cc

at_most : (a b : ℕ) → nat_lt a b ≡ false → b ≤ a
at_most a b e = grind (arith, nat_tests)

pub found_nowhere : {X : Type 0} (p : X → Bool) (xs : List X) → position p xs ≡ None → find p xs ≡ None
found_nowhere p xs none = by (nat_lt (position_or_len p xs) (length xs)) refl none
  where
    by : (b : Bool) → nat_lt (position_or_len p xs) (length xs) ≡ b → cond b (Some (position_or_len p xs)) None ≡ None → find p xs ≡ None
    by true e is = cc
    by false e is = find_at p xs ∙ slice_get_past xs (position_or_len p xs) (at_most (position_or_len p xs) (length xs) e)
