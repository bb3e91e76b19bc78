-- What stands twice in a list.
use Rattle.std.proofs.Common.{◌≡◌, Bool, true, false, ◌||◌, List, [], ◌∷◌, ◌++◌, refl}
use Rattle.std.proofs.lemmas.List.Folds.{list_any-append}
use Rattle.std.specs.List.{list_any}
use Rattle.p21_instances.specs.Instances.{has_twice}

or_turn : (a b c s : Bool) → ((a || (s || false)) || (b || c)) ≡ ((s || b) || (a || c))
or_turn true b c true = refl
or_turn true true c false = refl
or_turn true false c false = refl
or_turn false b c true = refl
or_turn false b c false = refl

or_more : (a b c d : Bool) → (a || c) ≡ true → (c ≡ true → d ≡ true) → ((a || b) || d) ≡ true
or_more true b c d e f = refl
or_more false true c d e f = refl
or_more false false c d e f = f e

module _ {X : Type 0} (same : X → X → Bool) where
  -- one element more stands twice if it stood before
  pub has_twice-push : ((x y : X) → same x y ≡ same y x) → (xs : List X) (y : X) → has_twice same (xs ++ y ∷ []) ≡ (list_any (same y) xs || has_twice same xs)
  has_twice-push turns [] y = refl
  has_twice-push turns (x ∷ xs) y = rw (list_any-append (same x) xs (y ∷ []), has_twice-push turns xs y, turns x y) (or_turn (list_any (same x) xs) (list_any (same y) xs) (has_twice same xs) (same y x))

  pub has_twice-append : (xs ys : List X) → has_twice same xs ≡ true → has_twice same (xs ++ ys) ≡ true
  has_twice-append [] ys e = cc
  has_twice-append (x ∷ xs) ys e =
      rw (list_any-append (same x) xs ys) (or_more (list_any (same x) xs) (list_any (same x) ys) (has_twice same xs) (has_twice same (xs ++ ys)) e (has_twice-append xs ys))
