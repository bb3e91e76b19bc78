-- Where the first of a list stands that passes a test, part by part.
use Rattle.std.proofs.Common.{◌≡◌, suc, ◌+◌, min, Bool, true, false, not, ◌||◌, cond, List, [], ◌∷◌, ◌++◌, length, map, refl, ◌∙◌, ap, arith}
use Rattle.std.specs.Prelude.{nat_lt, if◌then◌else◌}
use Rattle.std.specs.List.{AllByRecursion, position_or_len}
use Rattle.std.proofs.lemmas.List.{length-append}
use Rattle.std.proofs.lemmas.Bool.Decides.{nat_tests}

module _ {X : Type 0} where
  pub first_of_either : (f g : X → Bool) (xs : List X) → position_or_len (λ x. f x || g x) xs ≡ min (position_or_len f xs) (position_or_len g xs)
  first_of_either f g [] = refl
  first_of_either f g (x ∷ xs) = by (f x) (g x) (first_of_either f g xs)
    where
      by : (t u : Bool) → position_or_len (λ y. f y || g y) xs ≡ min (position_or_len f xs) (position_or_len g xs)
          → cond (not (t || u)) (1 + position_or_len (λ y. f y || g y) xs) 0 ≡ min (cond (not t) (1 + position_or_len f xs) 0) (cond (not u) (1 + position_or_len g xs) 0)
      by true true rest = refl
      by true false rest = omega arith
      by false true rest = omega arith
      by false false rest = omega arith

  -- tests that agree stop at the same place
  pub same_test : (f g : X → Bool) (same : (x : X) → f x ≡ g x) (xs : List X) → position_or_len f xs ≡ position_or_len g xs
  same_test f g same xs = ap (λ (t : X → Bool). position_or_len t xs) (λ i x. same x i)

  module _ (p : X → Bool) where
    -- those that fail are passed over
    pub passed_over : (xs ys : List X) → AllByRecursion (λ x. p x ≡ false) xs → position_or_len p (xs ++ ys) ≡ length xs + position_or_len p ys
    passed_over [] ys fail = omega arith
    passed_over (x ∷ xs) ys fail = rw fail.0 (omega (arith, passed_over xs ys fail.1))

    pub none_passes : (xs : List X) → AllByRecursion (λ x. p x ≡ false) xs → position_or_len p xs ≡ length xs
    none_passes [] fail = refl
    none_passes (x ∷ xs) fail = rw fail.0 (omega (arith, none_passes xs fail.1))

    -- what stands behind doesn't count, where it fails
    pub before_those : (xs ys : List X) → AllByRecursion (λ y. p y ≡ false) ys
        → position_or_len p (xs ++ ys) ≡ (if nat_lt (position_or_len p xs) (length xs) then position_or_len p xs else length xs + length ys)
    before_those [] ys fail = none_passes ys fail ∙ omega arith
    before_those (x ∷ xs) ys fail = by (p x) (before_those xs ys fail)
      where
        by : (t : Bool) → position_or_len p (xs ++ ys) ≡ (if nat_lt (position_or_len p xs) (length xs) then position_or_len p xs else length xs + length ys)
            → cond (not t) (1 + position_or_len p (xs ++ ys)) 0 ≡ (if nat_lt (cond (not t) (1 + position_or_len p xs) 0) (suc (length xs)) then cond (not t) (1 + position_or_len p xs) 0 else suc (length xs) + length ys)
        by true rest = grind (arith, nat_tests)
        by false rest = grind (arith, nat_tests)

  -- in the middle of such that fail
  pub between : (p : X → Bool) (xs ys zs : List X) → AllByRecursion (λ x. p x ≡ false) xs → AllByRecursion (λ z. p z ≡ false) zs
      → position_or_len p (xs ++ (ys ++ zs)) ≡ (if nat_lt (position_or_len p ys) (length ys) then length xs + position_or_len p ys else length (xs ++ (ys ++ zs)))
  between p xs ys zs before behind =
      passed_over p xs (ys ++ zs) before ∙ ap (λ n. length xs + n) (before_those p ys zs behind)
      ∙ by (nat_lt (position_or_len p ys) (length ys)) (length-append xs (ys ++ zs)) (length-append ys zs)
    where
      by : (t : Bool) → length (xs ++ (ys ++ zs)) ≡ length xs + length (ys ++ zs) → length (ys ++ zs) ≡ length ys + length zs
          → length xs + (if t then position_or_len p ys else length ys + length zs) ≡ (if t then length xs + position_or_len p ys else length (xs ++ (ys ++ zs)))
      by true e f = refl
      by false e f = omega arith

pub mapped : {X Y : Type 0} (p : Y → Bool) (f : X → Y) (xs : List X) → position_or_len p (map f xs) ≡ position_or_len (λ x. p (f x)) xs
mapped p f [] = refl
mapped p f (x ∷ xs) = ap (λ n. cond (not (p (f x))) (1 + n) 0) (mapped p f xs)
