-- Tests, one after another, and tests of each.
use Rattle.std.proofs.Common.{◌≡◌, Bool, true, false, List, [], ◌∷◌, Option, Some, None, refl}
use Rattle.std.specs.List.{AllByRecursion, list_all}
use Rattle.std.proofs.lemmas.Bool.{and_parts}
use Rattle.rp_restored_rows.specs.declared.lack.RowLack.{RowLack}
use Rattle.rp_restored_rows.specs.Tests.{checks, lack_or}

pub holds : (test : Bool) (lack : RowLack) (others : Option RowLack) → checks test lack others ≡ None → (test ≡ true) × (others ≡ None)
holds true lack others e = (refl, e)
holds false lack others e = cc

pub passes : (test : Bool) (lack : RowLack) (others : Option RowLack) → test ≡ true → others ≡ None → checks test lack others ≡ None
passes true lack others e none = none
passes false lack others e none = cc

pub neither : (first others : Option RowLack) → lack_or first others ≡ None → (first ≡ None) × (others ≡ None)
neither None others e = (refl, e)
neither (Some lack) others e = cc

pub both_none : (first others : Option RowLack) → first ≡ None → others ≡ None → lack_or first others ≡ None
both_none None others e none = none
both_none (Some lack) others e none = cc

module _ {X : Type 0} where
  pub all_true : (p : X → Bool) (xs : List X) → list_all p xs ≡ true → AllByRecursion (λ x. p x ≡ true) xs
  all_true p [] e = tt
  all_true p (x ∷ xs) e = let both = and_parts (p x) (list_all p xs) e in (both.0, all_true p xs both.1)

  -- what holds of each lets each pass
  pub all_pass : (P : X → Type 0) (p : X → Bool) → ((x : X) → P x → p x ≡ true) → (xs : List X) → AllByRecursion P xs → list_all p xs ≡ true
  all_pass P p each [] all = refl
  all_pass P p each (x ∷ xs) all = rw (each x all.0, all_pass P p each xs all.1) refl

  -- two facts of each make a third
  pub all_both : (P Q R : X → Type 0) → ((x : X) → P x → Q x → R x) → (xs : List X) → AllByRecursion P xs → AllByRecursion Q xs → AllByRecursion R xs
  all_both P Q R each [] all more = tt
  all_both P Q R each (x ∷ xs) all more = (each x all.0 more.0, all_both P Q R each xs all.1 more.1)
