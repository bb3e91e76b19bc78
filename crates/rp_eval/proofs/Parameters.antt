-- The arguments of a function, one after the other.
use Rattle.std.proofs.Common.{◌≡◌, ℕ, ◌≤◌, List, [], ◌∷◌, ◌++◌, length, drop, refl}
use Rattle.std.proofs.Math.ListN.{drop_of_length-le}
use Rattle.std.proofs.lemmas.List.{append-nil}
use Rattle.ex_named.specs.declared.expression.NamedDataType.{NamedDataType}
use Rattle.rp_value.specs.declared.value.Value.{Value}
use Rattle.rp_meaning.specs.Expressions.{World}
use Rattle.rp_meaning.specs.Levels.{parameters_given}

module _ (world : World) (turns : ℕ) where
  unargued : (types : List NamedDataType) → parameters_given world turns types [] ≡ []
  unargued [] = refl
  unargued (t ∷ types) = refl

  -- behind the last argument there are no more
  pub parameters_past : (types : List NamedDataType) (arguments found : List Value) (k : ℕ) → length arguments ≤ k
      → found ++ parameters_given world turns (drop k types) (drop k arguments) ≡ found
  parameters_past types arguments found k h =
      let e : drop k arguments ≡ [] = drop_of_length-le arguments h in
      rw (e, unargued (drop k types)) (append-nil found)
