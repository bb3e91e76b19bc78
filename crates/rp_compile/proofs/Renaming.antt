-- The types that one renames, turn by turn.
use Rattle.std.proofs.Common.{◌≡◌, ◌≢◌, ℕ, suc, ◌+◌, ◌-◌, ◌<◌, ◌==◌, false, List, [], ◌∷◌, ◌++◌, length, refl, sym, ◌∙◌, ap, arith, append_assoc}
use Rattle.std.proofs.lemmas.Bool.Decides.{nat_tests}
use Rattle.ex_named.specs.declared.declaration.NamedType.{NamedType}
use Rattle.ex_renamings.specs.Renamings.{renamed}
use Rattle.rp_meaning.specs.CompiledTypes.{renamed_within}

module _ (types : List NamedType) where
  left : (turn : ℕ) → turn < length types → length types - turn ≡ suc (length types - (turn + 1))
  left turn h = omega (arith, h)

  further-at : (m last : ℕ) → (renamed types last == last) ≡ false → renamed_within types (suc m) last ≡ renamed types last ∷ renamed_within types m (renamed types last)
  further-at m last is = rw is refl

  further : (turn last : ℕ) (found : List ℕ) → turn < length types → renamed types last ≢ last
      → found ++ renamed_within types (length types - turn) last ≡ (found ++ renamed types last ∷ []) ++ renamed_within types (length types - (turn + 1)) (renamed types last)
  further turn last found h other =
      let is : (renamed types last == last) ≡ false = grind (arith, nat_tests, other) in
      let rest = renamed_within types (length types - (turn + 1)) (renamed types last) in
      ap (λ (n : ℕ). found ++ renamed_within types n last) (left turn h) ∙ ap (λ (xs : List ℕ). found ++ xs) (further-at (length types - (turn + 1)) last is) ∙ sym (append_assoc found (renamed types last ∷ []) rest)

  pub turned : (turn last next : ℕ) (found after : List ℕ) → turn < length types → next ≡ renamed types last → next ≢ last → after ≡ found ++ next ∷ []
      → after ++ renamed_within types (length types - (turn + 1)) next ≡ found ++ renamed_within types (length types - turn) last
  turned turn last next found after h is other put =
      let differs : renamed types last ≢ last = rw is at other in
      (λ i. put i ++ renamed_within types (length types - (turn + 1)) next) ∙ (λ i. (found ++ is i ∷ []) ++ renamed_within types (length types - (turn + 1)) (is i)) ∙ sym (further turn last found h differs)
