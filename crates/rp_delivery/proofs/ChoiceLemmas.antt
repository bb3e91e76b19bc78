-- The first schema that is named, one after another.
use Rattle.std.proofs.Common.{◌≡◌, ◌<◌, ◌≤◌, ◌+◌, ℕ, suc, Bool, true, false, List, [], ◌∷◌, drop, get_or, length, refl, sym, ap, ◌∙◌}
use Rattle.std.specs.Prelude.{if◌then◌else◌}
use Rattle.std.proofs.Math.Seq.{drop-cons}
use Rattle.std.proofs.lemmas.List.{drop_all}
use Rattle.ex_types.specs.Checked.{Checked}
use Rattle.rp_plain.specs.Meaning.{schema_name}
use Rattle.rp_delivery.specs.Choice.{first_named}

module _ (named : List ℕ → Bool) (schemas : List Checked) (i : ℕ) where
  pub at_this : (s : Checked) → i < length schemas → s ≡ get_or schemas i s → named (schema_name s) ≡ true → first_named named i (drop i schemas) ≡ i
  at_this s within is told =
      ap (first_named named i) (drop-cons schemas i s within) ∙ ap (λ x. first_named named i (x ∷ drop (suc i) schemas)) (sym is) ∙ ap (λ b. if b then i else first_named named (i + 1) (drop (suc i) schemas)) told

  pub at_none : length schemas ≤ i → first_named named i (drop i schemas) ≡ 0
  at_none past = ap (first_named named i) (drop_all i schemas past)

-- where none is named
pub never : (n : ℕ) (schemas : List Checked) → first_named (λ _. false) n schemas ≡ 0
never n [] = refl
never n (schema ∷ schemas) = never (n + 1) schemas
