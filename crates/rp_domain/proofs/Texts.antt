-- Texts with what is read in place of them: one of them, one more, and another one.
use Rattle.std.proofs.Common.{◌≡◌, ℕ, zero, suc, List, [], ◌∷◌, ◌++◌, Some, slice_get, slice_set, sym, ◌∙◌, ap, subst}
use Rattle.std.specs.Option.{unwrap_or}
use Rattle.ex_named.specs.declared.reference.AttributePlace.{AttributePlace}
use Rattle.rp_value.specs.declared.value.Value.{Value}
use Rattle.rp_meaning.specs.declared.schema.Schema.{Schema}
use Rattle.rp_domain.specs.declared.readings.ReadText.{ReadText}
use Rattle.rp_domain.specs.Readings.{AreRead, IsRead}
use Rattle.rp_domain.specs.Rows.{read_value}
use Rattle.rp_domain.proofs.Sharing.{kept_more}

module _ (schema : Schema) (count : ℕ) where
  stands : (texts : List ReadText) (k : ℕ) (t : ReadText) → AreRead schema count texts → Some t ≡ slice_get texts k → IsRead schema count t
  stands [] k t all is = absurd (cc)
  stands (x ∷ texts) zero t all is = let same : t ≡ x = ap (λ o. unwrap_or o t) is in subst (IsRead schema count) (sym same) (all zero)
  stands (x ∷ texts) (suc k) t all is = stands texts k t (λ j. all (suc j)) is

  -- of this attribute and this value
  pub text_read : (texts : List ReadText) (k : ℕ) (t : ReadText) (attribute : AttributePlace) (value : Value) → AreRead schema count texts → Some t ≡ slice_get texts k
      → t.attribute ≡ attribute → t.written ≡ value → read_value schema count attribute value ≡ t.read
  text_read texts k t attribute value all is a v =
      ap (λ b. read_value schema count b value) (sym a) ∙ ap (λ x. read_value schema count t.attribute x) (sym v) ∙ stands texts k t all is

  pub one_more : (texts more : List ReadText) (t : ReadText) → more ≡ texts ++ t ∷ [] → AreRead schema count texts → IsRead schema count t → AreRead schema count more
  one_more texts more t is all here = subst (AreRead schema count) (sym is) (kept_more (IsRead schema count) texts t all here)

  other-at : (texts : List ReadText) (at : ℕ) (t : ReadText) → AreRead schema count texts → IsRead schema count t → AreRead schema count (slice_set texts at t)
  other-at [] at t all here k = tt
  other-at (x ∷ texts) zero t all here zero = here
  other-at (x ∷ texts) zero t all here (suc k) = all (suc k)
  other-at (x ∷ texts) (suc at) t all here zero = all zero
  other-at (x ∷ texts) (suc at) t all here (suc k) = other-at texts at t (λ j. all (suc j)) here k

  pub one_other : (texts others : List ReadText) (at : ℕ) (t : ReadText) → others ≡ slice_set texts at t → AreRead schema count texts → IsRead schema count t → AreRead schema count others
  one_other texts others at t is all here = subst (AreRead schema count) (sym is) (other-at texts at t all here)
