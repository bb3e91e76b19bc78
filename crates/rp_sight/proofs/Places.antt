-- Marks by the places of those that are set.
use Rattle.std.proofs.Common.{◌≡◌, ◌<◌, ℕ, zero, suc, ◌+◌, Bool, true, false, ◌||◌, ◌==◌, ◌∷◌, length, set, get_or, replicate, refl, ◌∙◌, ap, arith}
use Rattle.std.proofs.lemmas.Bool.{eq-eqb}
use Rattle.std.proofs.lemmas.Bool.Decides.{nat_tests}
use Rattle.rp_sight.specs.Kept.{marks_from}

apart : (k m : ℕ) → k < m → (k == m) ≡ false
apart k m less = grind (arith, nat_tests)

pub none_set : (p n : ℕ) → marks_from (λ k. false) p n ≡ replicate n false
none_set p zero = refl
none_set p (suc n) = ap (λ ts. false ∷ ts) (none_set (suc p) n)

pub length-marks : (is_set : ℕ → Bool) (p n : ℕ) → length (marks_from is_set p n) ≡ n
length-marks is_set p zero = refl
length-marks is_set p (suc n) = ap suc (length-marks is_set (suc p) n)

module _ (old new : ℕ → Bool) (k : ℕ) (one_more : (m : ℕ) → new m ≡ ((k == m) || old m)) where
  -- places behind the one that is set
  behind : (p n : ℕ) → k < p → marks_from new p n ≡ marks_from old p n
  behind p zero less = refl
  behind p (suc n) less = λ i. (one_more p ∙ ap (λ t. t || old p) (apart k p less)) i ∷ behind (suc p) n (omega arith) i

  pub one_set : (p n i : ℕ) → i < n → k ≡ p + i → marks_from new p n ≡ set (marks_from old p n) i true
  one_set p zero i within at = absurd (omega arith)
  one_set p (suc n) zero within at =
      let here : k ≡ p = omega arith in
      λ j. (one_more p ∙ ap (λ t. t || old p) (eq-eqb k p here)) j ∷ behind (suc p) n (omega arith) j
  one_set p (suc n) (suc i) within at =
      λ j. (one_more p ∙ ap (λ t. t || old p) (apart_from at)) j ∷ one_set (suc p) n i (omega arith) (omega arith) j
    where
      apart_from : k ≡ p + suc i → (k == p) ≡ false
      apart_from e = grind (arith, nat_tests)

pub mark_at : (is_set : ℕ → Bool) (p n i : ℕ) (d : Bool) → i < n → get_or (marks_from is_set p n) i d ≡ is_set (p + i)
mark_at is_set p zero i d within = absurd (omega arith)
mark_at is_set p (suc n) zero d within = let here : p ≡ p + zero = omega arith in ap is_set here
mark_at is_set p (suc n) (suc i) d within = let there : suc p + i ≡ p + suc i = omega arith in mark_at is_set (suc p) n i d (omega arith) ∙ ap is_set there
