-- Marks of what is placed, as one more gets its place.
use Rattle.std.proofs.Common.{◌≡◌, ◌<◌, ℕ, zero, suc, Bool, true, false, ◌||◌, ◌==◌, List, [], ◌∷◌, ◌++◌, length, IfSome, Option, slice_get, slice_set, refl, sym, ◌∙◌, ap, subst, arith}
use Rattle.std.proofs.lemmas.Bool.{eqb-true}
use Rattle.std.proofs.lemmas.Bool.Decides.{nat_tests}
use Rattle.plain_data.specs.Numbers.{is_among}
use Rattle.plain_data.proofs.Numbers.{is_among-append}
use Rattle.graphs.specs.Placed.{AreMarks}
use Rattle.graphs.proofs.Sets.{in_last}

-- each mark is what the function says of its place
abbrev AreAt : List Bool → (ℕ → Bool) → Type 0
AreAt marks f = (n : ℕ) → IfSome (slice_get marks n) (λ mark. mark ≡ f n)

same_at : (o : Option Bool) (x y : Bool) → y ≡ x → IfSome o (λ mark. mark ≡ x) → IfSome o (λ mark. mark ≡ y)
same_at o x y same h = subst (λ z. IfSome o (λ mark. mark ≡ z)) (sym same) h

set_at : (marks : List Bool) (f g : ℕ → Bool) (k : ℕ) → k < length marks → AreAt marks f → g k ≡ true → ((n : ℕ) → (k == n) ≡ false → g n ≡ f n) → AreAt (slice_set marks k true) g
set_at [] f g k within all here others n = absurd (omega arith)
set_at (m ∷ ms) f g zero within all here others zero = sym here
set_at (m ∷ ms) f g zero within all here others (suc n) = same_at (slice_get ms n) (f (suc n)) (g (suc n)) (others (suc n) (grind (arith, nat_tests))) (all (suc n))
set_at (m ∷ ms) f g (suc k) within all here others zero = all zero ∙ sym (others zero (grind (arith, nat_tests)))
set_at (m ∷ ms) f g (suc k) within all here others (suc n) =
    set_at ms (λ j. f (suc j)) (λ j. g (suc j)) k (omega arith) (λ j. all (suc j)) here (λ j apart. others (suc j) (grind (arith, nat_tests, apart))) n

kept_at : (marks : List Bool) (f g : ℕ → Bool) → AreAt marks f → ((n : ℕ) → n < length marks → g n ≡ f n) → AreAt marks g
kept_at [] f g all same n = tt
kept_at (m ∷ ms) f g all same zero = all zero ∙ sym (same zero (omega arith))
kept_at (m ∷ ms) f g all same (suc n) = kept_at ms (λ j. f (suc j)) (λ j. g (suc j)) (λ j. all (suc j)) (λ j less. same (suc j) (omega arith)) n

other : (placed : List ℕ) (member n : ℕ) → (member == n) ≡ false → is_among (placed ++ member ∷ []) n ≡ is_among placed n
other placed member n apart = is_among-append placed (member ∷ []) n ∙ rw apart (or_none (is_among placed n))
  where
    or_none : (b : Bool) → (b || (false || false)) ≡ b
    or_none true = refl
    or_none false = refl

pub marked : (marks : List Bool) (placed : List ℕ) (member : ℕ) → member < length marks → AreMarks marks placed → AreMarks (slice_set marks member true) (placed ++ member ∷ [])
marked marks placed member within all = set_at marks (is_among placed) (is_among (placed ++ member ∷ [])) member within all (in_last placed member) (λ n apart. other placed member n apart)

pub passed : (marks : List Bool) (placed : List ℕ) (member : ℕ) → (member < length marks → ⊥) → AreMarks marks placed → AreMarks marks (placed ++ member ∷ [])
passed marks placed member beyond all = kept_at marks (is_among placed) (is_among (placed ++ member ∷ [])) all (λ n less. other placed member n (apart n less))
  where
    apart : (n : ℕ) → n < length marks → (member == n) ≡ false
    apart n less = grind (arith, nat_tests, beyond)

pub with_known : (placed : List ℕ) (member : ℕ) → is_among placed member ≡ true → (n : ℕ) → is_among placed n ≡ ((member == n) || is_among placed n)
with_known placed member there n = either_way (member == n) (is_among placed n) (λ h. ap (is_among placed) (sym (eqb-true member n h)) ∙ there)
  where
    either_way : (a b : Bool) → (a ≡ true → b ≡ true) → b ≡ (a || b)
    either_way true b h = h refl
    either_way false b h = refl
