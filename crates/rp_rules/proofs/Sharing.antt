-- Rows that agree have the same key.
use Rattle.std.proofs.Common.{◌≡◌, ℕ, ◌&&◌, Bool, true, false, List, [], ◌∷◌, length, refl, ap, ◌∙◌, arith}
use Rattle.rp_meaning.specs.Report.{agree}
use Rattle.rp_operations.specs.Operations.{is_same}
use Rattle.rp_faults.specs.Keys.{key_of, with_number}
use Rattle.rp_faults.proofs.Sharing.{same-key}
use Rattle.rp_rules.specs.Buckets.{with_values}
use Rattle.rp_value.specs.declared.value.Value.{Value}

both : (a b : Bool) → (a && b) ≡ true → (a ≡ true) × (b ≡ true)
both true true h = (refl, refl)
both true false h = absurd (cc)
both false b h = absurd (cc)

pub agree-key : (key : ℕ) (xs ys : List Value) → length xs ≡ length ys → agree xs ys ≡ true → with_values key xs ≡ with_values key ys
agree-key key [] [] many h = refl
agree-key key [] (y ∷ ys) many h = absurd (omega (arith, many))
agree-key key (x ∷ xs) [] many h = absurd (omega (arith, many))
agree-key key (x ∷ xs) (y ∷ ys) many h =
    let two = both (is_same x y) (agree xs ys) h in
    ap (λ (k : ℕ). with_values (with_number key k) xs) (same-key x y two.0) ∙ agree-key (with_number key (key_of y)) xs ys (omega (arith, many)) two.1
