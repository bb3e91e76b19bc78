-- Whole numbers without the zeros at their end.
use Rattle.std.proofs.Common.{◌≡◌, ℕ, suc, ◌+◌, ◌*◌, ◌/◌, ◌%◌, ◌^◌, ◌<◌, ◌≤◌, ℤ, pos, negsuc, neg_ℤ, ◌*ℤ◌, ◌<ℤ◌, ◌≤ℤ◌, ap, sym, refl, ◌∙◌, arith, zero, Bool, true, false, nat_lt, ◌-ℤ◌, FitsSigned, to_z, of_z, int_lt}
use mir.Syntax.{w16, w64, w128}
use Rattle.std.proofs.lemmas.Bool.Decides.{nat_tests}
use Rattle.std.specs.Prelude.{unsigned_abs}
use Rattle.std.proofs.lemmas.Nat.{pow-add}
use Rattle.std.proofs.lemmas.Int.{ints}
use Rattle.std.proofs.Math.Nat.{mul_assoc}
use Rattle.rp_numbers.specs.Decimals.{scaled, scaled_whole}
use Rattle.rp_numbers.proofs.Ranks.{once_more, further}

pub shorter : (m z n : ℕ) → m * 10 ^ z ≡ n → m % 10 ≡ 0 → 0 < m → (m / 10 * 10 ^ (z + 1) ≡ n) × (0 < m / 10)
shorter m z n is ends some =
    let tens : m ≡ m / 10 * 10 = omega arith in
    let all : m * 10 ^ z ≡ m / 10 * 10 * 10 ^ z = ap (λ k. k * 10 ^ z) tens in
    let further = once_more (m / 10) (m / 10 * 10 ^ z) z refl in
    (omega arith, omega arith)

few_by : (m z n : ℕ) (t : Bool) → nat_lt z 20 ≡ t → m * 10 ^ z ≡ n → 0 < m → n < 2 ^ 64 → z < 20
few_by m z n true low is some small = grind (arith, nat_tests)
few_by m z n false high is some small =
    let many : 20 ≤ z = grind (arith, nat_tests) in
    let more = further m 20 z many in
    absurd (omega arith)

pub few : (m z n : ℕ) → m * 10 ^ z ≡ n → 0 < m → n < 2 ^ 64 → z < 20
few m z n is some small = few_by m z n (nat_lt z 20) refl is some small

raised : (m z n k : ℕ) → m * 10 ^ z ≡ n → m * 10 ^ (z + k) ≡ n * 10 ^ k
raised m z n k is =
    ap (λ p. m * p) (pow-add 10 z k) ∙ sym (mul_assoc m (10 ^ z) (10 ^ k)) ∙ ap (λ a. a * 10 ^ k) is

raised_below : (n m k p : ℕ) → 0 < m → m * p ≡ suc n * k → neg_ℤ (pos m) *ℤ pos p ≡ negsuc n *ℤ pos k
raised_below n zero k p some is = absurd (omega arith)
raised_below n (suc m) k p some is = ap (λ k. neg_ℤ (pos k)) is

positive : (m z n : ℕ) → m * 10 ^ z ≡ suc n → 0 < m
positive zero z n is = absurd (omega arith)
positive (suc m) z n is = omega arith

-- ---- the decimal

pub whole_scaled : (x : ℤ) (m z : ℕ) → pos 0 ≤ℤ x → m * 10 ^ z ≡ unsigned_abs x → scaled (record { coefficient = pos m; exponent = pos z }) ≡ scaled_whole x
unfolding scaled_whole
whole_scaled (pos n) m z whole is = ap pos (raised m z n 1000 is)
whole_scaled (negsuc n) m z none is = absurd (omega (arith, ints))

pub negative_scaled : (x : ℤ) (m z : ℕ) → x <ℤ pos 0 → m * 10 ^ z ≡ unsigned_abs x → scaled (record { coefficient = neg_ℤ (pos m); exponent = pos z }) ≡ scaled_whole x
unfolding scaled_whole
negative_scaled (negsuc n) m z below is = raised_below n m (10 ^ 1000) (10 ^ (z + 1000)) (positive m z n is) (raised m z (suc n) 1000 is)
negative_scaled (pos n) m z none is = absurd (omega (arith, ints))

pub zero_scaled : (x : ℤ) → x ≡ pos 0 → pos 0 ≡ scaled_whole x
unfolding scaled_whole
zero_scaled x none = sym (ap scaled_whole none)

-- ---- as the code's numbers hold it

pub held_zero : (x : ℤ) → FitsSigned w64 x → of_z w64 x ≡ 0 → x ≡ pos 0
held_zero x fits none = omega (arith, ints)

held : (x : ℤ) → FitsSigned w64 x → to_z w64 (of_z w64 x) ≡ x
held x fits = omega (arith, ints)

below : (c : ℤ) → int_lt c (pos 0) ≡ true → c <ℤ pos 0
below c is = grind (arith, ints)

above : (c : ℤ) → int_lt c (pos 0) ≡ false → pos 0 ≤ℤ c
above c is = grind (arith, ints)

coefficient_above : (m : ℕ) → m < 2 ^ 127 → to_z w128 (of_z w128 (pos m)) ≡ pos m
coefficient_above m small = omega (arith, ints)

coefficient_below : (m : ℕ) → m < 2 ^ 127 → to_z w128 (of_z w128 (pos 0 -ℤ to_z w128 (of_z w128 (pos m)))) ≡ neg_ℤ (pos m)
coefficient_below m small = omega (arith, ints)

exponent_held : (z : ℕ) → z < 20 → to_z w16 (of_z w16 (pos z)) ≡ pos z
exponent_held z small = omega (arith, ints)

module _ (x c e r s : ℤ) (m z : ℕ) (fits : FitsSigned w64 x) (r_is : r ≡ pos m) (s_is : s ≡ pos z) (small : m < 2 ^ 127) (low : z < 20) (e_is : e ≡ to_z w16 (of_z w16 s)) where
  exponent_is : e ≡ pos z
  exponent_is = e_is ∙ ap (λ s. to_z w16 (of_z w16 s)) s_is ∙ exponent_held z low

  pub negative_integer : int_lt (to_z w64 (of_z w64 x)) (pos 0) ≡ true → m * 10 ^ z ≡ unsigned_abs (to_z w64 (of_z w64 x)) → c ≡ to_z w128 (of_z w128 (pos 0 -ℤ to_z w128 (of_z w128 r))) → scaled (record { coefficient = c; exponent = e }) ≡ scaled_whole x
  negative_integer sign is c_is =
      let whole : c ≡ neg_ℤ (pos m) = c_is ∙ ap (λ r. to_z w128 (of_z w128 (pos 0 -ℤ to_z w128 (of_z w128 r)))) r_is ∙ coefficient_below m small in
      rw (whole, exponent_is) (negative_scaled x m z (below x (ap (λ x. int_lt x (pos 0)) (sym (held x fits)) ∙ sign)) (is ∙ ap unsigned_abs (held x fits)))

  pub whole_integer : int_lt (to_z w64 (of_z w64 x)) (pos 0) ≡ false → m * 10 ^ z ≡ unsigned_abs (to_z w64 (of_z w64 x)) → c ≡ to_z w128 (of_z w128 r) → scaled (record { coefficient = c; exponent = e }) ≡ scaled_whole x
  whole_integer sign is c_is =
      let whole : c ≡ pos m = c_is ∙ ap (λ r. to_z w128 (of_z w128 r)) r_is ∙ coefficient_above m small in
      rw (whole, exponent_is) (whole_scaled x m z (above x (ap (λ x. int_lt x (pos 0)) (sym (held x fits)) ∙ sign)) (is ∙ ap unsigned_abs (held x fits)))
