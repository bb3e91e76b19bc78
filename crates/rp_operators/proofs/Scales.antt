-- The order of whole numbers is that of their multiples, and that of decimals is that of their coefficients with as many zeros.
use Rattle.std.proofs.Common.{◌≡◌, ℕ, suc, ◌*◌, ◌^◌, ◌<◌, ℤ, pos, negsuc, ◌+ℤ◌, ◌*ℤ◌, ◌<ℤ◌, ◌≤ℤ◌, true, false, ap, sym, ◌∙◌, arith}
use Rattle.std.specs.Prelude.{int_lt, unsigned_abs}
use Rattle.std.proofs.lemmas.Int.{ints}
use Rattle.std.specs.Cmp.{int_cmp_is}
use Rattle.std.specs.Ordering.{nat_cmp, int_cmp}
use Rattle.std.specs.declared.cmp.Ordering.TheVariants.{Less, Greater}
use Rattle.rp_numbers.proofs.Ranks.{positive, nat_cmp-mul, cmp-above, cmp-below, both_whole, both_negative, mixed-less, mixed-greater}
use Rattle.rp_numbers.specs.Decimals.{Decimal, places, scaled, scaled_whole}

multiplied : (n m : ℤ) (t : ℕ) → 0 < t → int_cmp n m ≡ int_cmp (n *ℤ pos t) (m *ℤ pos t)
multiplied (pos a) (pos b) t some = sym (cmp-above a b) ∙ nat_cmp-mul a b t some ∙ cmp-above (a * t) (b * t)
multiplied (negsuc a) (negsuc b) t some = sym (cmp-below (suc a) (suc b)) ∙ nat_cmp-mul (suc b) (suc a) t some ∙ cmp-below (suc a * t) (suc b * t)
multiplied (negsuc a) (pos b) t some = sym (int_cmp_is (negsuc a) (pos b) Less (omega (arith, ints))) ∙ mixed-less (negsuc a) (pos b) t t (omega (arith, ints)) (omega (arith, ints)) some
multiplied (pos a) (negsuc b) t some = sym (int_cmp_is (pos a) (negsuc b) Greater (omega (arith, ints))) ∙ mixed-greater (pos a) (negsuc b) t t (omega (arith, ints)) (omega (arith, ints)) some

pub whole_numbers : (n m : ℤ) → int_cmp n m ≡ int_cmp (scaled_whole n) (scaled_whole m)
unfolding scaled_whole
whole_numbers n m = multiplied n m (10 ^ 1000) (positive 1000)

pub whole_scaled : (x z : ℤ) → z ≡ x → z *ℤ pos (10 ^ 1000) ≡ scaled_whole x
unfolding scaled_whole
whole_scaled x z is = ap (λ y. y *ℤ pos (10 ^ 1000)) is

-- of as many places
pub same_places : (x y : Decimal) → x.exponent ≡ y.exponent → int_cmp x.coefficient y.coefficient ≡ int_cmp (scaled x) (scaled y)
same_places x y same =
    multiplied x.coefficient y.coefficient (10 ^ places x) (positive (places x))
    ∙ (λ i. int_cmp (scaled x) (y.coefficient *ℤ pos (10 ^ unsigned_abs (same i +ℤ pos 1000))))

-- ---- with signs

negative : (c : ℤ) → int_lt c (pos 0) ≡ true → c <ℤ pos 0
negative c is = grind (arith, ints)

whole : (c : ℤ) → int_lt c (pos 0) ≡ false → pos 0 ≤ℤ c
whole c is = grind (arith, ints)

module _ (c d : ℤ) (a b : ℕ) where
  pub less_signed : int_lt c (pos 0) ≡ true → int_lt d (pos 0) ≡ false → Less ≡ int_cmp (c *ℤ pos (10 ^ a)) (d *ℤ pos (10 ^ b))
  less_signed first second = mixed-less c d (10 ^ a) (10 ^ b) (negative c first) (whole d second) (positive a)

  pub greater_signed : int_lt c (pos 0) ≡ false → int_lt d (pos 0) ≡ true → Greater ≡ int_cmp (c *ℤ pos (10 ^ a)) (d *ℤ pos (10 ^ b))
  greater_signed first second = mixed-greater c d (10 ^ a) (10 ^ b) (whole c first) (negative d second) (positive b)

  pub both_above : int_lt c (pos 0) ≡ false → int_lt d (pos 0) ≡ false → nat_cmp (unsigned_abs c * 10 ^ a) (unsigned_abs d * 10 ^ b) ≡ int_cmp (c *ℤ pos (10 ^ a)) (d *ℤ pos (10 ^ b))
  both_above first second = both_whole c d (10 ^ a) (10 ^ b) (whole c first) (whole d second)

  pub both_below : int_lt c (pos 0) ≡ true → int_lt d (pos 0) ≡ true → nat_cmp (unsigned_abs d * 10 ^ b) (unsigned_abs c * 10 ^ a) ≡ int_cmp (c *ℤ pos (10 ^ a)) (d *ℤ pos (10 ^ b))
  both_below first second = both_negative c d (10 ^ a) (10 ^ b) (negative c first) (negative d second)

pub ruleset orders = (less_signed, greater_signed, both_above, both_below)
