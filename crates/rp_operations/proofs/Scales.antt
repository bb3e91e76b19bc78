-- The order of whole numbers is that of their multiples.
use Rattle.std.proofs.Common.{◌≡◌, ℕ, suc, ◌*◌, ◌^◌, ◌<◌, ℤ, pos, negsuc, ◌*ℤ◌, sym, ◌∙◌, arith}
use Rattle.std.proofs.lemmas.Int.{ints}
use Rattle.std.specs.Cmp.{int_cmp_is}
use Rattle.std.specs.Ordering.{int_cmp}
use Rattle.std.specs.declared.cmp.Ordering.TheVariants.{Less, Greater}
use Rattle.rp_numbers.proofs.Ranks.{positive, nat_cmp-mul, cmp-above, cmp-below, mixed-less, mixed-greater}
use Rattle.rp_numbers.specs.Decimals.{Decimal, compare, scaled, scaled_whole}

multiplied : (n m : ℤ) (t : ℕ) → 0 < t → int_cmp n m ≡ int_cmp (n *ℤ pos t) (m *ℤ pos t)
multiplied (pos a) (pos b) t some = sym (cmp-above a b) ∙ nat_cmp-mul a b t some ∙ cmp-above (a * t) (b * t)
multiplied (negsuc a) (negsuc b) t some = sym (cmp-below (suc a) (suc b)) ∙ nat_cmp-mul (suc b) (suc a) t some ∙ cmp-below (suc a * t) (suc b * t)
multiplied (negsuc a) (pos b) t some = sym (int_cmp_is (negsuc a) (pos b) Less (omega (arith, ints))) ∙ mixed-less (negsuc a) (pos b) t t (omega (arith, ints)) (omega (arith, ints)) some
multiplied (pos a) (negsuc b) t some = sym (int_cmp_is (pos a) (negsuc b) Greater (omega (arith, ints))) ∙ mixed-greater (pos a) (negsuc b) t t (omega (arith, ints)) (omega (arith, ints)) some

pub integers : (n m : ℤ) → int_cmp n m ≡ int_cmp (scaled_whole n) (scaled_whole m)
unfolding scaled_whole
integers n m = multiplied n m (10 ^ 1000) (positive 1000)

pub decimals : (x y : Decimal) → compare x y ≡ int_cmp (scaled x) (scaled y)
unfolding compare
decimals x y i = int_cmp (scaled x) (scaled y)
