-- The order of numbers with powers of ten.
use Rattle.std.proofs.Common.{◌≡◌, ℕ, suc, ◌+◌, ◌-◌, ◌*◌, ◌^◌, ◌<◌, ◌≤◌, ℤ, pos, negsuc, neg_ℤ, ◌*ℤ◌, ◌<ℤ◌, ◌≤ℤ◌, ap, sym, ◌∙◌, arith}
use Rattle.std.specs.Prelude.{unsigned_abs, int_lt, true, false}
use Rattle.std.specs.declared.cmp.Ordering.{Ordering}
use Rattle.std.specs.declared.cmp.Ordering.TheVariants.{Less, Equal, Greater}
use Rattle.std.specs.Ordering.{nat_cmp, int_cmp, ordering_reverse, MatchOrdering}
use Rattle.std.specs.Cmp.{nat_cmp_is, ranks, int_cmp_is}
use Rattle.std.proofs.lemmas.Nat.{pow-add}
use Rattle.std.proofs.lemmas.Grind.{pow_more}
use Rattle.std.proofs.lemmas.Int.{ints}
use Rattle.rp_numbers.specs.Decimals.{Decimal, compare, places}
use Rattle.std.proofs.Math.Nat.{mul_assoc, pow-le-pow_right, one-le-pow, mul-le-mul_left, mul-lt-mul_of_pos_right}

pub positive : (k : ℕ) → 0 < 10 ^ k
positive k = one-le-pow k 10 (omega arith)

-- further places only make a number larger
pub further : (n i k : ℕ) → i ≤ k → n * 10 ^ i ≤ n * 10 ^ k
further n i k within = mul-le-mul_left n (pow-le-pow_right (omega arith) within)

pub once_more : (n raised k : ℕ) → raised ≡ n * 10 ^ k → raised * 10 ≡ n * 10 ^ (k + 1)
once_more n raised k is =
    ap (λ r. r * 10) is ∙ mul_assoc n (10 ^ k) 10 ∙ ap (λ p. n * p) (sym (pow_more 10 k))

-- ---- whole numbers without a sign

pub less : (m n : ℕ) → m < n → Less ≡ nat_cmp m n
less m n below = nat_cmp_is m n Less below

stretched : (m n t : ℕ) (o : Ordering) → 0 < t → MatchOrdering o (m < n) (m ≡ n) (n < m) → MatchOrdering o (m * t < n * t) (m * t ≡ n * t) (n * t < m * t)
stretched m n t Less some less = mul-lt-mul_of_pos_right less some
stretched m n t Equal some same = ap (λ k. k * t) same
stretched m n t Greater some more = mul-lt-mul_of_pos_right more some

-- a factor of both sides changes nothing
pub nat_cmp-mul : (m n t : ℕ) → 0 < t → nat_cmp m n ≡ nat_cmp (m * t) (n * t)
nat_cmp-mul m n t some = nat_cmp_is (m * t) (n * t) (nat_cmp m n) (stretched m n t (nat_cmp m n) some (ranks m n))

turned : (m n : ℕ) (o : Ordering) → MatchOrdering o (m < n) (m ≡ n) (n < m) → MatchOrdering (ordering_reverse o) (n < m) (n ≡ m) (m < n)
turned m n Less less = less
turned m n Equal same = sym same
turned m n Greater more = more

pub nat_cmp-turned : (m n : ℕ) → ordering_reverse (nat_cmp m n) ≡ nat_cmp n m
nat_cmp-turned m n = nat_cmp_is n m (ordering_reverse (nat_cmp m n)) (turned m n (nat_cmp m n) (ranks m n))

-- only the places that one side has more than the other count
pub nat_cmp-places : (m n a b : ℕ) → a ≤ b → nat_cmp m (n * 10 ^ (b - a)) ≡ nat_cmp (m * 10 ^ a) (n * 10 ^ b)
nat_cmp-places m n a b within =
    let all : b - a + a ≡ b = omega arith in
    let same : n * 10 ^ (b - a) * 10 ^ a ≡ n * 10 ^ b =
    mul_assoc n (10 ^ (b - a)) (10 ^ a) ∙ ap (λ k. n * k) (sym (pow-add 10 (b - a) a)) ∙ ap (λ k. n * 10 ^ k) all in
    nat_cmp-mul m (n * 10 ^ (b - a)) (10 ^ a) (positive a) ∙ ap (nat_cmp (m * 10 ^ a)) same

-- ---- with a sign

above : (u v : ℕ) (o : Ordering) → MatchOrdering o (u < v) (u ≡ v) (v < u) → MatchOrdering o (pos u <ℤ pos v) (pos u ≡ pos v) (pos v <ℤ pos u)
above u v Less less = omega (arith, ints)
above u v Equal same = ap pos same
above u v Greater more = omega (arith, ints)

below : (u v : ℕ) (o : Ordering) → MatchOrdering o (v < u) (v ≡ u) (u < v) → MatchOrdering o (neg_ℤ (pos u) <ℤ neg_ℤ (pos v)) (neg_ℤ (pos u) ≡ neg_ℤ (pos v)) (neg_ℤ (pos v) <ℤ neg_ℤ (pos u))
below u v Less less = omega (arith, ints)
below u v Equal same = ap (λ k. neg_ℤ (pos k)) (sym same)
below u v Greater more = omega (arith, ints)

pub cmp-above : (u v : ℕ) → nat_cmp u v ≡ int_cmp (pos u) (pos v)
cmp-above u v = int_cmp_is (pos u) (pos v) (nat_cmp u v) (above u v (nat_cmp u v) (ranks u v))

pub cmp-below : (u v : ℕ) → nat_cmp v u ≡ int_cmp (neg_ℤ (pos u)) (neg_ℤ (pos v))
cmp-below u v = int_cmp_is (neg_ℤ (pos u)) (neg_ℤ (pos v)) (nat_cmp v u) (below u v (nat_cmp v u) (ranks v u))

pub both_whole : (c d : ℤ) (x y : ℕ) → pos 0 ≤ℤ c → pos 0 ≤ℤ d → nat_cmp (unsigned_abs c * x) (unsigned_abs d * y) ≡ int_cmp (c *ℤ pos x) (d *ℤ pos y)
both_whole (pos a) (pos b) x y _ _ = cmp-above (a * x) (b * y)
both_whole (pos a) (negsuc b) x y whole none = absurd (omega (arith, ints))
both_whole (negsuc a) d x y none _ = absurd (omega (arith, ints))

pub both_negative : (c d : ℤ) (x y : ℕ) → c <ℤ pos 0 → d <ℤ pos 0 → nat_cmp (unsigned_abs d * y) (unsigned_abs c * x) ≡ int_cmp (c *ℤ pos x) (d *ℤ pos y)
both_negative (negsuc a) (negsuc b) x y _ _ = cmp-below (suc a * x) (suc b * y)
both_negative (negsuc a) (pos b) x y _ none = absurd (omega (arith, ints))
both_negative (pos a) d x y none _ = absurd (omega (arith, ints))

mul-pos : (a x : ℕ) → 0 < a → 0 < x → 0 < a * x
mul-pos a x some more = let above_zero : 0 * x < a * x = mul-lt-mul_of_pos_right some more in omega arith

under : (u v : ℕ) → 0 < u → neg_ℤ (pos u) <ℤ pos v
under u v some = omega (arith, ints)

pub mixed : (c d : ℤ) (x y : ℕ) → c <ℤ pos 0 → pos 0 ≤ℤ d → 0 < x → (c *ℤ pos x) <ℤ (d *ℤ pos y)
mixed (negsuc a) (pos b) x y _ _ some =
    under (suc a * x) (b * y) (mul-pos (suc a) x (omega arith) some)
mixed (negsuc a) (negsuc b) x y _ none _ = absurd (omega (arith, ints))
mixed (pos a) d x y none _ _ = absurd (omega (arith, ints))

pub mixed-less : (c d : ℤ) (x y : ℕ) → c <ℤ pos 0 → pos 0 ≤ℤ d → 0 < x → Less ≡ int_cmp (c *ℤ pos x) (d *ℤ pos y)
mixed-less c d x y negative whole some = int_cmp_is (c *ℤ pos x) (d *ℤ pos y) Less (mixed c d x y negative whole some)

pub mixed-greater : (c d : ℤ) (x y : ℕ) → pos 0 ≤ℤ c → d <ℤ pos 0 → 0 < y → Greater ≡ int_cmp (c *ℤ pos x) (d *ℤ pos y)
mixed-greater c d x y whole negative some = int_cmp_is (c *ℤ pos x) (d *ℤ pos y) Greater (mixed d c y x negative whole some)

-- ---- decimals

negative : (c : ℤ) → int_lt c (pos 0) ≡ true → c <ℤ pos 0
negative c is = grind (arith, ints)

whole : (c : ℤ) → int_lt c (pos 0) ≡ false → pos 0 ≤ℤ c
whole c is = grind (arith, ints)

module _ (x y : Decimal) where
  pub less_decimal : int_lt x.coefficient (pos 0) ≡ true → int_lt y.coefficient (pos 0) ≡ false → Less ≡ compare x y
  unfolding compare
  less_decimal first second =
      mixed-less x.coefficient y.coefficient (10 ^ places x) (10 ^ places y) (negative x.coefficient first) (whole y.coefficient second) (positive (places x))

  pub greater_decimal : int_lt x.coefficient (pos 0) ≡ false → int_lt y.coefficient (pos 0) ≡ true → Greater ≡ compare x y
  unfolding compare
  greater_decimal first second =
      mixed-greater x.coefficient y.coefficient (10 ^ places x) (10 ^ places y) (whole x.coefficient first) (negative y.coefficient second) (positive (places y))

  pub whole_decimals : int_lt x.coefficient (pos 0) ≡ false → int_lt y.coefficient (pos 0) ≡ false → nat_cmp (unsigned_abs x.coefficient * 10 ^ places x) (unsigned_abs y.coefficient * 10 ^ places y) ≡ compare x y
  unfolding compare
  whole_decimals first second =
      both_whole x.coefficient y.coefficient (10 ^ places x) (10 ^ places y) (whole x.coefficient first) (whole y.coefficient second)

  pub negative_decimals : int_lt x.coefficient (pos 0) ≡ true → int_lt y.coefficient (pos 0) ≡ true → nat_cmp (unsigned_abs y.coefficient * 10 ^ places y) (unsigned_abs x.coefficient * 10 ^ places x) ≡ compare x y
  unfolding compare
  negative_decimals first second =
      both_negative x.coefficient y.coefficient (10 ^ places x) (10 ^ places y) (negative x.coefficient first) (negative y.coefficient second)

pub ruleset orders = (less_decimal, greater_decimal, whole_decimals, negative_decimals)
