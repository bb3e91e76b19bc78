-- What few digits write.
use Rattle.std.proofs.Common.{◌≡◌, ℕ, zero, suc, ◌+◌, ◌-◌, ◌*◌, ◌≤◌, ◌&&◌, Bool, true, false, List, [], ◌∷◌, length, refl, le_refl, le_trans, arith}
use Rattle.std.specs.List.{list_all}
use Rattle.std.specs.Char.{is_ascii_digit}
use Rattle.std.proofs.lemmas.Bool.Decides.{nat_tests}
use Rattle.rp_numbers.specs.Whole.{value_after, value}
use Rattle.p21_lexemes.specs.Lexical.{max_name}

-- the greatest number of k digits more
abbrev pub most_after : ℕ → ℕ → ℕ
most_after zero n = n
most_after (suc k) n = most_after k (10 * n + 9)

le-most_after : (k n : ℕ) → n ≤ most_after k n
le-most_after zero n = le_refl n
le-most_after (suc k) n = let step : n ≤ 10 * n + 9 = omega arith in le_trans step (le-most_after k (10 * n + 9))

digit_below : (b : ℕ) → is_ascii_digit b ≡ true → b ≤ 57
digit_below b e = grind (arith, nat_tests)

one_digit : (k n m b : ℕ) (z : List ℕ) (t : Bool) → is_ascii_digit b ≡ t → t && list_all is_ascii_digit z ≡ true → n ≤ m
    → (list_all is_ascii_digit z ≡ true → 10 * n + (b - 48) ≤ 10 * m + 9 → value_after (10 * n + (b - 48)) z ≤ most_after k (10 * m + 9))
    → value_after n (b ∷ z) ≤ most_after (suc k) m
one_digit k n m b z true e more less then = let digit = digit_below b e in then more (omega arith)
one_digit k n m b z false e more less then = cc

pub value_after-below : (k n m : ℕ) (z : List ℕ) → list_all is_ascii_digit z ≡ true → length z ≤ k → n ≤ m → value_after n z ≤ most_after k m
value_after-below k n m [] all short less = le_trans less (le-most_after k m)
value_after-below zero n m (b ∷ z) all short less = absurd (omega arith)
value_after-below (suc k) n m (b ∷ z) all short less =
    one_digit k n m b z (is_ascii_digit b) refl all less (λ more step. value_after-below k (10 * n + (b - 48)) (10 * m + 9) z more (omega arith) step)

-- 18 digits are a name
pub value_below : (z : List ℕ) → list_all is_ascii_digit z ≡ true → length z ≤ 18 → value z ≤ max_name
value_below z all short = value_after-below 18 0 0 z all short (le_refl 0)

-- two digits write at most 99
pub few_below : (z : List ℕ) → list_all is_ascii_digit z ≡ true → length z ≤ 2 → value z ≤ 99
few_below z all short = value_after-below 2 0 0 z all short (le_refl 0)
