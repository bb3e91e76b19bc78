-- Digits and their value.
use Rattle.std.proofs.Common.{◌≡◌, ℕ, suc, ◌+◌, ◌-◌, ◌*◌, ◌≤◌, Bool, true, false, cond, List, [], ◌∷◌, ◌++◌, take, le_refl, le_trans, refl, arith}
use Rattle.std.specs.List.{list_all, prefix_len}
use Rattle.std.specs.Char.{is_ascii_digit}
use Rattle.rp_numbers.specs.Spelling.{digits_len}
use Rattle.rp_numbers.specs.Whole.{value_after}

-- more digits only make the value larger
pub le-value_after : (n : ℕ) (digits : List ℕ) → n ≤ value_after n digits
le-value_after n [] = le_refl n
le-value_after n (digit ∷ digits) =
    let step : n ≤ 10 * n + (digit - 48) = omega arith in
    le_trans step (le-value_after (10 * n + (digit - 48)) digits)

pub ruleset grown = (le-value_after)

pub value_after-append : (n : ℕ) (a b : List ℕ) → value_after n (a ++ b) ≡ value_after (value_after n a) b
value_after-append n [] b = refl
value_after-append n (digit ∷ a) b = value_after-append (10 * n + (digit - 48)) a b

take_more : (p : ℕ → Bool) (b n : ℕ) (z : List ℕ) → p b ≡ true → list_all p (take n z) ≡ true → list_all p (take (1 + n) (b ∷ z)) ≡ true
take_more p b n z passes more =
    let same : 1 + n ≡ suc n = omega arith in
    rw (same, passes) more

in_front : (p : ℕ → Bool) (b : ℕ) (z : List ℕ) (t : Bool) → p b ≡ t → list_all p (take (prefix_len p z) z) ≡ true → list_all p (take (cond t (1 + prefix_len p z) 0) (b ∷ z)) ≡ true
in_front p b z true passes more = take_more p b (prefix_len p z) z passes more
in_front p b z false fails more = refl

-- what passes a test in front of a list passes it
pub all_in_front : (p : ℕ → Bool) (z : List ℕ) → list_all p (take (prefix_len p z) z) ≡ true
all_in_front p [] = refl
all_in_front p (b ∷ z) = in_front p b z (p b) refl (all_in_front p z)

-- the digits in front are digits
pub digits_in_front : (n : ℕ) (z : List ℕ) → n ≡ digits_len z → list_all is_ascii_digit (take n z) ≡ true
digits_in_front n z e = rw e (all_in_front is_ascii_digit z)
