-- What is written is read as the same decimal.
use Rattle.std.proofs.Common.{◌≡◌, ◌≢◌, ℕ, zero, suc, ◌+◌, ◌-◌, ◌/◌, ◌%◌, ◌^◌, ◌<◌, ◌≤◌, ℤ, pos, negsuc, ◌≤ℤ◌, Bool, true, false, ◌&&◌, ◌==◌, List, [], ◌∷◌, ◌++◌, length, take, drop, Some, Ok, refl, ap, sym, ◌∙◌, subst, arith, length-append, decimal, nat_lt, nat_le, to_z, of_z}
use mir.Syntax.{w16, w128}
use Rattle.std.specs.Prelude.{unsigned_abs}
use Rattle.std.specs.List.{list_all, prefix_len, suffix_len}
use Rattle.std.specs.Char.{is_ascii_digit}
use Rattle.std.specs.Fmt.{signed_decimal}
use Rattle.std.proofs.lemmas.Bool.Decides.{nat_tests}
use Rattle.std.proofs.lemmas.Int.{ints}
use Rattle.std.proofs.lemmas.Fmt.{decimal_digit, decimal_by_steps_wide, length-decimal-le_wide}
use Rattle.std.proofs.lemmas.List.{reverse-append, append-nil, take_all}
use Rattle.std.proofs.lemmas.List.Folds.{list_all-append}
use Rattle.std.proofs.Math.Seq.{drop-append-add, take-append_seam, get_or-append_seam}
use Rattle.rp_numbers.specs.Whole.{value}
use Rattle.rp_numbers.specs.Decimals.{Decimal, IsNormal, zero_decimal}
use Rattle.rp_numbers.specs.Spelling.{Real, sign_len, is_negative, digits_len, signed, power, real, is_zero, coefficient, exponent, power_value, fits, decimal as decimal_spelled, decimal_of, parse}
use Rattle.rp_numbers.specs.Written as spec
use Rattle.rp_numbers.proofs.Digits.{value_after-append}

-- ---- digits

-- these digits write the number, and end in a zero only where it does
record Writes (n : ℕ) (ds : List ℕ) : Type 0 where
  all : list_all is_ascii_digit ds ≡ true
  is : value ds ≡ n
  some : 0 < length ds
  last : n % 10 ≢ 0 → suffix_len is_zero ds ≡ 0

digit : (d : ℕ) → d < 10 → is_ascii_digit (48 + d) ≡ true
digit d few = grind (arith, nat_tests)

no_zero : (d : ℕ) → d ≢ 0 → is_zero (48 + d) ≡ false
no_zero d some = grind (arith, nat_tests)

one : (n : ℕ) → n < 10 → Writes n ((48 + n) ∷ [])
one n few =
    let same : n % 10 ≡ n = omega arith in
    record {
      all = rw (digit n few) refl;
      is = omega arith;
      some = omega arith;
      last = λ more. rw (no_zero n (λ none. more (same ∙ none))) refl;
    }

more : (n : ℕ) (ds : List ℕ) → 10 ≤ n → Writes (n / 10) ds → Writes n (ds ++ ((48 + n % 10) ∷ []))
more n ds large w =
    let d = 48 + n % 10 in
    let few : n % 10 < 10 = omega arith in
    record {
      all = list_all-append is_ascii_digit ds (d ∷ []) ∙ rw (w.all, digit (n % 10) few) refl;
      is = value_after-append 0 ds (d ∷ []) ∙ omega (arith, w.is);
      some = omega (arith, length-append ds (d ∷ []));
      last = λ more. ap (prefix_len is_zero) (reverse-append ds (d ∷ [])) ∙ rw (no_zero (n % 10) more) refl;
    }

writes : (n : ℕ) → n < 10 ^ 64 → Writes n (decimal n)
writes n small = decimal_by_steps_wide Writes one more n small

first_of_both : (a b : Bool) → (a && b) ≡ true → a ≡ true
first_of_both true b both = refl
first_of_both false b both = both

second_of_both : (a b : Bool) → (a && b) ≡ true → b ≡ true
second_of_both true b both = both
second_of_both false b both = cc

to_point : (ds z : List ℕ) → list_all is_ascii_digit ds ≡ true → digits_len (ds ++ 46 ∷ z) ≡ length ds
to_point [] z all = refl
to_point (d ∷ ds) z all =
    let digit = first_of_both (is_ascii_digit d) (list_all is_ascii_digit ds) all in
    let more = to_point ds z (second_of_both (is_ascii_digit d) (list_all is_ascii_digit ds) all) in
    rw (digit, more) (omega arith)

-- ---- a number with a sign, and what follows it

record Signed (z : ℤ) (w t : List ℕ) : Type 0 where
  digits : drop (sign_len t) t ≡ decimal (unsigned_abs z) ++ w
  is : signed (is_negative t) (unsigned_abs z) ≡ z

no_plus : (d : ℕ) → is_ascii_digit d ≡ true → (d == 43) ≡ false
no_plus d digit = grind (arith, nat_tests)

no_minus : (d : ℕ) → is_ascii_digit d ≡ true → (d == 45) ≡ false
no_minus d digit = grind (arith, nat_tests)

unsigned : (ds w : List ℕ) → list_all is_ascii_digit ds ≡ true → 0 < length ds → (sign_len (ds ++ w) ≡ 0) × (is_negative (ds ++ w) ≡ false)
unsigned [] w all some = absurd (omega arith)
unsigned (d ∷ ds) w all some =
    let digit = first_of_both (is_ascii_digit d) (list_all is_ascii_digit ds) all in
    (rw (no_plus d digit, no_minus d digit) refl, no_minus d digit)

whole_with : (n : ℕ) (w t : List ℕ) → t ≡ decimal n ++ w → sign_len t ≡ 0 → is_negative t ≡ false → Signed (pos n) w t
whole_with n w t is none sign = record {
  digits = ap (λ k. drop k t) none ∙ is;
  is = ap (λ b. signed b n) sign;
}

signed_with : (z : ℤ) (w : List ℕ) → unsigned_abs z < 10 ^ 64 → Signed z w (signed_decimal z ++ w)
signed_with (pos n) w small =
    let by = writes n small in
    let none = unsigned (decimal n) w by.all by.some in
    whole_with n w (decimal n ++ w) refl none.0 none.1
signed_with (negsuc n) w small = record { digits = refl; is = refl }

signed_alone : (z : ℤ) → unsigned_abs z < 10 ^ 64 → Signed z [] (signed_decimal z)
signed_alone z small = subst (Signed z []) (append-nil (signed_decimal z)) (signed_with z [] small)

-- ---- the exponent

record Power (e : ℤ) (p q : List ℕ) : Type 0 where
  read : power p ≡ Some q
  is : power_value q ≡ e
  apart : digits_len p ≡ 0

power_with : (e : ℤ) (s : List ℕ) → unsigned_abs e < 10 ^ 64 → Signed e [] s → Power e (69 ∷ s) s
power_with e s small by =
    let w = writes (unsigned_abs e) small in
    let digits : drop (sign_len s) s ≡ decimal (unsigned_abs e) = by.digits ∙ append-nil (decimal (unsigned_abs e)) in
    let some : nat_lt 0 (length (decimal (unsigned_abs e))) ≡ true = let some = w.some in grind (arith, nat_tests) in
    record {
      read = rw (digits, some, w.all) refl;
      is = ap (λ ds. signed (is_negative s) (value ds)) digits ∙ ap (signed (is_negative s)) w.is ∙ by.is;
      apart = refl;
    }

rest_of : ℤ → List ℕ
rest_of (pos zero) = []
rest_of e = signed_decimal e

power_again : (e : ℤ) → unsigned_abs e < 10 ^ 64 → Power e (spec.power e) (rest_of e)
unfolding rest_of
power_again (pos zero) small = record { read = refl; is = refl; apart = refl }
power_again (pos (suc n)) small = power_with (pos (suc n)) (decimal (suc n)) small (signed_alone (pos (suc n)) small)
power_again (negsuc n) small = power_with (negsuc n) (45 ∷ decimal (suc n)) small (signed_alone (negsuc n) small)

-- ---- the parts, and their value

real_again : (z ds p q : List ℕ) → drop (sign_len z) z ≡ ds ++ 46 ∷ p → list_all is_ascii_digit ds ≡ true → 0 < length ds → digits_len p ≡ 0 → power p ≡ Some q → real z ≡ Some (record { is_negative = is_negative z; whole = ds; fraction = []; power = q })
unfolding real
real_again z ds p q split all some apart read =
    let more : nat_lt 0 (length ds) ≡ true = grind (arith, nat_tests) in
    rw (split, to_point ds p all, more, get_or-append_seam ds 46 p 0, drop-append-add ds (46 ∷ p) 1, take-append_seam ds (46 ∷ p), apart, read) refl

coefficient_again : (b : Bool) (n : ℕ) (ds q : List ℕ) → Writes n ds → n % 10 ≢ 0 → (suffix_len is_zero (ds ++ []) ≡ 0) × (coefficient (record { is_negative = b; whole = ds; fraction = []; power = q }) ≡ n)
unfolding coefficient
coefficient_again b n ds q w last =
    let alone = append-nil ds in
    let zeros : suffix_len is_zero (ds ++ []) ≡ 0 = ap (suffix_len is_zero) alone ∙ w.last last in
    let whole : take (length (ds ++ []) - 0) (ds ++ []) ≡ ds ++ [] = take_all (length (ds ++ []) - 0) (ds ++ []) (omega arith) in
    (zeros, ap (λ z. value (take (length (ds ++ []) - z) (ds ++ []))) zeros ∙ ap value (whole ∙ alone) ∙ w.is)

exponent_again : (e : ℤ) (r : Real) → power_value r.power ≡ e → length r.fraction ≡ 0 → suffix_len is_zero (r.whole ++ r.fraction) ≡ 0 → exponent r ≡ e
unfolding exponent
exponent_again e r power none zeros =
    rw (power, none, zeros) (omega (arith, ints))

decimal_again : (r : Real) (x : Decimal) (n : ℕ) → IsNormal x → coefficient r ≡ n → exponent r ≡ x.exponent → n ≡ unsigned_abs x.coefficient → n % 10 ≢ 0 → signed r.is_negative n ≡ x.coefficient → decimal_spelled r ≡ Ok x
unfolding decimal_spelled
decimal_again r x n normal coefficient exponent size last sign =
    let few : nat_le (10 ^ 36) n ≡ false = grind (arith, nat_tests, normal.0) in
    let some : (n == 0) ≡ false = grind (arith, nat_tests) in
    let near : fits x.exponent ≡ true = grind (arith, ints, normal.1, normal.2) in
    rw (coefficient, few, some, exponent, near) (ap (λ c. Ok (record { coefficient = c; exponent = x.exponent })) sign)

-- ---- the whole

text : ℤ → ℤ → List ℕ
text c e = signed_decimal c ++ 46 ∷ spec.power e

many : (n : ℕ) → n < 10 ^ 36 → n < 10 ^ 64
many n few = omega arith

short : (e : ℤ) → negsuc 999 ≤ℤ e → e ≤ℤ pos 1000 → unsigned_abs e < 10 ^ 4
short (pos n) low high = omega (arith, ints)
short (negsuc n) low high = omega (arith, ints)

some_again : (x : Decimal) → IsNormal x → unsigned_abs x.coefficient % 10 ≢ 0 → parse (text x.coefficient x.exponent) ≡ Ok x
unfolding parse text
some_again x normal last =
    let c = x.coefficient in
    let n = unsigned_abs c in
    let w = writes n (many n normal.0) in
    let e = power_again x.exponent (let few = short x.exponent normal.1 normal.2 in omega arith) in
    let front = signed_with c (46 ∷ spec.power x.exponent) (many n normal.0) in
    let z = signed_decimal c ++ 46 ∷ spec.power x.exponent in
    let r : Real = record { is_negative = is_negative z; whole = decimal n; fraction = []; power = rest_of x.exponent } in
    let value = coefficient_again (is_negative z) n (decimal n) (rest_of x.exponent) w last in
    ap decimal_of (real_again z (decimal n) (spec.power x.exponent) (rest_of x.exponent) front.digits w.all w.some e.apart e.read)
    ∙ decimal_again r x n normal value.1 (exponent_again x.exponent r e.is refl value.0) refl last front.is

zero_again : parse (text (pos 0) (pos 0)) ≡ Ok zero_decimal
unfolding parse real decimal_spelled coefficient text
zero_again = rw (decimal_digit 0 (omega arith)) refl

by_last : (x : Decimal) (t : Bool) → (unsigned_abs x.coefficient % 10 == 0) ≡ t → IsNormal x → parse (text x.coefficient x.exponent) ≡ Ok x
by_last x true ends normal =
    let zero : unsigned_abs x.coefficient % 10 ≡ 0 = grind (arith, nat_tests) in
    subst (λ (y : Decimal). parse (text y.coefficient y.exponent) ≡ Ok y) (sym (normal.3 zero)) zero_again
by_last x false ends normal = some_again x normal (λ zero. let same : (unsigned_abs x.coefficient % 10 == 0) ≡ true = grind (arith, nat_tests) in cc)

pub read_again : (x : Decimal) → IsNormal x → parse (spec.written x) ≡ Ok x
unfolding text spec.written
read_again x normal = by_last x (unsigned_abs x.coefficient % 10 == 0) refl normal

pub length-signed : (k : ℕ) (z : ℤ) → 0 < k → unsigned_abs z < 10 ^ k → unsigned_abs z < 10 ^ 64 → length (signed_decimal z) ≤ k + 1
length-signed k (pos n) some few small = let short = length-decimal-le_wide k n some few small in omega arith
length-signed k (negsuc n) some few small = let short = length-decimal-le_wide k (suc n) some few small in omega arith

pub length-coefficient : (x : Decimal) → IsNormal x → length (signed_decimal x.coefficient) ≤ 37
length-coefficient x normal = length-signed 36 x.coefficient (omega arith) normal.0 (many (unsigned_abs x.coefficient) normal.0)

length-power_of : (e : ℤ) → unsigned_abs e < 10 ^ 4 → length (spec.power e) ≤ 6
length-power_of (pos zero) small = omega arith
length-power_of (pos (suc n)) small = let short = length-signed 4 (pos (suc n)) (omega arith) small (omega arith) in omega arith
length-power_of (negsuc n) small = let short = length-signed 4 (negsuc n) (omega arith) small (omega arith) in omega arith

pub length-power : (x : Decimal) → IsNormal x → length (spec.power x.exponent) ≤ 6
length-power x normal = length-power_of x.exponent (short x.exponent normal.1 normal.2)

-- the code's numbers hold them
pub held-coefficient : (x : Decimal) → IsNormal x → to_z w128 (of_z w128 x.coefficient) ≡ x.coefficient
held-coefficient x normal = omega (arith, ints, normal.0)

pub held-exponent : (x : Decimal) → IsNormal x → to_z w16 (of_z w16 x.exponent) ≡ x.exponent
held-exponent x normal = omega (arith, ints, normal.1, normal.2)

pub ruleset rereading = (read_again)
