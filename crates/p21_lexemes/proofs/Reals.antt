-- A real of few digits and with no exponent, or one that is near to 0, is within the limits.
use Rattle.std.proofs.Common.{◌≡◌, ◌∙◌, ℕ, pos, zero, suc, ◌+◌, ◌-◌, ◌^◌, ◌<◌, ◌≤◌, ◌+ℤ◌, ◌-ℤ◌, ◌==◌, ◌&&◌, ◌||◌, nat_lt, nat_le, Bool, true, false, cond, if◌then◌else◌, List, [], ◌∷◌, take, drop, length, slice_index, get_or, Some, Result, Ok, Err, refl, sym, ap, subst, le_refl, length-append, arith}
use Rattle.std.specs.Prelude.{is_ok}
use Rattle.std.specs.List.{list_all, prefix_len}
use Rattle.std.specs.Char.{is_ascii_digit}
use Rattle.std.proofs.lemmas.Bool.Decides.{nat_tests}
use Rattle.std.proofs.lemmas.Int.{ints}
use Rattle.std.proofs.lemmas.List.{drop-drop, drop-take, length-take, get_or-take, get_or-drop}
use Rattle.std.proofs.lemmas.List.Folds.{list_all-append}
use Rattle.std.proofs.lemmas.List.Sums.{prefix_len-le-length, suffix_len-le-length}
use Rattle.rp_numbers.specs.declared.decimal.DecimalFault.{DecimalFault}
use Rattle.rp_numbers.specs.declared.decimal.DecimalFault.TheVariants.{TooManyDigits, TooWide}
use Rattle.rp_numbers.specs.Decimals.{Decimal, zero_decimal}
use Rattle.rp_numbers.specs.Whole.{value}
use Rattle.rp_numbers.specs.Spelling as spelling
use Rattle.rp_numbers.specs.Spelling.{Real, digits, zeros, is_zero, coefficient, exponent, fits, decimal, decimal_of, real, parse, digits_len, sign_len}
use Rattle.p21_tree.specs.declared.fault.FaultKind.TheVariants as fault
use Rattle.p21_lexemes.specs.declared.token.TokenKind.TheVariants as token
use Rattle.p21_lexemes.specs.declared.front.Start.TheVariants.{Token, Fault}
use Rattle.p21_lexemes.specs.Lexical as spec
use Rattle.p21_lexemes.specs.Usual.{IsNear}
use Rattle.rp_numbers.proofs.Digits.{digits_in_front}
use Rattle.p21_lexemes.proofs.Digits.{value_after-below}

-- ---- few digits are a decimal

taken : (p : ℕ → Bool) (k b : ℕ) (z : List ℕ) (t : Bool) → p b ≡ t → t && list_all p z ≡ true → (list_all p z ≡ true → list_all p (take k z) ≡ true) → list_all p (take (suc k) (b ∷ z)) ≡ true
taken p k b z true e all more = rw e (more all)
taken p k b z false e all more = cc

all_take : (p : ℕ → Bool) (k : ℕ) (z : List ℕ) → list_all p z ≡ true → list_all p (take k z) ≡ true
all_take p zero z all = refl
all_take p (suc k) [] all = refl
all_take p (suc k) (b ∷ z) all = taken p k b z (p b) refl all (all_take p k z)

few : (z : List ℕ) → list_all is_ascii_digit z ≡ true → length z ≤ 36 → value z < 10 ^ 36
few z all short =
    let below : value z ≤ 10 ^ 36 - 1 = value_after-below 36 0 0 z all short (le_refl 0) in
    omega arith

near : (negative : Bool) (n f ended : ℕ) → n ≤ 99 → f ≤ 36 → ended ≤ 36 → fits (spelling.signed negative n -ℤ pos f +ℤ pos ended) ≡ true
near true n f ended power short few = grind (arith, ints)
near false n f ended power short few = grind (arith, ints)

abbrev choice : Bool → Bool → Bool → Decimal → Result Decimal DecimalFault
choice large none fit d = if large then Err TooManyDigits else if none then Ok zero_decimal else if fit then Ok d else Err TooWide

chosen : (large none fit : Bool) (d : Decimal) → large ≡ false → fit ≡ true → is_ok (choice large none fit d) ≡ true
chosen large true fit d small near = rw small refl
chosen large false fit d small near = rw (small, near) refl

abbrev plain : Bool → List ℕ → List ℕ → List ℕ → Real
plain negative before behind p = record { is_negative = negative; whole = before; fraction = behind; power = p }

-- what the digits of an exponent write
abbrev magnitude : List ℕ → ℕ
magnitude p = value (drop (sign_len p) p)

few_digits : (negative : Bool) (before behind p : List ℕ) → list_all is_ascii_digit before ≡ true → list_all is_ascii_digit behind ≡ true → length before + length behind ≤ 36 → magnitude p ≤ 99
    → is_ok (decimal (plain negative before behind p)) ≡ true
unfolding decimal coefficient exponent
few_digits negative before behind p whole fraction short power =
    let r = plain negative before behind p in
    let both : list_all is_ascii_digit (digits r) ≡ true = grind (arith, list_all-append is_ascii_digit before behind) in
    let long = length-append before behind in
    let ended = suffix_len-le-length is_zero (digits r) in
    let cut = length-take (length (digits r) - zeros r) (digits r) in
    let small : coefficient r < 10 ^ 36 = few (take (length (digits r) - zeros r) (digits r)) (all_take is_ascii_digit (length (digits r) - zeros r) (digits r) both) (omega arith) in
    chosen (nat_le (10 ^ 36) (coefficient r)) (coefficient r == 0) (fits (exponent r)) (record { coefficient = spelling.signed negative (coefficient r); exponent = exponent r }) (grind (arith, nat_tests))
    (near (spelling.is_negative p) (magnitude p) (length behind) (zeros r) power (omega arith) (omega arith))

-- ---- what is cut from a text has the same parts

longer : (p : ℕ → Bool) (n b : ℕ) (z : List ℕ) (t : Bool) → p b ≡ t → cond t (1 + prefix_len p z) 0 ≤ suc n → (prefix_len p z ≤ n → prefix_len p (take n z) ≡ prefix_len p z)
    → prefix_len p (take (suc n) (b ∷ z)) ≡ prefix_len p (b ∷ z)
longer p n b z true e within more = rw e (ap (λ k. 1 + k) (more (omega arith)))
longer p n b z false e within more = rw e refl

len_take : (p : ℕ → Bool) (n : ℕ) (z : List ℕ) → prefix_len p z ≤ n → prefix_len p (take n z) ≡ prefix_len p z
len_take p zero [] within = refl
len_take p (suc n) [] within = refl
len_take p zero (b ∷ z) within = omega arith
len_take p (suc n) (b ∷ z) within = longer p n b z (p b) refl within (len_take p n z)

shaped : (t u b e p : List ℕ) (w f : ℕ) → drop (sign_len t) t ≡ u → digits_len u ≡ w → 0 < w → slice_index u w ≡ 46 → drop (w + 1) u ≡ b → digits_len b ≡ f → drop f b ≡ e → spelling.power e ≡ Some p
    → real t ≡ Some (plain (spelling.is_negative t) (take w u) (take f b) p)
unfolding real
shaped t u b e p w f unsigned whole some point behind fraction ends power =
    let more : nat_lt 0 w ≡ true = grind (arith, nat_tests) in
    rw (unsigned, whole, more, point, behind, fraction, ends, power) refl

shape_is_ok : (t u b e p : List ℕ) (w f : ℕ) → drop (sign_len t) t ≡ u → digits_len u ≡ w → 0 < w → slice_index u w ≡ 46 → drop (w + 1) u ≡ b → digits_len b ≡ f → drop f b ≡ e → spelling.power e ≡ Some p → w + f ≤ 36 → magnitude p ≤ 99
    → is_ok (parse t) ≡ true
unfolding parse
shape_is_ok t u b e p w f unsigned whole some point behind fraction ends power short near =
    let cut_whole = length-take w u in
    let cut_fraction = length-take f b in
    ap (λ r. is_ok (decimal_of r)) (shaped t u b e p w f unsigned whole some point behind fraction ends power)
    ∙ few_digits (spelling.is_negative t) (take w u) (take f b) p (digits_in_front w u (sym whole)) (digits_in_front f b (sym fraction)) (omega arith) near

same_sign : (n : ℕ) (z : List ℕ) → 0 < n → sign_len (take n z) ≡ sign_len z
same_sign n z some = ap (λ b. if spec.is_sign b then 1 else 0) (get_or-take n z 0 0 some)

cut_is_ok : (z p : List ℕ) (s w f k : ℕ) → s ≡ sign_len z → w ≡ digits_len (drop s z) → 0 < w → slice_index z (s + w) ≡ 46 → f ≡ digits_len (drop (w + 1) (drop s z)) → w + f ≤ 36
    → spelling.power (take k (drop f (drop (w + 1) (drop s z)))) ≡ Some p → magnitude p ≤ 99 → is_ok (parse (take (s + (w + 1 + (f + k))) z)) ≡ true
cut_is_ok z p s w f k signed whole some point fraction short power near =
    let n = w + 1 + (f + k) in
    let t = take (s + n) z in
    let u = drop s z in
    let b = drop (w + 1) u in
    let unsigned : drop (sign_len t) t ≡ take n u =
    ap (λ n. drop n t) (same_sign (s + n) z (omega arith) ∙ sym signed) ∙ drop-take s n z in
    let fits_whole : digits_len u ≤ n = omega arith in
    let fits_fraction : digits_len b ≤ f + k = omega arith in
    let at : get_or (take n u) w 0 ≡ 46 = get_or-take n u w 0 (omega arith) ∙ get_or-drop s z w 0 ∙ point in
    shape_is_ok t (take n u) (take (f + k) b) (take k (drop f b)) p w f unsigned (len_take is_ascii_digit n u fits_whole ∙ sym whole) some at
    (drop-take (w + 1) (f + k) u) (len_take is_ascii_digit (f + k) b fits_fraction ∙ sym fraction) (drop-take f k b) power short near

end_is_ok : (z p : List ℕ) (end k len : ℕ) → 0 < digits_len (drop (sign_len z) z) → end ≡ sign_len z + digits_len (drop (sign_len z) z) → slice_index z end ≡ 46 → len ≡ end + 1 + digits_len (drop (end + 1) z) → len ≤ 37
    → spelling.power (take k (drop len z)) ≡ Some p → magnitude p ≤ 99 → is_ok (parse (take (len + k) z)) ≡ true
end_is_ok z p end k len some ends point whole short power near =
    let s = sign_len z in
    let w = digits_len (drop s z) in
    let next : s + (w + 1) ≡ end + 1 = omega arith in
    let behind : drop (w + 1) (drop s z) ≡ drop (end + 1) z = drop-drop (w + 1) s z ∙ ap (λ n. drop n z) next in
    let fraction : digits_len (drop (end + 1) z) ≡ digits_len (drop (w + 1) (drop s z)) = ap digits_len (sym behind) in
    let f = digits_len (drop (w + 1) (drop s z)) in
    let same : len + k ≡ s + (w + 1 + (f + k)) = omega arith in
    let there : end + 1 + f ≡ len = omega arith in
    let rest : drop f (drop (w + 1) (drop s z)) ≡ drop len z = ap (drop f) behind ∙ drop-drop f (end + 1) z ∙ ap (λ n. drop n z) there in
    ap (λ n. is_ok (parse (take n z))) same
    ∙ cut_is_ok z p s w f k refl refl some (ap (slice_index z) (sym ends) ∙ point) refl (omega arith) (ap (λ x. spelling.power (take k x)) rest ∙ power) near

-- ---- the exponent

-- what an exponent in front of a text has behind its letter
abbrev Powers : List ℕ → ℕ → Type 0
Powers x k = (p : List ℕ) × (spelling.power (take k x) ≡ Some p) × (magnitude p ≤ 99)

no_power : (x : List ℕ) (k : ℕ) → k ≡ 0 → Powers x k
no_power x k none = rw none ([], refl, omega arith)

some_power : (b : ℕ) (y : List ℕ) (s d k : ℕ) → k ≡ 1 + s + d → s ≡ sign_len y → d ≡ digits_len (drop s y) → 0 < d → (b == 69 || b == 101) ≡ true → value (take d (drop s y)) ≤ 99 → Powers (b ∷ y) k
some_power b y s d k long signed digits some letter near =
    let z = take (s + d) y in
    let more : k ≡ suc (s + d) = omega arith in
    let sign : sign_len z ≡ s = same_sign (s + d) y (omega arith) ∙ sym signed in
    let all : drop (sign_len z) z ≡ take d (drop s y) = ap (λ n. drop n z) sign ∙ drop-take s d y in
    let fits : d ≤ length (drop s y) = omega (arith, prefix_len-le-length is_ascii_digit (drop s y)) in
    let count : length (take d (drop s y)) ≡ d = omega (arith, length-take d (drop s y)) in
    let are : list_all is_ascii_digit (take d (drop s y)) ≡ true = digits_in_front d (drop s y) digits in
    let least : nat_lt 0 d ≡ true = grind (arith, nat_tests) in
    rw more (z, rw (letter, all, count, least, are) refl, rw all near)

power_by : (b : ℕ) (y : List ℕ) (k : ℕ) (letter some : Bool) → (b == 69 || b == 101) ≡ letter → nat_lt 0 (digits_len (drop (sign_len y) y)) ≡ some
    → k ≡ (if letter && some then 1 + sign_len y + digits_len (drop (sign_len y) y) else 0) → (0 < k → value (take (digits_len (drop (sign_len y) y)) (drop (sign_len y) y)) ≤ 99) → Powers (b ∷ y) k
power_by b y k true true letter some same near =
    let s = sign_len y in
    let d = digits_len (drop s y) in
    let least : 0 < d = grind (arith, nat_tests) in
    some_power b y s d k same refl refl least letter (near (omega arith))
power_by b y k true false letter some same near = no_power (b ∷ y) k same
power_by b y k false some letter e same near = no_power (b ∷ y) k same

behind_letter : (b s : ℕ) (y : List ℕ) → drop (1 + s) (b ∷ y) ≡ drop s y
behind_letter b s y = let more : 1 + s ≡ suc s = omega arith in ap (λ n. drop n (b ∷ y)) more

powers : (x : List ℕ) (k : ℕ) → IsNear x k → Powers x k
powers [] k power = no_power [] k power.same
powers (b ∷ y) k power =
    let rest = behind_letter b (sign_len y) y in
    power_by b y k (b == 69 || b == 101) (nat_lt 0 (digits_len (drop (sign_len y) y))) refl refl
    (power.same ∙ ap (λ u. if (b == 69 || b == 101) && nat_lt 0 (digits_len u) then 1 + sign_len y + digits_len u else 0) rest)
    (λ some. subst (λ u. value (take (digits_len u) u) ≤ 99) rest (power.near some))

-- a real with its point at `end`, and an exponent or none
pub real_len : (z : List ℕ) (end fraction power : ℕ) → fraction ≡ digits_len (drop (end + 1) z) → power ≡ spelling.exponent_len (drop (end + 1 + fraction) z)
    → spec.real (end + 1 + fraction + power) z ≡ spec.real (end + 1 + digits_len (drop (end + 1) z) + spelling.exponent_len (drop (end + 1 + digits_len (drop (end + 1) z)) z)) z
real_len z end fraction power f e =
    subst (λ n. spec.real (end + 1 + fraction + power) z ≡ spec.real (end + 1 + n + spelling.exponent_len (drop (end + 1 + n) z)) z) f
    (ap (λ n. spec.real (end + 1 + fraction + n) z) e)

-- the same with few digits and an exponent that is near
pub near_real : (z : List ℕ) (end fraction power : ℕ) → 0 < digits_len (drop (sign_len z) z) → end ≡ sign_len z + digits_len (drop (sign_len z) z) → slice_index z end ≡ 46 → fraction ≡ digits_len (drop (end + 1) z)
    → end + 1 + fraction ≤ 37 → IsNear (drop (end + 1 + fraction) z) power → spec.real (end + 1 + fraction + power) z ≡ Token token.Real (end + 1 + fraction + power)
near_real z end fraction power some ends point f short near =
    let len = end + 1 + fraction in
    let p = powers (drop len z) power near in
    let ok = end_is_ok z p.0 end power len some ends point (ap (λ n. end + 1 + n) f) short p.1 p.2 in
    ap (λ b. if b then Token token.Real (len + power) else Fault fault.Number) ok
