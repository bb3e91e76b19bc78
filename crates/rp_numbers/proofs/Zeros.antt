-- The zeros that end the digits of a real.
use Rattle.std.proofs.Common.{◌≡◌, ℕ, zero, suc, ◌+◌, ◌-◌, ◌*◌, ◌<◌, ◌≤◌, ◌%◌, nat_lt, Bool, true, false, List, [], ◌∷◌, ◌++◌, length, take, get_or, reverse, refl, ap, sym, ◌∙◌, arith, length-append}
use Rattle.std.specs.List.{list_all, prefix_len, suffix_len}
use Rattle.std.specs.Char.{is_ascii_digit}
use Rattle.std.proofs.lemmas.Bool.Decides.{nat_tests}
use Rattle.std.proofs.lemmas.List.{reverse-append, length-reverse, take-append-le, take_all, get_or-reverse, take_more, append-nil}
use Rattle.std.proofs.lemmas.List.Folds.{prefix_len-append, list_all_at, list_all-append}
use Rattle.std.proofs.lemmas.List.Sums.{prefix_len_stops}
use Rattle.std.proofs.Math.Seq.{take-append-add}
use Rattle.rp_numbers.specs.Whole.{value_after, value}
use Rattle.rp_numbers.specs.Spelling.{Real, digits, zeros, is_zero, coefficient}
use Rattle.rp_numbers.proofs.Digits.{value_after-append}

zeros-append : (p : ℕ → Bool) (w f : List ℕ) → suffix_len p (w ++ f) ≡ prefix_len p (reverse f ++ reverse w)
zeros-append p w f = ap (prefix_len p) (reverse-append w f)

-- where nothing but zeros stands behind the point, those before it count too
pub zeros-all : (p : ℕ → Bool) (w f : List ℕ) → suffix_len p f ≡ length f → suffix_len p (w ++ f) ≡ suffix_len p w + suffix_len p f
zeros-all p w f all =
    let split = prefix_len-append p (reverse f) (reverse w) in
    let same = length-reverse f in
    let first = zeros-append p w f in
    grind (arith, nat_tests)

pub zeros-some : (p : ℕ → Bool) (w f : List ℕ) → suffix_len p f < length f → suffix_len p (w ++ f) ≡ suffix_len p f
zeros-some p w f some =
    let split = prefix_len-append p (reverse f) (reverse w) in
    let same = length-reverse f in
    let first = zeros-append p w f in
    grind (arith, nat_tests)

pub ruleset zeros_of = (zeros-all, zeros-some)

take-first : (w f : List ℕ) (m j k : ℕ) → j ≡ 0 → k ≡ length w - m → take k (w ++ f) ≡ take (length w - m) w ++ take j f
take-first w f m j k gone same =
    let few : k ≤ length w = omega arith in
    let nothing : take j f ≡ [] = ap (λ n. take n f) gone in
    rw (nothing, append-nil (take (length w - m) w), take-append-le k w f few) (ap (λ n. take n w) same)

take-second : (w f : List ℕ) (m n k : ℕ) → m ≡ 0 → k ≡ length w + n → take k (w ++ f) ≡ take (length w - m) w ++ take n f
take-second w f m n k none same =
    let whole = take_all (length w - m) w (omega arith) in
    ap (λ k. take k (w ++ f)) same ∙ take-append-add w f n ∙ sym (ap (λ x. x ++ take n f) whole)

take-by : (w f : List ℕ) (m n : ℕ) (t : Bool) → nat_lt n (length f) ≡ t → m ≤ length w → n ≤ length f → (n < length f → m ≡ 0) → take (length (w ++ f) - (m + n)) (w ++ f) ≡ take (length w - m) w ++ take (length f - n) f
take-by w f m n true some lm ln only =
    let few : n < length f = grind (arith, nat_tests) in
    take-second w f m (length f - n) (length (w ++ f) - (m + n)) (only few) (omega (arith, length-append w f, only few))
take-by w f m n false none lm ln only =
    let gone : length f ≤ n = grind (arith, nat_tests) in
    take-first w f m (length f - n) (length (w ++ f) - (m + n)) (omega arith) (omega (arith, length-append w f))

-- what is left of two lists, of which the first loses nothing unless the second is lost
pub take-both : (w f : List ℕ) (m n : ℕ) → m ≤ length w → n ≤ length f → (n < length f → m ≡ 0) → take (length (w ++ f) - (m + n)) (w ++ f) ≡ take (length w - m) w ++ take (length f - n) f
take-both w f m n lm ln only = take-by w f m n (nat_lt n (length f)) refl lm ln only

is_one : (ds : List ℕ) (k : ℕ) (t : Bool) → is_ascii_digit (get_or ds k 0) ≡ t → k < length ds → list_all is_ascii_digit ds ≡ true → is_ascii_digit (get_or ds k 0) ≡ true
is_one ds k true passes within all = passes
is_one ds k false fails within all = let none = list_all_at is_ascii_digit ds k 0 within fails in cc

digit : (d v : ℕ) → is_ascii_digit d ≡ true → is_zero d ≡ false → (10 * v + (d - 48)) % 10 ≡ 0 → 10 * v + (d - 48) ≡ 0
digit d v is some none =
    let low : 48 < d = grind (arith, nat_tests) in
    let high : d ≤ 57 = grind (arith, nat_tests) in
    absurd (omega arith)

last_at : (ds : List ℕ) (n : ℕ) → n ≤ length ds → list_all is_ascii_digit ds ≡ true → (0 < n → is_zero (get_or ds (n - 1) 0) ≡ false) → value (take n ds) % 10 ≡ 0 → value (take n ds) ≡ 0
last_at ds zero within all last none = refl
last_at ds (suc k) within all last none =
    let d = get_or ds k 0 in
    let v = value (take k ds) in
    let below : k < length ds = omega arith in
    let more : k + 1 ≡ suc k = omega arith in
    let cut : take (suc k) ds ≡ take k ds ++ d ∷ [] = ap (λ n. take n ds) (sym more) ∙ take_more ds k 0 below in
    let whole : value (take (suc k) ds) ≡ 10 * v + (d - 48) = ap value cut ∙ value_after-append 0 (take k ds) (d ∷ []) in
    let before : suc k - 1 ≡ k = omega arith in
    let some : is_zero d ≡ false = ap (λ n. is_zero (get_or ds n 0)) (sym before) ∙ last (omega arith) in
    let zero_end : (10 * v + (d - 48)) % 10 ≡ 0 = sym (ap (λ n. n % 10) whole) ∙ none in
    whole ∙ digit d v (is_one ds k (is_ascii_digit d) refl below all) some zero_end

stops : (ds : List ℕ) → 0 < length ds - suffix_len is_zero ds → is_zero (get_or ds (length ds - suffix_len is_zero ds - 1) 0) ≡ false
stops ds some =
    let same = length-reverse ds in
    let end = suffix_len is_zero ds in
    let at = prefix_len_stops is_zero (reverse ds) 0 (omega arith) in
    let back = get_or-reverse ds end 0 (omega arith) in
    let place : length ds - 1 - end ≡ length ds - end - 1 = omega arith in
    ap (λ n. is_zero (get_or ds n 0)) (sym place) ∙ sym (ap is_zero back) ∙ at

-- the number before those zeros ends in none
pub last_digit : (ds : List ℕ) → list_all is_ascii_digit ds ≡ true → value (take (length ds - suffix_len is_zero ds) ds) % 10 ≡ 0 → value (take (length ds - suffix_len is_zero ds) ds) ≡ 0
last_digit ds all none = last_at ds (length ds - suffix_len is_zero ds) (omega arith) all (stops ds) none

pub coefficient-parts : (r : Real) (m n : ℕ) → m + n ≡ zeros r → m ≤ length r.whole → n ≤ length r.fraction → (n < length r.fraction → m ≡ 0) → coefficient r ≡ value_after (value (take (length r.whole - m) r.whole)) (take (length r.fraction - n) r.fraction)
unfolding coefficient
coefficient-parts r m n all before behind only =
    ap (λ z. value (take (length (digits r) - z) (digits r))) (sym all)
    ∙ ap value (take-both r.whole r.fraction m n before behind only)
    ∙ value_after-append 0 (take (length r.whole - m) r.whole) (take (length r.fraction - n) r.fraction)

pub coefficient-last : (r : Real) → list_all is_ascii_digit r.whole ≡ true → list_all is_ascii_digit r.fraction ≡ true → coefficient r % 10 ≡ 0 → coefficient r ≡ 0
unfolding coefficient
coefficient-last r whole fraction none =
    let all : list_all is_ascii_digit (digits r) ≡ true = grind (arith, list_all-append is_ascii_digit r.whole r.fraction) in
    last_digit (digits r) all none
