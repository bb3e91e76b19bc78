-- What is written of bits is read as these bits, and is well spelled.
use Rattle.std.proofs.Common.{◌≡◌, ℕ, zero, suc, ◌+◌, ◌-◌, ◌%◌, ◌<◌, Bool, true, false, not, ◌&&◌, ◌==◌, nat_lt, List, [], ◌∷◌, ◌++◌, length, drop, refl, ◌∙◌, ap, arith}
use Rattle.std.proofs.Math.Seq.{drop-append_seam}
use Rattle.std.proofs.lemmas.Bool.Decides.{nat_tests}
use Rattle.std.proofs.lemmas.List.{length-append}
use Rattle.std.specs.Char.{is_ascii_hexdigit}
use Rattle.std.specs.List.{flat_map, list_all}
use Rattle.p21_spelling.specs.Tokens.{is_bits}
use Rattle.p21_spelling.proofs.Runs.{both_hold, first_holds, second_holds}
use Rattle.p21_lexemes.specs.Lexical.{is_binary}
use Rattle.p21_values.specs.Tokens.{bits, bits_of_digit}
use Rattle.p21_canonical.specs.Binaries.{binary, digit, digits, unused, unused_of, weighs}

-- a digit of four bits
abbrev of_four : Bool → Bool → Bool → Bool → ℕ
of_four a b c d = digit (weighs 8 a + weighs 4 b + weighs 2 c + weighs 1 d)

four_again : (a b c d : Bool) → bits_of_digit (of_four a b c d) ≡ a ∷ b ∷ c ∷ d ∷ []
four_again true true true true = refl
four_again true true true false = refl
four_again true true false true = refl
four_again true true false false = refl
four_again true false true true = refl
four_again true false true false = refl
four_again true false false true = refl
four_again true false false false = refl
four_again false true true true = refl
four_again false true true false = refl
four_again false true false true = refl
four_again false true false false = refl
four_again false false true true = refl
four_again false false true false = refl
four_again false false false true = refl
four_again false false false false = refl

-- a hexadecimal digit, and no quote
abbrev is_good : ℕ → Bool
is_good b = not (b == 34) && is_ascii_hexdigit b

four_good : (a b c d : Bool) → is_good (of_four a b c d) ≡ true
four_good true true true true = refl
four_good true true true false = refl
four_good true true false true = refl
four_good true true false false = refl
four_good true false true true = refl
four_good true false true false = refl
four_good true false false true = refl
four_good true false false false = refl
four_good false true true true = refl
four_good false true true false = refl
four_good false true false true = refl
four_good false true false false = refl
four_good false false true true = refl
four_good false false true false = refl
four_good false false false true = refl
four_good false false false false = refl

-- whole groups of four
all_again : (bs : List Bool) → length bs % 4 ≡ 0 → flat_map bits_of_digit (digits bs) ≡ bs
all_again [] whole = refl
all_again (a ∷ []) whole = absurd (omega arith)
all_again (a ∷ b ∷ []) whole = absurd (omega arith)
all_again (a ∷ b ∷ c ∷ []) whole = absurd (omega arith)
all_again (a ∷ b ∷ c ∷ d ∷ bs) whole =
    ap (λ l. l ++ flat_map bits_of_digit (digits bs)) (four_again a b c d) ∙ ap (λ l. a ∷ b ∷ c ∷ d ∷ l) (all_again bs (omega arith))

all_good : (bs : List Bool) → list_all is_good (digits bs) ≡ true
all_good [] = refl
all_good (a ∷ []) = refl
all_good (a ∷ b ∷ []) = refl
all_good (a ∷ b ∷ c ∷ []) = refl
all_good (a ∷ b ∷ c ∷ d ∷ bs) = both_hold (is_good (of_four a b c d)) (list_all is_good (digits bs)) (four_good a b c d) (all_good bs)

filled : (r n : ℕ) → r ≡ n % 4 → (length (unused r) + n) % 4 ≡ 0
filled zero n is = omega arith
filled (suc zero) n is = omega arith
filled (suc (suc zero)) n is = omega arith
filled (suc (suc (suc r))) n is = omega arith

whole_groups : (bs : List Bool) → length (unused_of bs ++ bs) % 4 ≡ 0
whole_groups bs = ap (λ n. n % 4) (length-append (unused_of bs) bs) ∙ filled (length bs % 4) (length bs) refl

first_off : (n : ℕ) → 48 + n - 48 ≡ n
first_off n = omega arith

pub bits_again : (bs : List Bool) → bits (binary bs) ≡ bs
unfolding binary
bits_again bs =
    ap (λ n. drop n (flat_map bits_of_digit (digits (unused_of bs ++ bs)))) (first_off (length (unused_of bs)))
    ∙ ap (drop (length (unused_of bs))) (all_again (unused_of bs ++ bs) (whole_groups bs))
    ∙ drop-append_seam (unused_of bs) bs

-- ---- as a token

no_quotes : (l : List ℕ) → list_all is_good l ≡ true → list_all (λ b. not (b == 34)) l ≡ true
no_quotes [] all = refl
no_quotes (b ∷ l) all =
    let this = first_holds (is_good b) (list_all is_good l) all in
    both_hold (not (b == 34)) (list_all (λ b. not (b == 34)) l) (first_holds (not (b == 34)) (is_ascii_hexdigit b) this) (no_quotes l (second_holds (is_good b) (list_all is_good l) all))

all_hex : (l : List ℕ) → list_all is_good l ≡ true → list_all is_ascii_hexdigit l ≡ true
all_hex [] all = refl
all_hex (b ∷ l) all =
    let this = first_holds (is_good b) (list_all is_good l) all in
    both_hold (is_ascii_hexdigit b) (list_all is_ascii_hexdigit l) (second_holds (not (b == 34)) (is_ascii_hexdigit b) this) (all_hex l (second_holds (is_good b) (list_all is_good l) all))

-- some digits behind those bits that stand in front of others
some_digits : (bs : List Bool) → 0 < length bs → length bs % 4 ≡ 0 → 0 < length (digits bs)
some_digits [] some whole = absurd (omega arith)
some_digits (a ∷ []) some whole = absurd (omega arith)
some_digits (a ∷ b ∷ []) some whole = absurd (omega arith)
some_digits (a ∷ b ∷ c ∷ []) some whole = absurd (omega arith)
some_digits (a ∷ b ∷ c ∷ d ∷ bs) some whole = omega arith

few : (r n : ℕ) → r ≡ n % 4 → length (unused r) < 4
few zero n is = omega arith
few (suc zero) n is = omega arith
few (suc (suc zero)) n is = omega arith
few (suc (suc (suc r))) n is = omega arith

is_some : (ds : List ℕ) → 0 < length ds → nat_lt 0 (length ds) ≡ true
is_some ds some = grind (arith, nat_tests)

are_binary : (n : ℕ) (ds : List ℕ) → n < 4 → (0 < n → 0 < length ds) → list_all is_ascii_hexdigit ds ≡ true → is_binary ((48 + n) ∷ ds) ≡ true
are_binary zero ds small some hex = hex
are_binary (suc zero) ds small some hex = both_hold (nat_lt 0 (length ds)) (list_all is_ascii_hexdigit ds) (is_some ds (some (omega arith))) hex
are_binary (suc (suc zero)) ds small some hex = both_hold (nat_lt 0 (length ds)) (list_all is_ascii_hexdigit ds) (is_some ds (some (omega arith))) hex
are_binary (suc (suc (suc zero))) ds small some hex = both_hold (nat_lt 0 (length ds)) (list_all is_ascii_hexdigit ds) (is_some ds (some (omega arith))) hex
are_binary (suc (suc (suc (suc n)))) ds small some hex = absurd (omega arith)

first_no_quote : (n : ℕ) → n < 4 → not (48 + n == 34) ≡ true
first_no_quote n small = grind (arith, nat_tests)

pub bits_spelled : (bs : List Bool) → is_bits (binary bs) ≡ true
unfolding binary
bits_spelled bs =
    let u : ℕ = length (unused_of bs) in
    let ds : List ℕ = digits (unused_of bs ++ bs) in
    let good = all_good (unused_of bs ++ bs) in
    let small = few (length bs % 4) (length bs) refl in
    let long = length-append (unused_of bs) bs in
    let some : 0 < u → 0 < length ds = λ front. some_digits (unused_of bs ++ bs) (omega arith) (whole_groups bs) in
    both_hold (list_all (λ b. not (b == 34)) ((48 + u) ∷ ds)) (is_binary ((48 + u) ∷ ds))
    (both_hold (not (48 + u == 34)) (list_all (λ b. not (b == 34)) ds) (first_no_quote u small) (no_quotes ds good))
    (are_binary u ds small some (all_hex ds good))
