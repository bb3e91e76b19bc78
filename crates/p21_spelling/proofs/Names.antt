-- The digits of a name, and the name that they write.
use Rattle.std.proofs.Common.{◌≡◌, ℕ, ◌<◌, ◌≤◌, ◌^◌, true, nat_le, nat_lt, min, ◌∷◌, length, refl, ◌∙◌, ap, rules, arith}
use Rattle.std.proofs.lemmas.Bool.Decides.{nat_tests}
use Rattle.std.proofs.lemmas.Fmt.{digits_decimal, digits_value-decimal, decimal_nonempty}
use Rattle.std.proofs.lemmas.Str.Parse.{IsNumeralModel, IsDigitsTest, FoldsDigits, numerals_by_fold}
use Rattle.std.specs.Char.{is_ascii_digit}
use Rattle.std.specs.List.{list_all}
use Rattle.std.specs.Prelude.{decimal}
use Rattle.p21_lexemes.specs.declared.token.TokenKind.TheVariants as k
use Rattle.rp_numbers.specs.Whole.{value_after, value}
use Rattle.p21_lexemes.specs.Lexical.{max_name}
use Rattle.p21_grammar.specs.Grammar.{number_of}
use Rattle.p21_spelling.specs.Tokens.{are_digits, is_name}
use Rattle.p21_spelling.proofs.Runs.{both_hold, is_within}
use Rattle.p21_spelling.proofs.Fronts.{Stands, stands-name}

digit_tests : IsDigitsTest (λ ds. list_all is_ascii_digit ds ≡ true)
digit_tests = search rules

folds : FoldsDigits value_after
folds = record { empty = λ n. refl; more = λ n c cs digit. ap (λ m. value_after m cs) (omega arith) }

own : IsNumeralModel (λ ds. list_all is_ascii_digit ds ≡ true) value
own = numerals_by_fold (λ ds. list_all is_ascii_digit ds ≡ true) digit_tests value_after folds

at_most : (m n most : ℕ) → m ≡ n → n ≤ most → min m most ≡ n
at_most m n most is small = omega arith

pub small : (n : ℕ) → is_name n ≡ true → n ≤ max_name
small n e = is_within n max_name e

pub value-decimal : (n : ℕ) → n < 2 ^ 64 → value (decimal n) ≡ n
value-decimal n small = digits_value-decimal own n (omega arith)

pub number_of-decimal : (n : ℕ) → n ≤ max_name → number_of (decimal n) ≡ n
number_of-decimal n small = at_most (value (decimal n)) n max_name (value-decimal n (omega arith)) small

some_digits : (m : ℕ) → 0 < m → nat_lt 0 m ≡ true
some_digits m h = grind (arith, nat_tests)

pub are_digits-decimal : (n : ℕ) → n < 2 ^ 64 → are_digits (decimal n) ≡ true
are_digits-decimal n small =
    both_hold (nat_lt 0 (length (decimal n))) (list_all is_ascii_digit (decimal n)) (some_digits (length (decimal n)) (decimal_nonempty n small)) (digits_decimal own n small)

-- `#` and the digits of a name
pub stands-reference : (n : ℕ) → is_name n ≡ true → Stands k.Name (35 ∷ decimal n)
stands-reference n e =
    let fits = small n e in
    stands-name (decimal n) (are_digits-decimal n (omega arith)) (ap (λ m. nat_le m max_name) (value-decimal n (omega arith)) ∙ e)
