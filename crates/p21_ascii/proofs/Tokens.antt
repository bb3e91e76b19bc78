-- Tokens that are well spelled are ASCII.
use Rattle.std.proofs.Common.{◌≡◌, ◌<◌, ℕ, ◌^◌, Bool, true, false, not, ◌&&◌, ◌==◌, nat_le, nat_lt, if◌then◌else◌, List, [], ◌∷◌, ◌++◌, length, drop, refl, arith, decimal}
use Rattle.std.proofs.lemmas.Bool.Decides.{nat_tests}
use Rattle.std.proofs.lemmas.Fmt.{IsAscii-decimal}
use Rattle.std.proofs.lemmas.Str.{IsAscii-append}
use Rattle.std.proofs.lemmas.Str.Ascii.{IsAscii-cons, IsAscii-nil}
use Rattle.std.specs.Char.{is_ascii_digit, is_ascii_hexdigit}
use Rattle.std.specs.List.{list_all}
use Rattle.std.specs.Prelude.{slice_index}
use Rattle.std.specs.Str.{IsAscii}
use Rattle.p21_lexemes.specs.Lexical.{greatest, is_binary}
use Rattle.p21_spelling.proofs.Ascii.{all_ascii}
use Rattle.p21_spelling.proofs.Runs.{first_holds, second_holds}
use Rattle.p21_spelling.specs.Tokens.{are_digits, enclosed, is_bits, is_integer, is_name, quoted}
use Rattle.rp_numbers.specs.Spelling.{sign_len}
use Rattle.rp_numbers.specs.Whole.{value}
use Rattle.p21_ascii.proofs.Numbers.{signed_digits_ascii}

-- ---- marks around a text

one_ascii : (b : ℕ) → b < 128 → IsAscii (b ∷ [])
one_ascii b low = IsAscii-cons b [] low IsAscii-nil

pub between_ascii : (a b : ℕ) (t : List ℕ) → a < 128 → b < 128 → IsAscii t → IsAscii (a ∷ (t ++ b ∷ []))
between_ascii a b t first last is = IsAscii-cons a (t ++ b ∷ []) first (IsAscii-append t (b ∷ []) is (one_ascii b last))

pub quoted_ascii : (t : List ℕ) → IsAscii t → IsAscii (quoted t)
quoted_ascii t is = between_ascii 39 39 t (omega arith) (omega arith) is

pub enclosed_ascii : (t : List ℕ) → IsAscii t → IsAscii (enclosed t)
enclosed_ascii t is = between_ascii 40 41 t (omega arith) (omega arith) is

-- ---- numbers

pub integer_ascii : (t : List ℕ) → is_integer t ≡ true → IsAscii t
integer_ascii t is =
    let digits : List ℕ = drop (sign_len t) t in
    signed_digits_ascii t
    (second_holds (nat_lt 0 (length digits)) (list_all is_ascii_digit digits) (first_holds (are_digits digits) (nat_le (value digits) (greatest (slice_index t 0))) is))

name_low : (n : ℕ) → is_name n ≡ true → n < 2 ^ 64
name_low n is = grind (arith, nat_tests)

pub name_ascii : (n : ℕ) → is_name n ≡ true → IsAscii (decimal n)
name_ascii n is = IsAscii-decimal n (name_low n is)

-- ---- binaries

hexadecimal_low : (b : ℕ) → is_ascii_hexdigit b ≡ true → b < 128
hexadecimal_low b is = grind (arith, nat_tests)

none_low : (b : ℕ) → (b == 48) ≡ true → b < 128
none_low b is = grind (arith, nat_tests)

some_low : (b : ℕ) → (nat_le 49 b && nat_le b 51) ≡ true → b < 128
some_low b is = grind (arith, nat_tests)

binary_ascii : (t : List ℕ) → is_binary t ≡ true → IsAscii t
binary_ascii [] is = IsAscii-nil
binary_ascii (b ∷ t) is = by (b == 48) (nat_le 49 b && nat_le b 51) refl refl is
  where
    all : Bool
    all = list_all is_ascii_hexdigit t

    by : (none some : Bool) → (b == 48) ≡ none → (nat_le 49 b && nat_le b 51) ≡ some → (if none then all else if some then nat_lt 0 (length t) && all else false) ≡ true → IsAscii (b ∷ t)
    by true some first others is = IsAscii-cons b t (none_low b first) (all_ascii is_ascii_hexdigit hexadecimal_low t is)
    by false true first others is = IsAscii-cons b t (some_low b others) (all_ascii is_ascii_hexdigit hexadecimal_low t (second_holds (nat_lt 0 (length t)) all is))
    by false false first others is = cc

pub bits_ascii : (t : List ℕ) → is_bits t ≡ true → IsAscii t
bits_ascii t is = binary_ascii t (second_holds (list_all (λ b. not (b == 34)) t) (is_binary t) is)
