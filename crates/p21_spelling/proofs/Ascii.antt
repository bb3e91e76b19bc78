-- What is spelled by bytes below 128 is ASCII.
use Rattle.std.proofs.Common.{◌≡◌, ◌<◌, ℕ, Bool, true, List, [], ◌∷◌, IsUtf8, arith}
use Rattle.std.proofs.lemmas.Bool.Decides.{nat_tests}
use Rattle.std.proofs.lemmas.Str.{IsUtf8-from_ascii}
use Rattle.std.proofs.lemmas.Str.Ascii.{IsAscii-cons, IsAscii-nil}
use Rattle.std.specs.List.{list_all}
use Rattle.std.specs.Str.{IsAscii}
use Rattle.p21_lexemes.specs.Lexical.{is_letter}
use Rattle.text_forms.specs.Words.{is_word_byte}
use Rattle.p21_spelling.proofs.Runs.{first_holds, second_holds}
use Rattle.p21_spelling.specs.Tokens.{is_word}

-- a test that no byte passes from 128 on
module _ (test : ℕ → Bool) (low : (b : ℕ) → test b ≡ true → b < 128) where
  pub all_ascii : (t : List ℕ) → list_all test t ≡ true → IsAscii t
  all_ascii [] all = IsAscii-nil
  all_ascii (b ∷ t) all = IsAscii-cons b t (low b (first_holds (test b) (list_all test t) all)) (all_ascii t (second_holds (test b) (list_all test t) all))

letter_low : (b : ℕ) → is_letter b ≡ true → b < 128
letter_low b is = grind (arith, nat_tests)

word_byte_low : (b : ℕ) → is_word_byte b ≡ true → b < 128
word_byte_low b is = grind (arith, nat_tests)

pub word_ascii : (t : List ℕ) → is_word t ≡ true → IsAscii t
word_ascii [] is = IsAscii-nil
word_ascii (b ∷ t) is =
    IsAscii-cons b t (letter_low b (first_holds (is_letter b) (list_all is_word_byte t) is)) (all_ascii is_word_byte word_byte_low t (second_holds (is_letter b) (list_all is_word_byte t) is))

pub word_utf8 : (t : List ℕ) → is_word t ≡ true → IsUtf8 t
word_utf8 t is = IsUtf8-from_ascii t (word_ascii t is)
