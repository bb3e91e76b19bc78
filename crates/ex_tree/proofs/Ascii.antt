-- An identifier is ASCII, and so UTF-8.
use Rattle.std.proofs.Common.{◌≡◌, ◌<◌, ◌&&◌, ℕ, Bool, true, false, List, [], ◌∷◌, refl, arith, IsUtf8}
use Rattle.std.proofs.lemmas.Bool.Decides.{nat_tests}
use Rattle.std.proofs.lemmas.Str.{IsUtf8-nil, IsUtf8-from_ascii}
use Rattle.std.proofs.lemmas.Str.Ascii.{IsAscii-nil, IsAscii-cons}
use Rattle.std.specs.Char.{is_ascii_uppercase}
use Rattle.std.specs.List.{list_all}
use Rattle.std.specs.Str.{IsAscii}
use Rattle.ex_tree.specs.Identifiers.{is_identifier, is_identifier_byte}

letter : (b : ℕ) → is_ascii_uppercase b ≡ true → b < 128
letter b is = grind (arith, nat_tests)

byte : (b : ℕ) → is_identifier_byte b ≡ true → b < 128
byte b is = grind (arith, nat_tests)

first : (a b : Bool) → (a && b) ≡ true → a ≡ true
first true b is = refl
first false b is = is

second : (a b : Bool) → (a && b) ≡ true → b ≡ true
second true b is = is
second false b is = cc

bytes : (bs : List ℕ) → list_all is_identifier_byte bs ≡ true → IsAscii bs
bytes [] are = IsAscii-nil
bytes (b ∷ bs) are =
    IsAscii-cons b bs (byte b (first (is_identifier_byte b) (list_all is_identifier_byte bs) are))
    (bytes bs (second (is_identifier_byte b) (list_all is_identifier_byte bs) are))

pub is_text : (bs : List ℕ) → is_identifier bs ≡ true → IsUtf8 bs
unfolding is_identifier
is_text [] is = IsUtf8-nil
is_text (b ∷ bs) is =
    IsUtf8-from_ascii (b ∷ bs) (IsAscii-cons b bs (letter b (first (is_ascii_uppercase b) (list_all is_identifier_byte bs) is))
    (bytes bs (second (is_ascii_uppercase b) (list_all is_identifier_byte bs) is)))
