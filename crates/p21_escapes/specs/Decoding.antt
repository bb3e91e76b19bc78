-- What the bytes between the apostrophes of a string spell (ISO 10303-21, 6.4.3).
use Rattle.std.specs.Prelude.{ℕ, zero, suc, ◌+◌, ◌-◌, ◌*◌, ◌%◌, Bool, not, ◌&&◌, ◌||◌, ◌==◌, nat_le, nat_lt, if◌then◌else◌, List, [], ◌∷◌, ◌++◌, length, take, drop, filter, slice_index, Option, Some, None, Result, Ok, Err}
use Rattle.std.specs.Option.{option_map}
use Rattle.std.specs.Char.{encode_utf8}
use Rattle.std.specs.Str.{is_utf8, continuation_len}
use lib.Utf8.{scalar}
use Rattle.p21_escapes.specs.declared.fault.StringFault.{StringFault}
use Rattle.p21_escapes.specs.declared.fault.StringFault.TheVariants.{BadEscape, PageUnsupported, BadCode, NotUtf8}
use Rattle.p21_escapes.specs.Digits.{is_digit, digit_value, are_four, value_of_four}

-- A number or the like, and the text that was spelled, in UTF-8; or the first fault.
abbrev pub Decoding : Type 0 → Type 0
Decoding A = Result (A × List ℕ) StringFault

abbrev pub appended : {A : Type 0} → List ℕ → Decoding A → Decoding A
appended text (Ok p) = Ok (p.0, text ++ p.1)
appended text (Err fault) = Err fault

-- one after the other
infixl 10 ◌>>=◌
abbrev pub ◌>>=◌ : {A B : Type 0} → Decoding A → (A → Decoding B) → Decoding B
(Ok p) >>= next = appended p.1 (next p.0)
(Err fault) >>= next = Err fault

abbrev pub nothing : Decoding (Unit {0})
nothing = Ok (tt, [])

-- What stands in front is told as the number of bytes that it takes, and what it spells.
abbrev pub Front : Type 0
Front = Decoding ℕ

abbrev pub bad_escape : Front
bad_escape = Err BadEscape

abbrev pub character : ℕ → Decoding (Unit {0})
character code = if scalar code then Ok (tt, encode_utf8 code) else Err BadCode

-- this character, which so many bytes spell
abbrev pub coded : ℕ → ℕ → Front
coded taken code = character code >>= λ _. Ok (taken, [])

-- ---- `\X2\` and `\X4\`: groups of digits up to `\X0\`

abbrev pub is_end : ℕ → ℕ → ℕ → ℕ → Bool
is_end a b c d = a == 92 && b == 88 && c == 48 && d == 92

-- how many groups of four digits there are up to `\X0\`, if nothing else is there
abbrev pub groups : List ℕ → Option ℕ
groups (a ∷ b ∷ c ∷ d ∷ z) = if is_end a b c d then Some 0 else if are_four a b c d then option_map suc (groups z) else None
groups _ = None

abbrev pub is_high : ℕ → Bool
is_high u = nat_le 55296 u && nat_lt u 56320

abbrev pub is_low : ℕ → Bool
is_low u = nat_le 56320 u && nat_lt u 57344

-- A group of four digits, after a high surrogate or after none. A high surrogate waits for the low one.
abbrev pub unit : Option ℕ → ℕ → Decoding (Option ℕ)
unit None u = if is_high u then Ok (Some u, []) else (character u >>= λ _. Ok (None, []))
unit (Some high) u = if is_low u then (character ((high - 55296) * 1024 + (u - 56320) + 65536) >>= λ _. Ok (None, [])) else Err BadCode

abbrev pub ended : Option ℕ → Decoding (Unit {0})
ended None = nothing
ended (Some high) = Err BadCode

-- groups of four digits, as UTF-16
abbrev pub short : Option ℕ → List ℕ → Decoding (Unit {0})
short high (a ∷ b ∷ c ∷ d ∷ z) = unit high (value_of_four a b c d) >>= λ next. short next z
short high _ = ended high

-- groups of eight digits, each a character
abbrev pub long : List ℕ → Decoding (Unit {0})
long (a ∷ b ∷ c ∷ d ∷ e ∷ f ∷ g ∷ h ∷ z) = character (value_of_four a b c d * 65536 + value_of_four e f g h) >>= λ _. long z
long _ = nothing

-- `\X2\` or `\X4\`, some groups and `\X0\`
abbrev pub enclosed : ℕ → (List ℕ → Decoding (Unit {0})) → List ℕ → Front
enclosed n spell z = spell (take (4 * n) z) >>= λ _. Ok (4 * n + 8, [])

abbrev pub short_groups : Option ℕ → List ℕ → Front
short_groups None z = bad_escape
short_groups (Some n) z = if n == 0 then bad_escape else enclosed n (short None) z

abbrev pub long_groups : Option ℕ → List ℕ → Front
long_groups None z = bad_escape
long_groups (Some n) z = if n == 0 || n % 2 == 1 then bad_escape else enclosed n long z

-- ---- escapes: z is the string from the backslash on

-- `\X\hh`
unfoldable pub byte : List ℕ → Front
byte z =
    let high = slice_index z 3 in
    let low = slice_index z 4 in
    if is_digit high && is_digit low then coded 5 (digit_value high * 16 + digit_value low) else bad_escape

unfoldable pub hexadecimal : List ℕ → Front
hexadecimal z =
    if slice_index z 2 == 92 then byte z
    else if slice_index z 2 == 50 && slice_index z 3 == 92 then short_groups (groups (drop 4 z)) (drop 4 z)
    else if slice_index z 2 == 52 && slice_index z 3 == 92 then long_groups (groups (drop 4 z)) (drop 4 z)
    else bad_escape

-- `\S\c`: the upper half of ISO 8859 part 1
unfoldable pub upper_half : List ℕ → Front
upper_half z =
    let c = slice_index z 3 in
    if slice_index z 2 == 92 && nat_le 32 c && nat_le c 126
    then (if c == 39 then (if slice_index z 4 == 39 then coded 5 167 else bad_escape) else coded 4 (c + 128))
    else bad_escape

-- `\PA\` to `\PI\`: of the parts of ISO 8859 only the first
unfoldable pub page : List ℕ → Front
page z =
    let part = slice_index z 2 in
    if slice_index z 3 == 92 && nat_le 65 part && nat_le part 73 then (if part == 65 then Ok (4, []) else Err PageUnsupported)
    else bad_escape

-- `\N\` and `\F\`
unfoldable pub directive : List ℕ → Front
directive z = if slice_index z 2 == 92 then Ok (3, []) else bad_escape

unfoldable pub escape : List ℕ → Front
escape z =
    let letter = slice_index z 1 in
    if letter == 92 then Ok (2, 92 ∷ [])
    else if letter == 88 then hexadecimal z
    else if letter == 83 then upper_half z
    else if letter == 80 then page z
    else if letter == 78 || letter == 70 then directive z
    else bad_escape

-- ---- the whole

-- a character of n bytes in UTF-8
unfoldable pub raw : ℕ → List ℕ → Front
raw n z = if nat_le n (length z) && is_utf8 (take n z) then Ok (n, take n z) else Err NotUtf8

-- what a string that is not empty begins with
unfoldable pub front : List ℕ → Front
front z =
    let b = slice_index z 0 in
    if b == 39 then (if slice_index z 1 == 39 then Ok (2, 39 ∷ []) else bad_escape)
    else if b == 92 then escape z
    else if nat_lt b 128 then Ok (1, b ∷ [])
    else raw (1 + continuation_len b) z

-- a byte that stands for itself
abbrev pub is_bare : ℕ → Bool
is_bare b = nat_lt b 128 && not (b == 39) && not (b == 92)

-- The number counts the bytes left of what stands in front.
abbrev pub spelled_from : ℕ → List ℕ → Decoding (Unit {0})
spelled_from left [] = nothing
spelled_from (suc left) (b ∷ z) = spelled_from left z
spelled_from zero (b ∷ z) = front (b ∷ z) >>= λ n. spelled_from (n - 1) z

unfoldable pub spelled : List ℕ → Decoding (Unit {0})
spelled z = spelled_from 0 z

abbrev pub is_line_end : ℕ → Bool
is_line_end b = b == 10 || b == 13

abbrev pub text_of : Decoding (Unit {0}) → Result (List ℕ) StringFault
text_of (Ok p) = Ok (p.1)
text_of (Err fault) = Err fault

-- what the bytes between the apostrophes spell, in UTF-8; line ends are dropped before anything else, also within an escape
unfoldable pub decoded : List ℕ → Result (List ℕ) StringFault
decoded bytes = text_of (spelled (filter (λ b. not (is_line_end b)) bytes))

abbrev pub fault_of : {A : Type 0} → Result A StringFault → Option StringFault
fault_of (Ok a) = None
fault_of (Err fault) = Some fault

-- the fault of bytes that spell no string
unfoldable pub fault : List ℕ → Option StringFault
fault bytes = fault_of (decoded bytes)
