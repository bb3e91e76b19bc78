-- What stands at the front of a text: a blank, a token or a lexical fault.
use Rattle.std.specs.Prelude.{◌≤◌, ℕ, ◌+◌, ◌-◌, ◌*◌, ◌^◌, Bool, true, false, not, ◌&&◌, ◌||◌, ◌==◌, nat_lt, nat_le, if◌then◌else◌, List, [], ◌∷◌, length, take, drop, slice_index, codes, Option, Some, None, option_map, is_ok}
use Rattle.std.specs.List.{prefix_len, list_any, list_all}
use Rattle.std.specs.Char.{is_ascii_digit, is_ascii_hexdigit, is_ascii_alphabetic}
use Rattle.std.specs.Str.{str_eq_ignore_ascii_case}
use Rattle.memchr.specs.Find.{matches, first_of}
use Rattle.text_forms.specs.Words.{is_word_byte}
use Rattle.rp_numbers.specs.Spelling.{sign_len, digits_len, exponent_len, parse}
use Rattle.rp_numbers.specs.Whole.{value}
use Rattle.p21_escapes.specs.declared.fault.StringFault.{StringFault}
use Rattle.p21_escapes.specs.declared.fault.StringFault.TheVariants.{BadEscape, PageUnsupported, BadCode, NotUtf8}
use Rattle.p21_escapes.specs.Decoding as strings
use Rattle.p21_lexemes.specs.declared.token.TokenKind.TheVariants.{Word, FileStart, FileEnd, Integer, Real, Text, Name, Item, Binary, Open, Close, Comma, Equals, Semicolon, Dollar, Star}
use Rattle.p21_tree.specs.declared.fault.FaultKind.{FaultKind}
use Rattle.p21_tree.specs.declared.fault.FaultKind.TheVariants as fault
pub use Rattle.p21_tree.specs.Names.{max_name}
use Rattle.p21_lexemes.specs.declared.front.Start.{Start}
use Rattle.p21_lexemes.specs.declared.front.Start.TheVariants.{Blank, Token, Fault}

-- what stands in front takes a byte at least, and no more than there are
abbrev pub Fits : Start → ℕ → Type 0
Fits (Blank n) len = (1 ≤ n) × (n ≤ len)
Fits (Token kind n) len = (1 ≤ n) × (n ≤ len)
Fits (Fault kind) len = Unit {0}

-- ---- words: letters, digits and `_`; and the two marks of a file, which alone have a `-`

abbrev pub is_letter : ℕ → Bool
is_letter b = is_ascii_alphabetic b || b == 95

abbrev pub is_mark_byte : ℕ → Bool
is_mark_byte b = is_word_byte b || b == 45

unfoldable pub word : List ℕ → Start
word z =
    let n = prefix_len is_mark_byte z in
    let text = take n z in
    if str_eq_ignore_ascii_case text (codes "ISO-10303-21") then Token FileStart n
    else if str_eq_ignore_ascii_case text (codes "END-ISO-10303-21") then Token FileEnd n
    else if list_any (λ b. b == 45) text then Fault fault.Token
    else Token Word n

-- ---- numbers: a sign, digits, and in a real a point, digits and an exponent

abbrev pub is_sign : ℕ → Bool
is_sign b = b == 43 || b == 45

-- the greatest magnitude of 64 bits under this sign
abbrev pub greatest : ℕ → ℕ
greatest sign = if sign == 45 then 2 ^ 63 else 2 ^ 63 - 1

-- a real of n bytes, which has to spell a decimal
abbrev pub real : ℕ → List ℕ → Start
real n z = if is_ok (parse (take n z)) then Token Real n else Fault fault.Number

unfoldable pub number : List ℕ → Start
number z =
    let sign = sign_len z in
    let whole = digits_len (drop sign z) in
    let end = sign + whole in
    if whole == 0 then Fault fault.Token
    else if slice_index z end == 46 then (
    let point = end + 1 + digits_len (drop (end + 1) z) in
    real (point + exponent_len (drop point z)) z)
    else if nat_le (value (take whole (drop sign z))) (greatest (slice_index z 0)) then Token Integer end
    else Fault fault.Number

-- `#` and digits
unfoldable pub name : List ℕ → Start
name z =
    let n = digits_len (drop 1 z) in
    if n == 0 then Fault fault.Token
    else if nat_le (value (take n (drop 1 z))) max_name then Token Name (1 + n)
    else Fault fault.Number

-- `.NAME.`
unfoldable pub item : List ℕ → Start
item z =
    let n = prefix_len is_word_byte (drop 1 z) in
    if is_letter (slice_index z 1) && slice_index z (1 + n) == 46 then Token Item (n + 2) else Fault fault.Token

-- ---- quotes and comments

-- the place after the apostrophe that ends a string; a doubled one does not end it
abbrev pub string_end : Bool → ℕ → List ℕ → Option ℕ
string_end is_second at [] = None
string_end true at (b ∷ z) = string_end false (at + 1) z
string_end false at (b ∷ z) =
    if b == 39 && not (slice_index z 0 == 39) then Some (at + 1) else string_end (b == 39) (at + 1) z

abbrev pub kind_of : StringFault → FaultKind
kind_of BadEscape = fault.Escape
kind_of PageUnsupported = fault.Page
kind_of BadCode = fault.Code
kind_of NotUtf8 = fault.Utf8

-- a string of n bytes, which has to spell characters
abbrev pub quoted : ℕ → Option StringFault → Start
quoted n None = Token Text n
quoted n (Some fault) = Fault (kind_of fault)

abbrev pub closed : List ℕ → Option ℕ → Start
closed z None = Fault fault.Open
closed z (Some end) = quoted end (strings.fault (take (end - 2) (drop 1 z)))

unfoldable pub string : List ℕ → Start
string z = closed z (string_end false 1 (drop 1 z))

-- the digit of the unused bits, and hexadecimal digits, of which there is one where a bit is unused
abbrev pub is_binary : List ℕ → Bool
is_binary [] = false
is_binary (unused ∷ digits) =
    if unused == 48 then list_all is_ascii_hexdigit digits
    else if nat_le 49 unused && nat_le unused 51 then nat_lt 0 (length digits) && list_all is_ascii_hexdigit digits
    else false

unfoldable pub binary : List ℕ → Start
binary z =
    let n = prefix_len (λ b. not (b == 34)) (drop 1 z) in
    if n == length (drop 1 z) then Fault fault.Open
    else if is_binary (take n (drop 1 z)) then Token Binary (n + 2)
    else Fault fault.Token

-- how many bytes there are up to the first `*/` and with it
abbrev pub comment_len : List ℕ → Option ℕ
comment_len z = option_map (λ place. place + 2) (first_of (matches z (codes "*/") 0))

abbrev pub commented : Option ℕ → Start
commented None = Fault fault.Open
commented (Some len) = Blank (2 + len)

unfoldable pub slash : List ℕ → Start
slash z = if slice_index z 1 == 42 then commented (comment_len (drop 2 z)) else Fault fault.Token

-- `\N\` and `\F\`
unfoldable pub directive : List ℕ → Start
directive z = if (slice_index z 1 == 78 || slice_index z 1 == 70) && slice_index z 2 == 92 then Blank 3 else Fault fault.Token

-- ---- the front

-- white space and control characters
abbrev pub is_blank : ℕ → Bool
is_blank b = nat_le b 32

abbrev pub single : ℕ → Start
single b =
    if b == 40 then Token Open 1 else if b == 41 then Token Close 1 else if b == 44 then Token Comma 1
    else if b == 61 then Token Equals 1 else if b == 59 then Token Semicolon 1 else if b == 36 then Token Dollar 1
    else if b == 42 then Token Star 1 else Fault fault.Token

unfoldable pub punctuation : List ℕ → Start
punctuation z =
    let b = slice_index z 0 in
    if b == 39 then string z else if b == 35 then name z else if b == 46 then item z else if b == 34 then binary z
    else if b == 47 then slash z else if b == 92 then directive z else single b

-- what a text that is not empty begins with
unfoldable pub front : List ℕ → Start
front z =
    let b = slice_index z 0 in
    if nat_le b 32 then Blank 1
    else if is_letter b then word z
    else if is_sign b || is_ascii_digit b then number z
    else punctuation z
