-- What stands at the front of a text: a blank or a remark, a token, or a lexical fault (ISO 10303-11:1994, clause 7).
use Rattle.std.specs.Prelude.{◌≤◌, ℕ, ◌+◌, ◌-◌, Bool, true, false, not, ◌&&◌, ◌||◌, ◌==◌, nat_le, if◌then◌else◌, List, [], ◌∷◌, take, drop, slice_index, Option, Some, None, Result, Ok, Err}
use Rattle.std.specs.List.{prefix_len}
use Rattle.std.specs.Char.{is_ascii_digit, is_ascii_alphabetic}
use Rattle.std.specs.Str.{is_utf8}
use Rattle.text_forms.specs.Words.{is_word_byte}
use Rattle.rp_numbers.specs.Whole.{whole_number}
use Rattle.rp_numbers.specs.Spelling.{digits_len, exponent_len, parse}
use Rattle.ex_tree.specs.declared.kind.TokenKind.TheVariants as k
use Rattle.ex_tree.specs.declared.fault.LexFaultKind.TheVariants as fault
use Rattle.ex_lex.specs.declared.front.Start.{Start}
use Rattle.ex_lex.specs.declared.front.Start.TheVariants.{Blank, Token, Fault}
use Rattle.ex_lex.specs.Words.{kind_of}
use Rattle.ex_lex.specs.Symbols.{symbol}
use Rattle.ex_lex.specs.Strings.{string_end, is_encoded}

-- what stands in front takes a byte at least, and no more than there are
abbrev pub Fits : Start → ℕ → Type 0
Fits (Blank n) len = (1 ≤ n) × (n ≤ len)
Fits (Token kind n) len = (1 ≤ n) × (n ≤ len)
Fits (Fault kind) len = Unit {0}

-- ---- words

unfoldable pub word : List ℕ → Start
word z = let n = prefix_len is_word_byte z in Token (kind_of (take n z)) n

-- ---- numbers

abbrev pub integer_by : Option ℕ → ℕ → Start
integer_by None n = Fault fault.TooBig
integer_by (Some value) n = Token k.IntegerLiteral n

abbrev pub real_by : {D F : Type 0} → Result D F → ℕ → Start
real_by (Err refusal) n = Fault fault.TooBig
real_by (Ok value) n = Token k.RealLiteral n

-- digits, and in a real a point, digits and an exponent
unfoldable pub number : List ℕ → Start
number z =
    let whole = digits_len z in
    if slice_index z whole == 46 then (
    let point = whole + 1 + digits_len (drop (whole + 1) z) in
    let end = point + exponent_len (drop point z) in
    real_by (parse (take end z)) end)
    else integer_by (whole_number (take whole z)) whole

-- ---- strings

abbrev pub simple_by : Option ℕ → List ℕ → Start
simple_by None z = Fault fault.OpenString
simple_by (Some end) z = if is_utf8 (take end z) then Token k.SimpleStringLiteral end else Fault fault.Token

unfoldable pub simple_string : List ℕ → Start
simple_string z = simple_by (string_end false 1 (drop 1 z)) z

-- neither a double quote nor the end of a line
abbrev pub is_inside : ℕ → Bool
is_inside b = not (b == 34 || b == 10)

unfoldable pub encoded_string : List ℕ → Start
encoded_string z =
    let n = prefix_len is_inside (drop 1 z) in
    if not (slice_index z (1 + n) == 34) then Fault fault.OpenString
    else if is_encoded (take n (drop 1 z)) then Token k.EncodedStringLiteral (n + 2)
    else Fault fault.BadEncoded

abbrev pub is_bit : ℕ → Bool
is_bit b = b == 48 || b == 49

unfoldable pub binary : List ℕ → Start
binary z = let n = prefix_len is_bit (drop 1 z) in if n == 0 then Fault fault.Token else Token k.BinaryLiteral (1 + n)

-- ---- remarks

-- up to the end of the line
unfoldable pub tail_remark : List ℕ → Start
tail_remark z = Blank (prefix_len (λ b. not (b == 10)) z)

-- The place after the `*)` that closes a remark in which so many others are still to be closed. The second byte of `(*` and
-- of `*)` is of no other.
abbrev pub remark_end : Bool → ℕ → ℕ → List ℕ → Option ℕ
remark_end is_second inner at [] = None
remark_end true inner at (b ∷ z) = remark_end false inner (at + 1) z
remark_end false inner at (b ∷ z) =
    if b == 40 && slice_index z 0 == 42 then remark_end true (inner + 1) (at + 1) z
    else if b == 42 && slice_index z 0 == 41 then (if inner == 0 then Some (at + 2) else remark_end true (inner - 1) (at + 1) z)
    else remark_end false inner (at + 1) z

abbrev pub remark_by : Option ℕ → Start
remark_by None = Fault fault.OpenRemark
remark_by (Some end) = Blank end

unfoldable pub embedded_remark : List ℕ → Start
embedded_remark z = remark_by (remark_end false 0 2 (drop 2 z))

-- ---- the front

unfoldable pub other : List ℕ → Start
other z =
    let b = slice_index z 0 in
    if b == 39 then simple_string z
    else if b == 34 then encoded_string z
    else if b == 37 then binary z
    else if b == 45 && slice_index z 1 == 45 then tail_remark z
    else if b == 40 && slice_index z 1 == 42 then embedded_remark z
    else symbol z

-- what a text that is not empty begins with
unfoldable pub front : List ℕ → Start
front z =
    let b = slice_index z 0 in
    if nat_le b 32 then Blank 1
    else if is_ascii_alphabetic b then word z
    else if is_ascii_digit b then number z
    else other z
