-- String and binary literals (ISO 10303-11:1994, 7.5.1 and 7.5.4).
use Rattle.std.specs.Prelude.{ℕ, ◌+◌, Bool, true, false, not, ◌&&◌, ◌||◌, ◌==◌, nat_lt, nat_le, if◌then◌else◌, List, [], ◌∷◌, length, slice_index, Option, Some, None, option_map}
use Rattle.std.specs.Option.{is_some}
use Rattle.std.specs.List.{list_all}
use Rattle.std.specs.Char.{is_ascii_hexdigit}
use Rattle.std.specs.Str.Parse.{digits_value}

-- The place after the apostrophe that ends a string; a doubled one does not end it. There is none where the line ends first.
abbrev pub string_end : Bool → ℕ → List ℕ → Option ℕ
string_end is_second at [] = None
string_end true at (b ∷ z) = string_end false (at + 1) z
string_end false at (b ∷ z) =
    if b == 10 then None
    else if b == 39 && not (slice_index z 0 == 39) then Some (at + 1)
    else string_end (b == 39) (at + 1) z

-- a code of a character: no surrogate, and not too great
abbrev pub is_code : ℕ → Bool
is_code c = nat_lt c 0xD800 || (nat_le 0xE000 c && nat_le c 0x10FFFF)

-- the character of which eight hexadecimal digits write the code
unfoldable pub character : List ℕ → Option ℕ
character digits =
    if length digits == 8 && list_all is_ascii_hexdigit digits && is_code (digits_value 16 digits)
    then Some (digits_value 16 digits)
    else None

abbrev pub before : Option ℕ → Option (List ℕ) → Option (List ℕ)
before None others = None
before (Some c) others = option_map (λ cs. c ∷ cs) others

-- the characters that groups of eight digits write
abbrev pub characters : List ℕ → Option (List ℕ)
characters [] = Some []
characters (a ∷ b ∷ c ∷ d ∷ e ∷ f ∷ g ∷ h ∷ z) = before (character (a ∷ b ∷ c ∷ d ∷ e ∷ f ∷ g ∷ h ∷ [])) (characters z)
characters _ = None

-- what may stand between the double quotes: one group at least
abbrev pub is_encoded : List ℕ → Bool
is_encoded inside = nat_lt 0 (length inside) && is_some (characters inside)
