-- What the tokens of an exchange file are made of (ISO 10303-21, 6: KEYWORD, INTEGER, REAL, STRING, ENUMERATION, BINARY).
use Rattle.std.specs.Prelude.{ℕ, Bool, false, not, ◌&&◌, ◌||◌, ◌==◌, nat_le, nat_lt, List, [], ◌∷◌, ◌++◌, length, drop, slice_index, is_ok}
use Rattle.std.specs.Char.{is_ascii_digit}
use Rattle.std.specs.List.{list_all}
use Rattle.std.specs.Option.{is_none}
use Rattle.p21_escapes.specs.Decoding as strings
use Rattle.p21_escapes.specs.Encoding.{is_paired}
use Rattle.rp_numbers.specs.Whole.{value}
use Rattle.text_forms.specs.Words.{is_word_byte}
use Rattle.p21_lexemes.specs.Lexical.{is_letter, is_binary, greatest, max_name}
use Rattle.rp_numbers.specs.Spelling.{parse, sign_len}

-- one digit or more
abbrev pub are_digits : List ℕ → Bool
are_digits ds = nat_lt 0 (length ds) && list_all is_ascii_digit ds

-- a sign or none, and the digits of a number of 64 bits
abbrev pub is_integer : List ℕ → Bool
is_integer t =
    let digits = drop (sign_len t) t in
    are_digits digits && nat_le (value digits) (greatest (slice_index t 0))

-- what spells a decimal, within the limits of reals
abbrev pub is_real : List ℕ → Bool
is_real t = is_ok (parse t)

-- the number of an instance's name
abbrev pub is_name : ℕ → Bool
is_name n = nat_le n max_name

-- a letter or `_`, then letters, digits and `_`: a keyword, or what stands between the points of an item
abbrev pub is_word : List ℕ → Bool
is_word [] = false
is_word (b ∷ t) = is_letter b && list_all is_word_byte t

-- what stands between the apostrophes of a string: each apostrophe is doubled, and it spells characters
abbrev pub is_string : List ℕ → Bool
is_string t = is_paired false t && is_none (strings.fault t)

-- what stands between the quotes of a binary
abbrev pub is_bits : List ℕ → Bool
is_bits t = list_all (λ b. not (b == 34)) t && is_binary t

-- `'..'`
abbrev pub quoted : List ℕ → List ℕ
quoted t = 39 ∷ (t ++ 39 ∷ [])

-- `(..)`
abbrev pub enclosed : List ℕ → List ℕ
enclosed t = 40 ∷ (t ++ 41 ∷ [])

-- what follows begins with `(`, `)`, `,`, `;` or `=`: a token by itself, with which no token goes on
abbrev pub is_cut : List ℕ → Bool
is_cut [] = false
is_cut (b ∷ z) = b == 40 || b == 41 || b == 44 || b == 59 || b == 61
