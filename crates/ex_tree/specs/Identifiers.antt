-- Identifiers in upper case (ISO 10303-11:1994, 7.4): a letter, then letters, digits and underscores.
use Rattle.std.specs.Prelude.{ℕ, Bool, false, ◌&&◌, ◌||◌, ◌==◌, List, [], ◌∷◌, take, Option, Some, None, if◌then◌else◌}
use Rattle.std.specs.List.{list_all}
use Rattle.std.specs.Char.{is_ascii_uppercase, is_ascii_digit}
use Rattle.ex_tree.specs.declared.identifier.Spelling.{Spelling}
use Rattle.ex_tree.specs.declared.identifier.Spelling.TheVariants.{Short, Long}

abbrev pub is_identifier_byte : ℕ → Bool
is_identifier_byte b = is_ascii_uppercase b || is_ascii_digit b || b == 95

unfoldable pub is_identifier : List ℕ → Bool
is_identifier [] = false
is_identifier (b ∷ bs) = is_ascii_uppercase b && list_all is_identifier_byte bs

-- a text as the identifier that it is, if it is one
abbrev pub as_identifier : List ℕ → Option (List ℕ)
as_identifier text = if is_identifier text then Some text else None

-- what is kept where an identifier's bytes are
abbrev pub bytes_in : Spelling → List ℕ
bytes_in (Short len bytes) = take len bytes
bytes_in (Long bytes) = bytes.items
