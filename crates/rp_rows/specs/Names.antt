-- Names of partners, models and groups.
use Rattle.std.specs.Prelude.{ℕ, Bool, ◌&&◌, ◌||◌, ◌==◌, nat_le, List, length}
use Rattle.std.specs.List.{list_all}
use Rattle.std.specs.Char.{is_ascii_alphanumeric}

-- a letter, a digit, an underscore, a full stop or a hyphen
abbrev pub is_byte_of_name : ℕ → Bool
is_byte_of_name b = is_ascii_alphanumeric b || b == 95 || b == 46 || b == 45

-- 1 to 64 of them
abbrev pub is_name : List ℕ → Bool
is_name text = nat_le 1 (length text) && nat_le (length text) 64 && list_all is_byte_of_name text
