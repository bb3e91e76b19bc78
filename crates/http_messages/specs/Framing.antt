-- How long a body is.
use Rattle.std.specs.Prelude.{ℕ, ◌+◌, ◌-◌, ◌*◌, ◌&&◌, ◌==◌, List, [], ◌∷◌, Bool, length, map, codes, nat_le, nat_lt, if◌then◌else◌, Option, Some, None, unwrap_or, option_map}
use Rattle.std.specs.List.{list_any}
use Rattle.std.specs.Char.{to_ascii_lowercase}
use Rattle.std.specs.Str.{bytes_eq}
use Rattle.http_messages.specs.declared.framing.Framing.{Framing}
use Rattle.http_messages.specs.declared.framing.Framing.TheVariants.{Sized, BadLength, Coded}

-- a name, with no regard to case
abbrev pub is_named : List ℕ → List ℕ → Bool
is_named name other = bytes_eq (map to_ascii_lowercase name) other

-- the number that these digits go on to, and none where a byte is no digit
abbrev pub number_from : ℕ → List ℕ → Option ℕ
number_from n [] = Some n
number_from n (b ∷ bs) = if nat_le 48 b && nat_le b 57 then number_from (n * 10 + (b - 48)) bs else None

-- 1 to 18 digits
abbrev pub length_value : List ℕ → Option ℕ
length_value value = if nat_lt 0 (length value) && nat_le (length value) 18 then number_from 0 value else None

-- a length beside the one that was found before, if they agree
abbrev pub joined : Option ℕ → Option ℕ → Option ℕ
joined found None = None
joined None (Some n) = Some n
joined (Some m) (Some n) = if m == n then Some n else None

-- the length after one field, if it is good
abbrev pub stepped : Option ℕ → List ℕ × List ℕ → Option (Option ℕ)
stepped found p = if is_named p.0 (codes "content-length") then option_map Some (joined found (length_value p.1)) else Some found

abbrev pub if_good : Option (Option ℕ) → (Option ℕ → Framing) → Framing
if_good None go_on = BadLength
if_good (Some found) go_on = go_on found

-- the length that the fields give, each as its name and its value
abbrev pub length_from : Option ℕ → List (List ℕ × List ℕ) → Framing
length_from found [] = Sized (unwrap_or found 0)
length_from found (p ∷ ps) = if_good (stepped found p) (λ next. length_from next ps)

abbrev pub framing_of : List (List ℕ × List ℕ) → Framing
framing_of fields = if list_any (λ p. is_named p.0 (codes "transfer-encoding")) fields then Coded else length_from None fields
