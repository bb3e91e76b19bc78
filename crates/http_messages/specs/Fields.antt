-- What the fields of a head say beside the length of the body.
use Rattle.std.specs.Prelude.{ℕ, ◌==◌, List, [], ◌∷◌, Bool, true, false, not, take, drop, codes, if◌then◌else◌, Option, Some, None, option_and_then, nat_eq}
use Rattle.std.specs.Cmp.Lexicographic.{pointwise}
use Rattle.http_messages.specs.Framing.{is_named}

-- the value of the first field of this name, each field as its name and its value
abbrev pub first_named : List ℕ → List (List ℕ × List ℕ) → Option (List ℕ)
first_named name [] = None
first_named name (p ∷ ps) = if is_named p.0 name then Some p.1 else first_named name ps

-- what follows "Bearer ", exactly so
abbrev pub token_of : List ℕ → Option (List ℕ)
token_of value = if pointwise nat_eq (take 7 value) (codes "Bearer ") then Some (drop 7 value) else None

-- the token of the first Authorization line, if that is a Bearer line
abbrev pub token_in : List (List ℕ × List ℕ) → Option (List ℕ)
token_in fields = option_and_then token_of (first_named (codes "authorization") fields)

-- the value is close, with no regard to case
abbrev pub is_close : List ℕ → Bool
is_close value = is_named value (codes "close")

abbrev pub goes_on : Option (List ℕ) → Bool
goes_on None = true
goes_on (Some value) = not (is_close value)

-- HTTP/1.1, and the first Connection line isn't close
abbrev pub stays_of : ℕ → List (List ℕ × List ℕ) → Bool
stays_of minor fields = if minor == 0 then false else goes_on (first_named (codes "connection") fields)
