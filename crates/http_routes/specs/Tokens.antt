-- Tokens, and which of them one is.
use Rattle.std.specs.Prelude.{ℕ, ◌+◌, ◌&&◌, ◌||◌, nat_le, List, [], ◌∷◌, Bool, false, length, if◌then◌else◌, Option, Some, None}
use Rattle.std.specs.List.{list_all, list_any}
use Rattle.std.specs.Str.{bytes_eq}
use Rattle.rp_rows.specs.Names.{is_byte_of_name}
use Rattle.http_routes.specs.declared.tokens.TokenFault.{TokenFault}
use Rattle.http_routes.specs.declared.tokens.TokenFault.TheVariants.{BadToken, TwoTokens}

-- 1 to 128 of the bytes that names have
abbrev pub is_token : List ℕ → Bool
is_token text = nat_le 1 (length text) && nat_le (length text) 128 && list_all is_byte_of_name text

-- some token stands twice
abbrev pub stands_twice : List (List ℕ) → Bool
stands_twice [] = false
stands_twice (token ∷ tokens) = list_any (bytes_eq token) tokens || stands_twice tokens

-- what is wrong with the tokens: that one is none, before that one stands twice
abbrev pub token_fault : List (List ℕ) → Option TokenFault
token_fault tokens = if list_all is_token tokens then (if stands_twice tokens then Some TwoTokens else None) else Some BadToken

-- the place of a token among these, of which the first stands at n
abbrev pub place_from : ℕ → List (List ℕ) → List ℕ → Option ℕ
place_from n [] token = None
place_from n (t ∷ tokens) token = if bytes_eq t token then Some n else place_from (n + 1) tokens token

-- the place of a token among these
abbrev pub place_among : List (List ℕ) → List ℕ → Option ℕ
place_among tokens token = place_from 0 tokens token
