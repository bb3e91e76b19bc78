-- What stands behind a value, where one stands.
use Rattle.std.specs.Prelude.{ℕ, List, [], ◌∷◌, length, Bool, true, false, Option, Some, None, option_map}
use Rattle.json.specs.Token as token
use Rattle.json.specs.Token.{Token}
use Rattle.json.specs.Json.{items, members, value}
use Rattle.serde_json.specs.Data.{Data, null, boolean, number, string, no_members}
use Rattle.serde_json.specs.Read.{number_of, of_json, of_items, of_members, converted}

-- what is left, without what was read
abbrev pub left : {A : Type 0} → Option (A × List Token) → Option (List Token)
left r = option_map (λ p. p.1) r

abbrev pub after_value : ℕ → List Token → Option (List Token)
after_value depth ts = left (converted of_json (value depth ts))

abbrev pub after_items : ℕ → List Token → Option (List Token)
after_items depth ts = left (converted of_items (items (value depth) (length ts) ts))

abbrev pub after_members : ℕ → List Token → Option (List Token)
after_members depth ts = left (converted (λ ms. of_members ms no_members) (members (value depth) (length ts) ts))

-- the value of one token
abbrev pub scalar_of : Token → Option Data
scalar_of token.begin_object = None
scalar_of token.end_object = None
scalar_of token.begin_array = None
scalar_of token.end_array = None
scalar_of (token.key s) = None
scalar_of (token.string s) = Some (string s)
scalar_of (token.number s) = option_map number (number_of s)
scalar_of (token.boolean b) = Some (boolean b)
scalar_of token.null = Some null
scalar_of token.bad = None

abbrev pub begins_object : List Token → Bool
begins_object [] = false
begins_object (token.begin_object ∷ ts) = true
begins_object (token.end_object ∷ ts) = false
begins_object (token.begin_array ∷ ts) = false
begins_object (token.end_array ∷ ts) = false
begins_object (token.key s ∷ ts) = false
begins_object (token.string s ∷ ts) = false
begins_object (token.number s ∷ ts) = false
begins_object (token.boolean b ∷ ts) = false
begins_object (token.null ∷ ts) = false
begins_object (token.bad ∷ ts) = false
