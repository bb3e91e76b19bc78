-- The tokens of what is written.
use Rattle.std.specs.Prelude.{List, [], ◌∷◌, ◌++◌}
use Rattle.std.specs.List.{flat_map}
use Rattle.json.specs.Token.{Token, end_array}
use Rattle.json.specs.Tree.{json_tokens}
use Rattle.serde_json.specs.Data.{Data}
use Rattle.serde_json.specs.Written.{outline}

abbrev pub tokens_of : Data → List Token
tokens_of d = json_tokens (outline d)

-- what is written of each, and the bracket that closes the list
abbrev pub listed : {A : Type 0} → (A → List Token) → List A → List Token
listed each xs = flat_map each xs ++ end_array ∷ []
