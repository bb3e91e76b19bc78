-- Texts without control characters, and what stands behind a member of an object.
use Rattle.std.specs.Prelude.{◌≡◌, ℕ, ◌<◌, ◌≤◌, ⊤, List, [], ◌∷◌, length, drop}
use Rattle.std.specs.List.{AllByRecursion}
use Rattle.json.specs.Token.{end_object}
use Rattle.json.specs.Lex.{Lexeme, token, comma, between, lex}
use Rattle.shallow_json.specs.declared.texts.Behind.{Behind}
use Rattle.shallow_json.specs.declared.texts.Behind.TheVariants.{Member, End, Other}

-- no byte is a control character
abbrev pub HasNoControl : List ℕ → Type 0
HasNoControl = AllByRecursion (λ x. 32 ≤ x)

-- these are the lexemes from a place on, behind a member
abbrev pub Follows : List Lexeme → ℕ → List ℕ → Behind → Type 0
Follows ls at text (Member next) = (ls ≡ comma ∷ lex between (drop next text)) × (at < next) × (next ≤ length text)
Follows ls at text End = ls ≡ token end_object ∷ []
Follows ls at text Other = ⊤
