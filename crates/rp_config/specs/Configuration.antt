-- Which bytes are which configurations.
use Rattle.std.specs.Prelude.{ℕ, List, [], ◌∷◌, ◌||◌, length, nat_lt, codes, if◌then◌else◌, Option, Some, None, option_map, option_and_then}
use Rattle.std.specs.Str.{is_utf8}
use Rattle.serde_json.specs.Data.{Data, Items, no_items, item, Members}
use Rattle.serde_json.specs.Find.{get_member, as_str, as_array, as_object}
use Rattle.serde_json.specs.Read.{read}
use Rattle.shallow_json.specs.Keys.{has_only}
use Rattle.rp_config.specs.declared.config.Config.{Config}

-- the string at this key
abbrev pub text_in : List ℕ → Members → Option (List ℕ)
text_in key ms = option_and_then as_str (get_member key ms)

-- the list at this key
abbrev pub list_in : List ℕ → Members → Option Items
list_in key ms = option_and_then as_array (get_member key ms)

-- what each item says, and nothing where one says nothing
abbrev pub each : (Data → Option (List ℕ)) → Items → Option (List (List ℕ))
each said no_items = Some []
each said (item d ds) = option_and_then (λ x. option_map (λ xs. x ∷ xs) (each said ds)) (said d)

-- the name of a partner, who has a token too and nothing else
abbrev pub name_in : Members → Option (List ℕ)
name_in ms = if has_only (codes "name" ∷ codes "token" ∷ []) ms then option_and_then (λ token. text_in (codes "name") ms) (text_in (codes "token") ms) else None

abbrev pub name_of : Data → Option (List ℕ)
name_of partner = option_and_then name_in (as_object partner)

-- the token of a partner, who has a name too and nothing else
abbrev pub token_in : Members → Option (List ℕ)
token_in ms = if has_only (codes "name" ∷ codes "token" ∷ []) ms then option_and_then (λ name. text_in (codes "token") ms) (text_in (codes "name") ms) else None

abbrev pub token_of : Data → Option (List ℕ)
token_of partner = option_and_then token_in (as_object partner)

-- how many partners and schemas there are at most
abbrev pub max_partners : ℕ
max_partners = 1000

abbrev pub max_schemas : ℕ
max_schemas = 100

abbrev pub unless_many : List (List ℕ) → List (List ℕ) → List (List ℕ) → Option Config
unless_many names tokens paths = if nat_lt max_partners (length names) || nat_lt max_schemas (length paths) then None else Some (record { partners = names; tokens = tokens; schemas = paths })

-- the names and the tokens of the partners and the paths of the schemas' files, each list in its order
abbrev pub config_in : Members → Option Config
config_in ms =
    if has_only (codes "partners" ∷ codes "schemas" ∷ []) ms then
    option_and_then (λ partners. option_and_then (λ schemas.
    option_and_then (λ names. option_and_then (λ tokens. option_and_then (λ paths. unless_many names tokens paths) (each as_str schemas)) (each token_of partners)) (each name_of partners))
    (list_in (codes "schemas") ms)) (list_in (codes "partners") ms)
    else None

-- The configuration of a file: an object in UTF-8, of no more partners and schemas than may be. Of equal keys the last one stands.
abbrev pub config_of : List ℕ → Option Config
config_of bytes = if is_utf8 bytes then option_and_then config_in (option_and_then as_object (read bytes)) else None
