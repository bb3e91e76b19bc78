-- The repository as it is opened: schemas and partners, and nothing in it.
use Rattle.std.specs.Prelude.{ℕ, Bool, true, false, not, ◌||◌, nat_lt, List, [], ◌∷◌, length, map, Option, Some, None}
use Rattle.std.specs.List.{list_any, list_all}
use Rattle.std.specs.Str.{bytes_eq}
use Rattle.ex_types.specs.Checked.{Checked}
use Rattle.rp_rows.specs.Names.{is_name}
use Rattle.rp_plain.specs.declared.messages.NewFault.{NewFault}
use Rattle.rp_plain.specs.declared.messages.NewFault.TheVariants.{TwoSchemas, TwoPartners, BadName, TooMany}
use Rattle.rp_plain.specs.Plain.{Plain}
use Rattle.rp_plain.specs.Meaning.{first_some, schema_name}

-- a text stands among those that follow it
abbrev pub has_twice : List (List ℕ) → Bool
has_twice [] = false
has_twice (text ∷ texts) = list_any (bytes_eq text) texts || has_twice texts

abbrev pub when : Bool → NewFault → Option NewFault
when true fault = Some fault
when false fault = None

abbrev pub max_schemas : ℕ
max_schemas = 100

abbrev pub max_partners : ℕ
max_partners = 1000

-- why there is no repository of these schemas and partners, the first that holds
abbrev pub new_fault : List Checked → List (List ℕ) → Option NewFault
new_fault schemas partners = first_some (
    when (has_twice (map schema_name schemas)) TwoSchemas
    ∷ when (has_twice partners) TwoPartners
    ∷ when (not (list_all is_name partners)) BadName
    ∷ when (nat_lt max_schemas (length schemas) || nat_lt max_partners (length partners)) TooMany
    ∷ [])

abbrev pub opened : List Checked → List (List ℕ) → Plain
opened schemas partners = record { schemas = schemas; partners = partners; models = []; groups = [] }
