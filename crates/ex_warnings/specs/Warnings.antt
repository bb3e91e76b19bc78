-- What is warned of.
use Rattle.std.specs.Prelude.{ℕ, Bool, List, ◌∷◌, ◌++◌, map, filter}
use Rattle.std.specs.List.{list_any}
use Rattle.std.specs.Str.{bytes_eq}
use Rattle.ex_named.specs.declared.declaration.NamedSchema.{NamedSchema}
use Rattle.ex_warnings.specs.Selects.{select_names}

-- `SCHEMA.NAME`
abbrev pub qualified : List ℕ → List ℕ → List ℕ
qualified schema name = schema ++ 46 ∷ name

-- whether a text is `SCHEMA.NAME` for one of the names
abbrev pub is_qualified : List ℕ → List (List ℕ) → List ℕ → Bool
is_qualified schema names text = list_any (λ name. bytes_eq text (qualified schema name)) names

-- whether a text names a SELECT of the schema
abbrev pub names_select : NamedSchema → List ℕ → Bool
names_select schema = is_qualified schema.name.text (select_names schema.types)

-- the first bytes of the string literals that name a SELECT, in the order of the text
unfoldable pub warnings : NamedSchema → List ℕ
warnings schema = map (λ s. s.at) (filter (λ s. names_select schema s.value) schema.strings)
