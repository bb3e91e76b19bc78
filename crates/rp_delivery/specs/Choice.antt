-- The schema of a delivery.
use Rattle.std.specs.Prelude.{ℕ, ◌+◌, Bool, true, false, List, [], ◌∷◌, if◌then◌else◌, None, Result, Ok, Err}
use Rattle.text_forms.specs.Forms.{◌>>=◌, ◌>>◌}
use Rattle.p21_lexemes.specs.declared.token.TokenKind.TheVariants as k
use Rattle.p21_lexemes.specs.Tokens.{Parser, expect, file_lexemes}
use Rattle.p21_tree.specs.declared.fault.FileFault.{FileFault}
use Rattle.p21_tree.specs.declared.raw.Raw.{Raw}
use Rattle.p21_grammar.specs.declared.header.Head.{Head}
use Rattle.p21_grammar.specs.Header.{header_section}
use Rattle.p21_grammar.specs.File.{tree_of}
use Rattle.p21_grammar.specs.Schemas.{is_of_schema}
use Rattle.ex_types.specs.Checked.{Checked}
use Rattle.rp_plain.specs.Meaning.{schema_name}

-- the header that a file begins with
unfoldable pub head : Parser Head
head = do
  expect k.FileStart
  expect k.Semicolon
  header_section

-- a file of this header without instances
abbrev pub without_instances : Head → Raw
without_instances found = record { header = found.header; schema = found.schema; section = None; instances = [] }

abbrev pub names : Result Head FileFault → List ℕ → Bool
names (Ok found) schema = is_of_schema schema (without_instances found)
names (Err fault) schema = false

-- the place of the first schema that is named, from this one on; 0 where none is
abbrev pub first_named : (List ℕ → Bool) → ℕ → List Checked → ℕ
first_named named n [] = 0
first_named named n (schema ∷ schemas) = if named (schema_name schema) then n else first_named named (n + 1) schemas

-- the place of the schema that the header of a file names, and 0 where it names none of these
abbrev pub place_named : List Checked → List ℕ → ℕ
place_named schemas file = first_named (names (tree_of (head (file_lexemes file)))) 0 schemas
