-- The header of an exchange file. ISO 10303-21.
use Rattle.std.specs.Prelude.{ℕ, zero, suc, Bool, ◌||◌, List, [], ◌∷◌, ◌++◌, codes}
use Rattle.text_forms.specs.Forms.{◌>>=◌, ◌>>◌, ◌<$>◌, pure, many}
use Rattle.p21_lexemes.specs.declared.token.TokenKind.{TokenKind}
use Rattle.p21_lexemes.specs.declared.token.TokenKind.TheVariants as k
use Rattle.p21_lexemes.specs.Tokens.{Lexemes, Parser, peek, sees_word, word, expect, refuse, too_deep}
use Rattle.p21_grammar.specs.Grammar.{quoted, listed, record_form, max_nesting}
use Rattle.p21_tree.specs.declared.header.HeaderValue.{HeaderValue}
use Rattle.p21_tree.specs.declared.header.HeaderValue.TheVariants as header
use Rattle.p21_grammar.specs.declared.header.Head.{Head}

-- ---- the header's values: strings, `$`, and lists of these, which nest as deep as values do

module _ (list : Parser HeaderValue) where
  abbrev pub header_value_by : TokenKind → Parser HeaderValue
  header_value_by k.Dollar = expect k.Dollar >> pure header.Unset
  header_value_by k.Text = header.Text <$> quoted k.Text
  header_value_by k.Open = list
  header_value_by _ = refuse

  unfoldable pub header_value_with : Parser HeaderValue
  header_value_with = peek >>= header_value_by

-- with so many levels left
unfoldable pub header_list : ℕ → Parser HeaderValue
header_list zero = too_deep
header_list (suc n) = header.List <$> listed (header_value_with (header_list n))

abbrev pub header_value_at : ℕ → Parser HeaderValue
header_value_at n = header_value_with (header_list n)

abbrev pub header_value : Parser HeaderValue
header_value = header_value_at max_nesting

-- so many more, each behind a comma
unfoldable pub more_of : ℕ → List HeaderValue → Parser (List HeaderValue)
more_of zero found = pure found
more_of (suc n) found = do
  expect k.Comma
  next ← header_value
  more_of n (found ++ next ∷ [])

-- one value, and so many more
unfoldable pub header_values : ℕ → Parser (List HeaderValue)
header_values more = do
  first ← header_value
  more_of more (first ∷ [])

-- ---- the header

-- `WORD;`
unfoldable pub line : List ℕ → Parser (Unit {0})
line called = do
  word called
  expect k.Semicolon
  pure tt

-- `WORD(values);`, with one value and so many more
unfoldable pub entity : List ℕ → ℕ → Parser (List HeaderValue)
entity called more = do
  word called
  expect k.Open
  found ← header_values more
  expect k.Close
  expect k.Semicolon
  pure found

-- `('SCHEMA')`
unfoldable pub one_schema : Parser (List ℕ)
one_schema = do
  expect k.Open
  name ← quoted k.Text
  expect k.Close
  pure name

-- `FILE_SCHEMA(('SCHEMA'));`
unfoldable pub file_schema : Parser (List ℕ)
file_schema = do
  word (codes "FILE_SCHEMA")
  expect k.Open
  name ← one_schema
  expect k.Close
  expect k.Semicolon
  pure name

-- whether an entity comes next that says nothing here
abbrev pub sees_dropped : Lexemes → Bool
sees_dropped s = sees_word (codes "FILE_POPULATION") s || sees_word (codes "SECTION_LANGUAGE") s || sees_word (codes "SECTION_CONTEXT") s

-- `WORD(values);`, which is read and not kept
unfoldable pub dropped : Parser (Unit {0})
dropped = do
  record_form
  expect k.Semicolon
  pure tt

unfoldable pub all_dropped : Parser (Unit {0})
all_dropped = do
  many sees_dropped dropped
  pure tt

unfoldable pub header_section : Parser Head
header_section = do
  line (codes "HEADER")
  description ← entity (codes "FILE_DESCRIPTION") 1
  name ← entity (codes "FILE_NAME") 6
  schema ← file_schema
  all_dropped
  line (codes "ENDSEC")
  pure (record { header = record { description = description; name = name }; schema = schema })
