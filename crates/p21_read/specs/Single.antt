-- The text of one instance by itself: a mapping and nothing else. The name is given apart from it, so neither `#name=` stands in
-- front nor `;` behind; and it is no file, so no byte order mark is skipped. Blanks and comments stand wherever they may between
-- tokens, in front and behind too; values nest as deep as in a file. ISO 10303-21, SIMPLE_RECORD and SUBSUPER_RECORD.
use Rattle.std.specs.Prelude.{ℕ, List, Result}
use Rattle.text_forms.specs.Forms.{◌>>=◌, ◌>>◌, pure}
use Rattle.p21_lexemes.specs.Tokens.{Parser, lexemes, finish}
use Rattle.p21_tree.specs.declared.fault.FileFault.{FileFault}
use Rattle.p21_tree.specs.declared.instance.Mapping.{Mapping}
use Rattle.p21_grammar.specs.Grammar.{mapping_form}
use Rattle.p21_grammar.specs.File.{tree_of}

-- a mapping, and then the end of the text
unfoldable pub single : Parser Mapping
single = do
  found ← mapping_form
  finish
  pure found

-- the mapping that a text spells, or its first fault
abbrev pub mapping_of : List ℕ → Result Mapping FileFault
mapping_of text = tree_of (single (lexemes 0 text))
