-- How a QUERY begins (ISO 10303-11:1994, 12.6.7).
use Rattle.std.specs.Prelude.{ℕ}
use Rattle.text_forms.specs.Forms.{◌>>=◌, ◌>>◌, pure}
use Rattle.ex_tree.specs.declared.kind.TokenKind.TheVariants as k
use Rattle.ex_forms.specs.Input.{Parser, expect, enter}

-- `QUERY(`, and the first byte of its word
unfoldable pub query_word : ℕ → Parser ℕ
query_word levels = do
  word ← expect k.Query
  enter levels k.OpenParenthesis
  pure word.at
