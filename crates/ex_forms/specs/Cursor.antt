-- What a cursor shows.
use Rattle.ex_forms.specs.declared.cursor.Cursor.TheInside.{Inside}
use Rattle.std.specs.Prelude.{map}
use Rattle.ex_lex.specs.Lexeme.{lexeme}
use Rattle.ex_forms.specs.Input.{Lexemes, stream}

abbrev pub left : Inside → Lexemes
left c = stream (record { lexemes = map lexeme c.rest.now; length = c.text_length })
