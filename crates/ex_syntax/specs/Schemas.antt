-- Schemas (ISO 10303-11:1994, 9.3), and what the tokens of a text spell.
use Rattle.std.specs.Prelude.{Bool, ◌||◌, List, [], Result, Ok, Err}
use Rattle.text_forms.specs.Forms.{◌>>=◌, ◌>>◌, ◌<$>◌, pure}
use Rattle.ex_lex.specs.Lexeme.{Lexeme, Lexed}
use Rattle.ex_tree.specs.declared.kind.TokenKind.{TokenKind}
use Rattle.ex_tree.specs.declared.kind.TokenKind.TheVariants as k
use Rattle.ex_tree.specs.declared.fault.ParseFault.{ParseFault}
use Rattle.ex_tree.specs.declared.declaration.Declaration.{Declaration}
use Rattle.ex_tree.specs.declared.declaration.Declaration.TheVariants as tree
use Rattle.ex_tree.specs.declared.declaration.Schema.{Schema}
use Rattle.ex_expressions.specs.Strings.{strings}
use Rattle.ex_forms.specs.Input.{Parser, Lexemes, sees, peek, expect, refuse, finish, name, many, stream}
use Rattle.ex_declaration_syntax.specs.Declarations.{type_decl, constants}
use Rattle.ex_declaration_syntax.specs.Entities.{entity_decl}
use Rattle.ex_declaration_syntax.specs.Algorithms.{function_decl, rule_decl}

abbrev pub begins_declaration : Lexemes → Bool
begins_declaration s = sees k.Entity s || sees k.Function s || sees k.Rule s || sees k.Type s

abbrev pub declaration_by : TokenKind → Parser Declaration
declaration_by k.Entity = tree.Entity <$> entity_decl
declaration_by k.Function = tree.Function <$> function_decl
declaration_by k.Rule = tree.Rule <$> rule_decl
declaration_by k.Type = tree.Type <$> type_decl
declaration_by _ = refuse

unfoldable pub declaration : Parser Declaration
declaration = peek >>= declaration_by

unfoldable pub schema_decl : Parser Schema
schema_decl = do
  expect k.Schema
  name' ← name
  expect k.Semicolon
  constants' ← constants
  declarations ← many begins_declaration declaration
  expect k.EndSchema
  expect k.Semicolon
  pure (record { name = name'; constants = constants'; declarations = declarations; strings = [] })

-- one schema, and no token after it
unfoldable pub syntax : Parser Schema
syntax = do
  found ← schema_decl
  finish
  pure found

abbrev pub tree_of : {A : Type 0} → Result (A × Lexemes) ParseFault → Result A ParseFault
tree_of (Ok p) = Ok p.0
tree_of (Err fault) = Err fault

-- the string literals of the text put beside its declarations
abbrev pub with_strings : List Lexeme → Result Schema ParseFault → Result Schema ParseFault
with_strings lexemes (Ok schema) = Ok (record schema { strings = strings lexemes })
with_strings lexemes (Err fault) = Err fault

-- The tree that the tokens of a text spell, with its string literals; else the first token that can't be taken, or the end.
unfoldable pub parsed : Lexed → Result Schema ParseFault
parsed text = with_strings text.lexemes (tree_of (syntax (stream text)))
