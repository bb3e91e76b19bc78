-- What is said of an EXPRESS text: the name of its schema with its warnings, or its first fault, with lines and columns.
use Rattle.std.specs.Prelude.{ℕ, ◌+◌, Bool, not, ◌==◌, List, ◌++◌, length, take, codes, if◌then◌else◌, Result, Ok, Err}
use Rattle.std.specs.List.{count_by, flat_map, suffix_len}
use Rattle.std.specs.Fmt.{decimal}
use Rattle.ex_lex.specs.Lexeme.{Lexed}
use Rattle.ex_lex.specs.Spelling.{tokens}
use Rattle.ex_syntax.specs.Schemas.{parsed}
use Rattle.ex_tree.specs.declared.declaration.Schema.{Schema}
use Rattle.ex_tree.specs.declared.fault.LexFault.{LexFault}
use Rattle.ex_tree.specs.declared.fault.LexFaultKind.{LexFaultKind}
use Rattle.ex_tree.specs.declared.fault.LexFaultKind.TheVariants as lex
use Rattle.ex_tree.specs.declared.fault.ParseFault.{ParseFault}
use Rattle.ex_tree.specs.declared.fault.ParseFaultKind.{ParseFaultKind}
use Rattle.ex_tree.specs.declared.fault.ParseFaultKind.TheVariants as parse
use Rattle.ex_named.specs.declared.fault.NameFaultKind.{NameFaultKind}
use Rattle.ex_named.specs.declared.fault.NameFaultKind.TheVariants as names
use Rattle.ex_named.specs.Outcomes.{Outcome}
use Rattle.ex_resolve.specs.Schemas.{Resolved, resolved}
use Rattle.ex_kinds.specs.declared.fault.TypeFault.{TypeFault}
use Rattle.ex_kinds.specs.declared.fault.TypeFaultKind.{TypeFaultKind}
use Rattle.ex_kinds.specs.declared.fault.TypeFaultKind.TheVariants as types
use Rattle.ex_types.specs.Checked.{Checked, checked}
use Rattle.ex_subtypes.specs.declared.build.SubtypeFault.{SubtypeFault}
use Rattle.ex_subtypes.specs.declared.build.SubtypeFaultKind.{SubtypeFaultKind}
use Rattle.ex_subtypes.specs.declared.build.SubtypeFaultKind.TheVariants as subtypes
use Rattle.ex_compiled.specs.Compiling.{built}
use Rattle.ex_check.specs.declared.place.Position.{Position}
use Rattle.ex_check.specs.declared.fault.SchemaFault.{SchemaFault}
use Rattle.ex_check.specs.declared.fault.SchemaFault.TheVariants.{Lexical, Syntactic, Naming, Typing, Constraining}
use Rattle.ex_check.specs.declared.report.Verdict.{Verdict}
use Rattle.ex_check.specs.declared.report.Verdict.TheVariants.{Accepted, Refused}

-- ---- the phases, one after the other

abbrev pub tree : Result Schema ParseFault → Result Schema SchemaFault
tree (Ok schema) = Ok schema
tree (Err fault) = Err (Syntactic fault)

abbrev pub spelled : Result Lexed LexFault → Result Schema SchemaFault
spelled (Ok lexed) = tree (parsed lexed)
spelled (Err fault) = Err (Lexical fault)

-- The tree that a text spells, or the fault of its tokens, or else of its syntax.
unfoldable pub syntax : List ℕ → Result Schema SchemaFault
syntax text = spelled (tokens text)

abbrev pub bound : Outcome Resolved → Result Resolved SchemaFault
bound (Ok schema) = Ok schema
bound (Err fault) = Err (Naming fault)

abbrev pub named : Result Schema SchemaFault → Result Resolved SchemaFault
named (Ok schema) = bound (resolved schema)
named (Err fault) = Err fault

-- The schema of a text with its names bound, or the fault of its tokens, or else of its syntax, or else of its names.
unfoldable pub resolution : List ℕ → Result Resolved SchemaFault
resolution text = named (syntax text)

abbrev pub fitting : Result Checked TypeFault → Result Checked SchemaFault
fitting (Ok schema) = Ok schema
fitting (Err fault) = Err (Typing fault)

abbrev pub typed : Result Resolved SchemaFault → Result Checked SchemaFault
typed (Ok schema) = fitting (checked schema)
typed (Err fault) = Err fault

-- The schema of a text with its types checked, or the fault of the first phase up to there that has one.
unfoldable pub typing : List ℕ → Result Checked SchemaFault
typing text = typed (resolution text)

abbrev pub read : Result Checked SubtypeFault → Result Checked SchemaFault
read (Ok schema) = Ok schema
read (Err fault) = Err (Constraining fault)

abbrev pub constrained : Result Checked SchemaFault → Result Checked SchemaFault
constrained (Ok schema) = read (built schema)
constrained (Err fault) = Err fault

-- The schema of a text with its warnings, or the fault of the first phase that has one; supertype expressions are the last.
unfoldable pub schema : List ℕ → Result Checked SchemaFault
schema text = constrained (typing text)

-- ---- where a fault lies

abbrev pub is_line_feed : ℕ → Bool
is_line_feed b = b == 10

-- lines and columns count from 1, columns in bytes
abbrev pub line : List ℕ → ℕ → ℕ
line text at = count_by is_line_feed (take at text) + 1

abbrev pub column : List ℕ → ℕ → ℕ
column text at = suffix_len (λ b. not (is_line_feed b)) (take at text) + 1

abbrev pub position : List ℕ → ℕ → Position
position text at = record { at = at; line = line text at; column = column text at }

-- the column behind these bytes, of which the first stands in this one
abbrev pub column_behind : List ℕ → ℕ → ℕ
column_behind bytes column =
    let last = suffix_len (λ b. not (is_line_feed b)) bytes in
    if last == length bytes then column + length bytes else last + 1

-- ---- the report

abbrev pub lexical_name : LexFaultKind → List ℕ
lexical_name lex.Token = codes "Token"
lexical_name lex.OpenString = codes "OpenString"
lexical_name lex.OpenRemark = codes "OpenRemark"
lexical_name lex.BadEncoded = codes "BadEncoded"
lexical_name lex.TooBig = codes "TooBig"

abbrev pub syntactic_name : ParseFaultKind → List ℕ
syntactic_name parse.Syntax = codes "Syntax"
syntactic_name parse.TooDeep = codes "TooDeep"
syntactic_name (parse.OutOfProfile word) = codes "OutOfProfile"

abbrev pub naming_name : NameFaultKind → List ℕ
naming_name names.Undeclared = codes "Undeclared"
naming_name names.DeclaredTwice = codes "DeclaredTwice"
naming_name names.CyclicSubtype = codes "CyclicSubtype"
naming_name names.CyclicType = codes "CyclicType"
naming_name names.NotAnAttribute = codes "NotAnAttribute"

abbrev pub typing_name : TypeFaultKind → List ℕ
typing_name types.RealArithmetic = codes "RealArithmetic"
typing_name types.EntityComparison = codes "EntityComparison"
typing_name types.Operand = codes "Operand"
typing_name types.Arguments = codes "Arguments"
typing_name types.Assign = codes "Assign"
typing_name types.Qualifier = codes "Qualifier"
typing_name types.Ambiguous = codes "Ambiguous"

abbrev pub constraining_name : SubtypeFaultKind → List ℕ
constraining_name subtypes.NamedTwice = codes "NamedTwice"
constraining_name subtypes.NotDirectSubtype = codes "NotDirectSubtype"

abbrev pub name : SchemaFault → List ℕ
name (Lexical fault) = lexical_name fault.kind
name (Syntactic fault) = syntactic_name fault.kind
name (Naming fault) = naming_name fault.kind
name (Typing fault) = typing_name fault.kind
name (Constraining fault) = constraining_name fault.kind

abbrev pub place : SchemaFault → ℕ
place (Lexical fault) = fault.at
place (Syntactic fault) = fault.at
place (Naming fault) = fault.at
place (Typing fault) = fault.at
place (Constraining fault) = fault.at

-- `KIND line L column C`
abbrev pub words_at : List ℕ → ℕ → ℕ → List ℕ
words_at kind line column = kind ++ codes " line " ++ decimal line ++ codes " column " ++ decimal column

abbrev pub words_of_fault : List ℕ → SchemaFault → List ℕ
words_of_fault text fault = words_at (name fault) (line text (place fault)) (column text (place fault))

abbrev pub told_of_fault : List ℕ → SchemaFault → List ℕ
told_of_fault text fault = words_of_fault text fault ++ codes "\n"

abbrev pub told_of_warning : ℕ → ℕ → List ℕ
told_of_warning line column = words_at (codes "warning SelectInTypeof") line column ++ codes "\n"

-- the line of a warning at this byte
abbrev pub warning_at : List ℕ → ℕ → List ℕ
warning_at text at = told_of_warning (line text at) (column text at)

-- `NAME: ok`, and a line for each warning
abbrev pub told_of_schema : List ℕ → Checked → List ℕ
told_of_schema text found = found.named.schema.name.text ++ codes ": ok\n" ++ flat_map (warning_at text) found.warnings

abbrev pub told : List ℕ → Result Checked SchemaFault → List ℕ
told text (Ok schema) = told_of_schema text schema
told text (Err fault) = told_of_fault text fault

abbrev pub judged : Result Checked SchemaFault → Verdict
judged (Ok schema) = Accepted
judged (Err fault) = Refused

-- what `check` writes of a text
abbrev pub report : List ℕ → List ℕ
report text = told text (schema text)

-- whether it is a schema
abbrev pub verdict : List ℕ → Verdict
verdict text = judged (schema text)
