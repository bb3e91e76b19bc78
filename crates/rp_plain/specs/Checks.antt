-- The request that checks an EXPRESS text.
use Rattle.std.specs.Prelude.{[], ◌∷◌, Result, Ok, Err}
use Rattle.ex_types.specs.Checked.{Checked}
use Rattle.ex_check.specs.declared.fault.SchemaFault.{SchemaFault}
use Rattle.ex_check.specs.Check.{schema as schema_of}
use Rattle.rp_rows.specs.Rows.{Text}
use Rattle.rp_plain.specs.declared.messages.Reply.{Reply}
use Rattle.rp_plain.specs.declared.messages.Reply.TheVariants as reply
use Rattle.rp_plain.specs.Meaning.{Meaning, schema_name}
use Rattle.rp_plain.specs.Files.{too_large}

-- what is told of a text: its schema's name and the places of its warnings, or its first fault
abbrev pub told : Result Checked SchemaFault → Reply
told (Ok schema) = reply.Checked (schema_name schema) schema.warnings
told (Err fault) = reply.Faulty fault

abbrev pub check_schema : Text → Meaning
check_schema text = record { tests = too_large text ∷ []; reply = told (schema_of text); edits = [] }
