-- What is said of an EXPRESS text to those who don't count bytes: below each line that has a place the line of the text, with a caret.
use Rattle.std.specs.Prelude.{ℕ, ◌-◌, Bool, not, ◌==◌, ◌&&◌, List, ◌++◌, length, take, drop, codes, nat_le, if◌then◌else◌, Option, Some, None, Result, Ok, Err}
use Rattle.std.specs.List.{flat_map, filter_map, prefix_len, suffix_len}
use Rattle.ex_types.specs.Checked.{Checked}
use Rattle.ex_check.specs.declared.fault.SchemaFault.{SchemaFault}
use Rattle.ex_check.specs.Check.{is_line_feed, place, schema, warning_at, told_of_fault}

-- ---- the line of a byte

abbrev pub is_within_line : ℕ → Bool
is_within_line b = not (is_line_feed b)

-- what stands behind the last line feed
abbrev pub last_line : List ℕ → List ℕ
last_line bytes = drop (length bytes - suffix_len is_within_line bytes) bytes

-- what stands before the first line feed
abbrev pub first_line : List ℕ → List ℕ
first_line bytes = take (prefix_len is_within_line bytes) bytes

-- what stands below a byte: a tab below a tab, nothing below a byte that goes on with a character of UTF-8, else a blank
abbrev pub below : ℕ → Option ℕ
below b = if b == 9 then Some 9 else if nat_le 128 b && nat_le b 191 then None else Some 32

-- the line of this byte, and below it a caret, behind as many characters as stand before the byte
abbrev pub shown : List ℕ → ℕ → List ℕ
shown text at = last_line (take at text) ++ first_line (drop at text) ++ codes "\n" ++ filter_map below (last_line (take at text)) ++ codes "^\n"

-- ---- the report with these lines

abbrev pub explained_warning : List ℕ → ℕ → List ℕ
explained_warning text at = warning_at text at ++ shown text at

abbrev pub explained_fault : List ℕ → SchemaFault → List ℕ
explained_fault text fault = told_of_fault text fault ++ shown text (place fault)

-- `NAME: ok`, and each warning
abbrev pub explained_schema : List ℕ → Checked → List ℕ
explained_schema text found = found.named.schema.name.text ++ codes ": ok\n" ++ flat_map (explained_warning text) found.warnings

abbrev pub explained : List ℕ → Result Checked SchemaFault → List ℕ
explained text (Ok found) = explained_schema text found
explained text (Err fault) = explained_fault text fault

-- what `check --explain` writes of a text
abbrev pub explanation : List ℕ → List ℕ
explanation text = explained text (schema text)
