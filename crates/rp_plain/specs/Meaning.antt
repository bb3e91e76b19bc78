-- What a request means: why it may be refused, what it is answered, and what it changes.
use Rattle.std.specs.Prelude.{Bool, true, false, not, ◌&&◌, List, [], ◌∷◌, Option, Some, None, if◌then◌else◌}
use Rattle.std.specs.List.{find, list_any}
use Rattle.std.specs.Str.{bytes_eq, str_to_ascii_uppercase}
use Rattle.ex_types.specs.Checked.{Checked}
use Rattle.rp_rows.specs.declared.rows.ModelContent.{ModelContent}
use Rattle.rp_rows.specs.declared.rows.Right.{Right}
use Rattle.rp_rows.specs.declared.rows.Right.TheVariants.{Reads}
use Rattle.rp_rows.specs.Names.{is_name}
use Rattle.rp_rows.specs.declared.rows.Key.{Key}
use Rattle.rp_rows.specs.Rows.{Text}
use Rattle.rp_rows.specs.Sight.{at_least}
use Rattle.rp_plain.specs.declared.messages.Refusal.{Refusal}
use Rattle.rp_plain.specs.declared.messages.Refusal.TheVariants.{BadName, UnknownPartner, UnknownSchema, NoSuchItem, NoRight}
use Rattle.rp_plain.specs.declared.messages.Reply.{Reply}
use Rattle.rp_plain.specs.Readers.{Readers}
use Rattle.rp_plain.specs.Edits.{Edit}

-- the refusals in the order in which they are tested; where none holds, the reply and the edits
pub record Meaning : Type 0 where
  pub tests : List (Option Refusal)
  pub reply : Reply
  pub edits : List Edit

abbrev pub first_some : {A : Type 0} → List (Option A) → Option A
first_some [] = None
first_some (None ∷ tests) = first_some tests
first_some (Some refusal ∷ tests) = Some refusal

-- ---- tests that several requests have

abbrev pub when : Bool → Refusal → Option Refusal
when true refusal = Some refusal
when false refusal = None

abbrev pub has_text : List Text → Text → Bool
has_text texts s = list_any (bytes_eq s) texts

-- the name of a schema, in upper case
abbrev pub schema_name : Checked → Text
schema_name schema = schema.named.schema.name.text

abbrev pub has_schema : List Checked → Text → Bool
has_schema schemas name = list_any (λ schema. bytes_eq name (schema_name schema)) schemas

-- the schema of this name
abbrev pub schema_named : List Checked → Text → Option Checked
schema_named schemas name = find (λ schema. bytes_eq name (schema_name schema)) schemas

-- the schema of a model; it is among those that are loaded
abbrev pub schema_of : List Checked → Option ModelContent → Option Checked
schema_of schemas None = None
schema_of schemas (Some h) = schema_named schemas h.schema

abbrev pub name_fault : Text → Option Refusal
name_fault name = when (not (is_name name)) BadName

abbrev pub names_fault : Text → Text → Option Refusal
names_fault one other = when (not (is_name one && is_name other)) BadName

abbrev pub key_fault : Key → Option Refusal
key_fault k = names_fault k.owner k.name

abbrev pub is_no_partner : Readers → Text → Option Refusal
is_no_partner a name = when (not (has_text a.partners name)) UnknownPartner

-- in either case
abbrev pub is_no_schema : Readers → Text → Option Refusal
is_no_schema a name = when (not (has_schema a.schemas (str_to_ascii_uppercase name))) UnknownSchema

-- the item is not seen
abbrev pub unseen : Right → Option Refusal
unseen right = when (not (at_least Reads right)) NoSuchItem

-- it is not seen, or the level on it is too low
abbrev pub lacks : Right → Right → Option Refusal
lacks needed right = if at_least Reads right then when (not (at_least needed right)) NoRight else Some NoSuchItem
