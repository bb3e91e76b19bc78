-- The requests that create and delete models.
use Rattle.std.specs.Prelude.{nat_le, [], ◌∷◌, Some, None}
use Rattle.std.specs.Str.{str_to_ascii_uppercase}
use Rattle.rp_content.specs.Headers.{default_header}
use Rattle.rp_rows.specs.declared.rows.ModelContent.{ModelContent}
use Rattle.rp_rows.specs.declared.rows.Right.TheVariants.{Reads}
use Rattle.rp_rows.specs.Rows.{Text, key_of}
use Rattle.rp_rows.specs.Listings.{max_models}
use Rattle.rp_rows.specs.Sight.{at_least}
use Rattle.rp_rows.specs.Alterations.{Holds}
use Rattle.rp_plain.specs.declared.messages.Refusal.TheVariants.{Exists, TooMany}
use Rattle.rp_plain.specs.declared.messages.Reply.TheVariants.{Done}
use Rattle.rp_plain.specs.Readers.{Readers}
use Rattle.rp_plain.specs.Edits.{EditModel}
use Rattle.rp_plain.specs.Meaning.{Meaning, when, name_fault, is_no_schema, unseen}

-- a model as it is created
abbrev pub new_content : Text → ModelContent
new_content schema = record { schema = str_to_ascii_uppercase schema; greatest = 0; content = record { header = default_header; instances = []; links = [] } }

abbrev pub create_model : Readers → Text → Text → Text → Meaning
create_model a c name schema = record {
  tests = name_fault name ∷ is_no_schema a schema ∷ when (at_least Reads (a.model_right (key_of c name))) Exists ∷ when (nat_le max_models a.model_count) TooMany ∷ [];
  reply = Done;
  edits = EditModel (key_of c name) (Holds (Some (new_content schema))) ∷ [];
}

abbrev pub delete_model : Readers → Text → Text → Meaning
delete_model a c name = record {
  tests = name_fault name ∷ unseen (a.model_right (key_of c name)) ∷ [];
  reply = Done;
  edits = EditModel (key_of c name) (Holds None) ∷ [];
}
