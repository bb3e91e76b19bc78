-- The requests that list what there is.
use Rattle.std.specs.Prelude.{Bool, List, [], ◌∷◌, map, Option, Some}
use Rattle.std.specs.Ordering.{is_lt}
use Rattle.ex_types.specs.Checked.{Checked}
use Rattle.p21_instances.specs.Instances.{in_order}
use Rattle.p21_canonical.specs.TypeNames.{type_text}
use Rattle.rp_content.specs.declared.instance.Instance.{Instance}
use Rattle.rp_rows.specs.declared.rows.ModelContent.{ModelContent}
use Rattle.rp_rows.specs.declared.rows.Key.{Key}
use Rattle.rp_rows.specs.Rows.{Text, text_cmp}
use Rattle.rp_plain.specs.declared.lists.ListedInstance.{ListedInstance}
use Rattle.rp_plain.specs.declared.messages.Reply.TheVariants as reply
use Rattle.rp_plain.specs.Readers.{Readers}
use Rattle.rp_plain.specs.Meaning.{Meaning, schema_name, schema_of, key_fault, is_no_partner, unseen}

abbrev pub named : Checked → Instance → ListedInstance
named schema i = record { name = i.name; type_name = type_text schema i.entities }

-- the instances of a model of this schema, with their types
abbrev pub names_by : Option Checked → Option ModelContent → List ListedInstance
names_by (Some schema) (Some h) = map (named schema) h.content.instances
names_by _ _ = []

abbrev pub names : Readers → Key → Meaning
names a k = record {
  tests = key_fault k ∷ is_no_partner a k.owner ∷ unseen (a.model_right k) ∷ [];
  reply = reply.Names (names_by (schema_of a.schemas (a.content k)) (a.content k));
  edits = [];
}

-- the groups and models that the caller sees
abbrev pub list_items : Readers → Meaning
list_items a = record { tests = []; reply = reply.Listed a.groups a.models; edits = [] }

abbrev pub is_below : Text → Text → Bool
is_below s t = is_lt (text_cmp s t)

-- the names of the schemas, in byte order
abbrev pub schema_names : List Checked → List Text
schema_names schemas = in_order is_below (map schema_name schemas)

abbrev pub schemas : Readers → Meaning
schemas a = record { tests = []; reply = reply.Schemas (schema_names a.schemas); edits = [] }
