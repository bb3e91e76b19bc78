-- The requests for single instances of a model.
use Rattle.std.specs.Prelude.{ℕ, Bool, not, ◌||◌, nat_le, List, [], ◌∷◌, ◌++◌, length, Option, Some, None, is_some, Result, Ok, Err}
use Rattle.plain_data.specs.Numbers.{is_among}
use Rattle.ex_types.specs.Checked.{Checked}
use Rattle.p21_tree.specs.declared.fault.FileFault.{FileFault}
use Rattle.p21_tree.specs.declared.fault.InstanceFault.{InstanceFault}
use Rattle.p21_tree.specs.declared.instance.Mapping.{Mapping}
use Rattle.p21_read.specs.Single.{mapping_of}
use Rattle.p21_spelling.specs.Instances.{instance_text}
use Rattle.p21_bind.specs.Single.{bound_instance}
use Rattle.p21_canonical.specs.Trees.{instance_tree}
use Rattle.rp_content.specs.declared.content.Content.{Content}
use Rattle.rp_content.specs.declared.instance.Instance.{Instance}
use Rattle.rp_rows.specs.declared.rows.ModelContent.{ModelContent}
use Rattle.rp_rows.specs.declared.rows.Right.TheVariants.{Writes}
use Rattle.rp_rows.specs.declared.rows.Key.{Key}
use Rattle.rp_rows.specs.Rows.{Text}
use Rattle.rp_rows.specs.Contents.{names, link_names}
use Rattle.rp_rows.specs.Instances.{max_instances, max_name, instance_of, is_used, next_name, with_instance, without_instance}
use Rattle.rp_rows.specs.Alterations.{Holds}
use Rattle.rp_plain.specs.declared.messages.Refusal.{Refusal}
use Rattle.rp_plain.specs.declared.messages.Refusal.TheVariants as refusal
use Rattle.rp_plain.specs.declared.messages.Reply.TheVariants.{Done, Line, Added}
use Rattle.rp_plain.specs.Readers.{Readers}
use Rattle.rp_plain.specs.Edits.{Edit, EditModel}
use Rattle.rp_plain.specs.Meaning.{Meaning, schema_named, schema_of, when, key_fault, is_no_partner, unseen, lacks}
use Rattle.rp_plain.specs.Files.{too_large}

abbrev pub instance_in : Option ModelContent → ℕ → Option Instance
instance_in None name = None
instance_in (Some h) name = instance_of name h.content.instances

abbrev pub is_absent : Option Instance → Option Refusal
is_absent found = when (not (is_some found)) refusal.NoSuchInstance

-- ---- get

-- its line in canonical text, by the model's schema
abbrev pub line_by : Option Checked → Option Instance → Text
line_by (Some schema) (Some i) = instance_text (instance_tree schema i)
line_by _ _ = []

abbrev pub get : Readers → Key → ℕ → Meaning
get a k name = let found = instance_in (a.content k) name in record {
  tests = key_fault k ∷ is_no_partner a k.owner ∷ unseen (a.model_right k) ∷ is_absent found ∷ [];
  reply = Line (line_by (schema_of a.schemas (a.content k)) found);
  edits = [];
}

-- ---- what the text of one instance says

abbrev pub Saying : Type 0
Saying = Result Instance Refusal

abbrev pub told : Result Instance InstanceFault → Saying
told (Ok i) = Ok i
told (Err fault) = Err (refusal.InstanceFault fault)

abbrev pub bound_by : Option Checked → (ℕ → Bool) → ℕ → Mapping → Saying
bound_by None defined name mapping = Err refusal.UnknownSchema
bound_by (Some schema) defined name mapping = told (bound_instance schema defined name mapping)

-- the names that a reference may have: the instances and links of the model
abbrev pub is_defined : Content → ℕ → Bool
is_defined x = is_among (names x.instances ++ link_names x.links)

-- the instance of this name that a text is by the model's schema, or the first that holds of why it is refused
abbrev pub said_by : List Checked → ModelContent → ℕ → Result Mapping FileFault → Saying
said_by schemas h name (Err fault) = Err (refusal.FileFault fault)
said_by schemas h name (Ok mapping) = bound_by (schema_named schemas h.schema) (is_defined h.content) name mapping

abbrev pub said : List Checked → Option ModelContent → ℕ → Text → Saying
said schemas None name text = Err refusal.NoSuchItem
said schemas (Some h) name text = said_by schemas h name (mapping_of text)

abbrev pub refused : Saying → Option Refusal
refused (Ok i) = None
refused (Err refusal) = Some refusal

-- the instance stands in the model from now on
abbrev pub placing : Key → Option ModelContent → Saying → List Edit
placing k (Some h) (Ok i) = EditModel k (Holds (Some (with_instance i h))) ∷ []
placing k _ _ = []

-- ---- add

abbrev pub next_in : Option ModelContent → ℕ
next_in None = 0
next_in (Some h) = next_name h

-- all instances that it may have are there, or its last name is used
abbrev pub is_full : Option ModelContent → Option Refusal
is_full None = None
is_full (Some h) = when (nat_le max_name h.greatest || nat_le max_instances (length h.content.instances)) refusal.TooMany

abbrev pub add : Readers → Key → Text → Meaning
add a k text = let new = said a.schemas (a.content k) (next_in (a.content k)) text in record {
  tests = too_large text ∷ key_fault k ∷ is_no_partner a k.owner ∷ lacks Writes (a.model_right k) ∷ refused new ∷ is_full (a.content k) ∷ [];
  reply = Added (next_in (a.content k));
  edits = placing k (a.content k) new;
}

-- ---- set

abbrev pub set : Readers → Key → ℕ → Text → Meaning
set a k name text = let new = said a.schemas (a.content k) name text in record {
  tests = too_large text ∷ key_fault k ∷ is_no_partner a k.owner ∷ lacks Writes (a.model_right k) ∷ refused new ∷ is_absent (instance_in (a.content k) name) ∷ [];
  reply = Done;
  edits = placing k (a.content k) new;
}

-- ---- drop

-- another instance refers to it
abbrev pub is_needed : ℕ → Option ModelContent → Option Refusal
is_needed name None = None
is_needed name (Some h) = when (is_used name h.content.instances) refusal.InUse

abbrev pub dropping : Key → ℕ → Option ModelContent → List Edit
dropping k name None = []
dropping k name (Some h) = EditModel k (Holds (Some (without_instance name h))) ∷ []

abbrev pub drop_instance : Readers → Key → ℕ → Meaning
drop_instance a k name = record {
  tests = key_fault k ∷ is_no_partner a k.owner ∷ lacks Writes (a.model_right k) ∷ is_absent (instance_in (a.content k) name) ∷ is_needed name (a.content k) ∷ [];
  reply = Done;
  edits = dropping k name (a.content k);
}
