-- The requests that put a file into a model, with its links, and that export one.
use Rattle.std.specs.Prelude.{ℕ, Bool, true, false, not, ◌&&◌, ◌||◌, nat_lt, List, [], ◌∷◌, length, Option, Some, None, Result, Ok, Err, if◌then◌else◌}
use Rattle.rp_io.specs.Limits.{file_limit}
use Rattle.ex_types.specs.Checked.{Checked}
use Rattle.p21_tree.specs.declared.raw.Raw.{Raw}
use Rattle.p21_tree.specs.declared.fault.FileFault.{FileFault}
use Rattle.p21_tree.specs.declared.fault.InstanceFault.{InstanceFault}
use Rattle.p21_grammar.specs.File.{file_of}
use Rattle.p21_grammar.specs.Schemas.{is_of_schema}
use Rattle.p21_bind.specs.Files.{bound_file}
use Rattle.p21_canonical.specs.Trees.{canonical}
use Rattle.rp_content.specs.declared.content.Content.{Content}
use Rattle.rp_content.specs.declared.link.Link.{Link}
use Rattle.rp_rows.specs.declared.rows.ModelContent.{ModelContent}
use Rattle.rp_rows.specs.declared.rows.Right.TheVariants.{Writes}
use Rattle.rp_rows.specs.declared.rows.Key.{Key}
use Rattle.rp_rows.specs.Rows.{Text}
use Rattle.rp_rows.specs.Contents.{link_names, greatest_of}
use Rattle.rp_rows.specs.Instances.{max_instances}
use Rattle.rp_rows.specs.Alterations.{Holds}
use Rattle.rp_plain.specs.declared.messages.Refusal.{Refusal}
use Rattle.rp_plain.specs.declared.messages.Refusal.TheVariants as refusal
use Rattle.rp_plain.specs.declared.messages.Reply.{Reply}
use Rattle.rp_plain.specs.declared.messages.Reply.TheVariants.{Stored, File, Linked}
use Rattle.rp_plain.specs.Readers.{Readers}
use Rattle.rp_plain.specs.Edits.{Edit, EditModel}
use Rattle.rp_plain.specs.Meaning.{Meaning, schema_named, schema_of, when, key_fault, is_no_partner, unseen, lacks}
use Rattle.rp_plain.specs.Links.{max_links, linking, no_request, link_refusal}

abbrev pub too_large : Text → Option Refusal
too_large text = when (nat_lt file_limit (length text)) refusal.TooLarge

-- ---- what a file says

-- the content that a file is bound to, or why it is refused
abbrev pub BoundFile : Type 0
BoundFile = Result Content Refusal

abbrev pub told : Result Content InstanceFault → BoundFile
told (Ok content) = Ok content
told (Err fault) = Err (refusal.InstanceFault fault)

abbrev pub bound_by : Option Checked → List ℕ → Raw → BoundFile
bound_by None linked raw = Err refusal.UnknownSchema
bound_by (Some schema) linked raw = told (bound_file schema linked raw)

-- What a file says by the schema of the model that it is for, or the first that holds of why it is refused. Its instances may
-- refer to the names that are linked.
abbrev pub read_for : List Checked → ModelContent → List ℕ → Result Raw FileFault → BoundFile
read_for schemas h linked (Err fault) = Err (refusal.FileFault fault)
read_for schemas h linked (Ok raw) = if is_of_schema h.schema raw then bound_by (schema_named schemas h.schema) linked raw else Err refusal.WrongSchema

abbrev pub read_content : List Checked → Option ModelContent → List ℕ → Result Raw FileFault → BoundFile
read_content schemas None linked file = Err refusal.NoSuchItem
read_content schemas (Some h) linked file = read_for schemas h linked file

-- ---- put

abbrev pub refused : BoundFile → Option Refusal
refused (Ok content) = None
refused (Err refusal) = Some refusal

abbrev pub stored : BoundFile → Reply
stored (Ok content) = Stored (length content.instances)
stored (Err refusal) = Stored 0

-- what is wrong with the links of a model that is to hold what the file says
abbrev pub ill_linked : Readers → Key → Option ModelContent → List Link → BoundFile → Option Refusal
ill_linked a k (Some h) links (Ok content) = link_refusal a k h.schema links content
ill_linked a k _ links _ = None

-- more instances than a model may have, or more links
abbrev pub too_many : List Link → BoundFile → Option Refusal
too_many links (Ok content) = when (nat_lt max_instances (length content.instances) || nat_lt max_links (length links)) refusal.TooMany
too_many links (Err refusal) = None

-- a model that holds this from now on
abbrev pub refilled : ModelContent → Content → ModelContent
refilled h content = record h { greatest = greatest_of h.greatest content; content = content }

abbrev pub filled : Key → Option ModelContent → List Link → BoundFile → List Edit
filled k (Some h) links (Ok content) = EditModel k (Holds (Some (refilled h (linking links content)))) ∷ []
filled k _ links _ = []

abbrev pub put : Readers → Key → Text → List Link → Meaning
put a k file links = let read = read_content a.schemas (a.content k) (link_names links) (file_of file) in record {
  tests = no_request links ∷ too_large file ∷ key_fault k ∷ is_no_partner a k.owner ∷ lacks Writes (a.model_right k) ∷ refused read ∷ ill_linked a k (a.content k) links read ∷ too_many links read ∷ [];
  reply = stored read;
  edits = filled k (a.content k) links read;
}

-- ---- export

-- the canonical text of what a model of this schema holds
abbrev pub text_by : Option Checked → Option ModelContent → Text
text_by (Some schema) (Some h) = canonical schema h.content
text_by _ _ = []

abbrev pub links_of : Option ModelContent → List Link
links_of None = []
links_of (Some h) = h.content.links

-- it has links, and they aren't asked for
abbrev pub has_links : Bool → Option ModelContent → Option Refusal
has_links linked held = when (not linked && nat_lt 0 (length (links_of held))) refusal.HasLinks

abbrev pub exported : Bool → Text → List Link → Reply
exported false file links = File file
exported true file links = Linked file links

abbrev pub export : Readers → Key → Bool → Meaning
export a k linked = record {
  tests = key_fault k ∷ is_no_partner a k.owner ∷ unseen (a.model_right k) ∷ has_links linked (a.content k) ∷ [];
  reply = exported linked (text_by (schema_of a.schemas (a.content k)) (a.content k)) (links_of (a.content k));
  edits = [];
}
