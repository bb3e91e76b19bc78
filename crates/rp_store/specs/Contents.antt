-- Edits of what a model holds.
use Rattle.std.specs.Prelude.{ℕ, ◌<◌, List, [], Option, length}
use Rattle.rp_value.specs.declared.value.Value.{Value}
use Rattle.rp_content.specs.declared.content.Content.{Content}
use Rattle.rp_content.specs.declared.instance.Entities.{Entities}
use Rattle.rp_content.specs.Headers.{default_header}
use Rattle.rp_content.specs.Names.{Takes}
use Rattle.rp_rows.specs.declared.rows.ModelContent.{ModelContent}
use Rattle.rp_index.specs.declared.index.Index.{Index}
use Rattle.rp_index.specs.Index.{IsIndexOf}
use Rattle.rp_rows.specs.Contents.{greatest_of}
use Rattle.rp_rows.specs.Instances.{next_name, with_instance, without_instance}
use Rattle.rp_store.specs.declared.changes.Edit.{Edit}
use Rattle.rp_store.specs.declared.changes.Edit.TheVariants.{Refill, Place, Drop}

-- nothing, by this schema
abbrev pub new_model : List ℕ → ModelContent
new_model schema = record { schema = schema; greatest = 0; content = record { header = default_header; instances = []; links = [] } }

-- this content in place of the former
abbrev pub refilled : Content → ModelContent → ModelContent
refilled content h = record h { greatest = greatest_of h.greatest content; content = content }

-- one instance more, under the greatest name and one
abbrev pub added : Entities → List Value → ModelContent → ModelContent
added entities values h = with_instance (record { name = next_name h; entities = entities; values = values }) h

abbrev pub edited_by : Edit → ModelContent → ModelContent
edited_by (Refill content index) = refilled content
edited_by (Place i spare index) = with_instance i
edited_by (Drop n index) = without_instance n

-- there is room in so much memory for one more instance
abbrev pub HasRoomIn : ℕ → ModelContent → Type 0
HasRoomIn room h = length h.content.instances < room

-- an index, if there is one, covers what is held after a change
abbrev pub IsIndexAfter : (ModelContent → ModelContent) → Option Index → ModelContent → Type 0
IsIndexAfter f index h = IsIndexOf (f h).content index

-- it has the room that it takes, and the index that then holds
abbrev pub EditFits : Edit → ModelContent → Type 0
EditFits (Refill content index) h = IsIndexOf content index
EditFits (Place i spare index) h = Takes spare i.name h.content.instances × IsIndexAfter (with_instance i) index h
EditFits (Drop n index) h = IsIndexAfter (without_instance n) index h
