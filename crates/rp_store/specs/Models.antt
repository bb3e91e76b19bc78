-- What models hold, in the order of owner and name.
use Rattle.std.specs.Prelude.{ℕ, List, Option, Some, None, option_map}
use Rattle.std.specs.List.{find}
use Rattle.sorted_tables.specs.Table.{with_row}
use Rattle.rp_content.specs.declared.instance.Instance.{Instance}
use Rattle.rp_rows.specs.declared.rows.ModelContent.{ModelContent}
use Rattle.rp_rows.specs.declared.rows.Key.{Key}
use Rattle.rp_rows.specs.Rows.{key_cmp}
use Rattle.rp_rows.specs.Instances.{instance_of}
use Rattle.rp_store.specs.declared.keyed.Entry.{Entry}
use Rattle.rp_store.specs.Entries.{entry_key, is_entry}

-- a model's owner and name, and what it holds
abbrev pub Held : Type 0
Held = Entry ModelContent

-- what the model of a key holds
abbrev pub held_at : Key → List Held → Option ModelContent
held_at k ms = option_map (λ m. m.value) (find (is_entry k) ms)

abbrev pub instance_in : ℕ → Option ModelContent → Option Instance
instance_in n None = None
instance_in n (Some h) = instance_of n h.content.instances

-- the instance of a name in the model of a key
abbrev pub instance_at : Key → ℕ → List Held → Option Instance
instance_at k n ms = instance_in n (held_at k ms)

abbrev pub model : Key → ModelContent → Held
model k h = record { key = k; value = h }

-- the model of a key holds this from now on, or is gone
abbrev pub with_model : Key → Option ModelContent → List Held → List Held
with_model k h = with_row key_cmp entry_key k (option_map (model k) h)

-- what the model of a key holds is changed so, if there is one
abbrev pub edited : Key → (ModelContent → ModelContent) → List Held → List Held
edited k f ms = with_model k (option_map f (held_at k ms)) ms
