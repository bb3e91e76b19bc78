-- Lists of instances in the order of their names, and edits of one instance of what a model holds.
use Rattle.std.specs.Prelude.{ℕ, ◌+◌, max, Bool, not, ◌&&◌, ◌==◌, List, Option, Some, None}
use Rattle.std.specs.List.{find, list_any}
use Rattle.std.specs.Ordering.{nat_cmp}
use Rattle.sorted_tables.specs.Table.{is_at, with_row, IsAscending}
use Rattle.rp_content.specs.declared.instance.Instance.{Instance}
pub use Rattle.p21_tree.specs.Names.{max_name}
use Rattle.rp_rows.specs.declared.rows.ModelContent.{ModelContent}
use Rattle.rp_rows.specs.Contents.{instance_name, references_of}

-- the instances of a model
abbrev pub max_instances : ℕ
max_instances = 200000

abbrev pub is_instance : ℕ → Instance → Bool
is_instance = is_at nat_cmp instance_name

-- the instance of a name
abbrev pub instance_of : ℕ → List Instance → Option Instance
instance_of n = find (is_instance n)

-- this one stands under its name from now on
abbrev pub placed : Instance → List Instance → List Instance
placed i = with_row nat_cmp instance_name i.name (Some i)

-- none stands under the name from now on
abbrev pub dropped : ℕ → List Instance → List Instance
dropped n = with_row nat_cmp instance_name n None

abbrev pub IsInOrder : List Instance → Type 0
IsInOrder = IsAscending nat_cmp instance_name

-- ---- uses

abbrev pub refers_to : ℕ → Instance → Bool
refers_to n i = list_any (λ m. m == n) (references_of i)

-- another instance than that of the name, which refers to it
abbrev pub is_user : ℕ → Instance → Bool
is_user n i = not (i.name == n) && refers_to n i

abbrev pub is_used : ℕ → List Instance → Bool
is_used n = list_any (is_user n)

-- ---- edits of what a model holds

-- the name of the next instance that is added
abbrev pub next_name : ModelContent → ℕ
next_name h = h.greatest + 1

-- the instance stands under its name
abbrev pub with_instance : Instance → ModelContent → ModelContent
with_instance i h = record h { greatest = max h.greatest i.name; content = record h.content { instances = placed i h.content.instances } }

-- no instance stands under the name
abbrev pub without_instance : ℕ → ModelContent → ModelContent
without_instance n h = record h { content = record h.content { instances = dropped n h.content.instances } }
