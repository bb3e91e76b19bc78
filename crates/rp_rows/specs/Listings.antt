-- What a group lists, and how many models, groups and members there may be.
use Rattle.std.specs.Prelude.{ℕ, Bool, List, Some, None}
use Rattle.std.specs.List.{list_any}
use Rattle.sorted_tables.specs.Table.{IsAscending, with_row}
use Rattle.rp_rows.specs.declared.rows.Listing.{Listing}
use Rattle.rp_rows.specs.declared.rows.Key.{Key}
use Rattle.rp_rows.specs.Rows.{key_cmp, same_key}

-- the models of one owner
abbrev pub max_models : ℕ
max_models = 100

-- the groups of one owner
abbrev pub max_groups : ℕ
max_groups = 100

-- the members of a group
abbrev pub max_members : ℕ
max_members = 50

abbrev pub itself : Key → Key
itself k = k

-- the members stand in the order of owner and name, each once
abbrev pub IsListed : Listing → Type 0
IsListed g = IsAscending key_cmp itself g.members

-- whether a model is among them
abbrev pub lists_key : Key → List Key → Bool
lists_key k = list_any (same_key k)

-- the list has the model from now on
abbrev pub with_member : Key → Listing → Listing
with_member k g = record g { members = with_row key_cmp itself k (Some k) g.members }

-- it has it no longer
abbrev pub without_member : Key → Listing → Listing
without_member k g = record g { members = with_row key_cmp itself k None g.members }
