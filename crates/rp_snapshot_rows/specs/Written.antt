-- What a snapshot has of a model and of a group: objects of JSON whose keys stand in byte order.
use Rattle.std.specs.Prelude.{ℕ, List, codes}
use Rattle.serde_json.specs.Data.{Data, string, array, no_items, item, object, Members, no_members, member}
use Rattle.rp_rows.specs.declared.rows.Level.{Level}
use Rattle.rp_rows.specs.declared.rows.Level.TheVariants.{Read, Group, Write}
use Rattle.rp_rows.specs.declared.rows.Grant.{Grant}
use Rattle.rp_rows.specs.declared.rows.Key.{Key}
use Rattle.rp_rows.specs.Rows.{Model, GroupRow}
use Rattle.rp_json.specs.Written.{with_number, with_string, list_of, link_data}

-- a list of two texts
abbrev pub pair_of : List ℕ → List ℕ → Data
pair_of first second = array (item (string first) (item (string second) no_items))

-- ---- grants and members

abbrev pub level_word : Level → List ℕ
level_word Read = codes "read"
level_word Group = codes "group"
level_word Write = codes "write"

-- of a grant on a model: to whom, and the level
abbrev pub grant_data : Grant → Data
grant_data g = pair_of g.partner (level_word g.level)

-- of a grant on a group, which is to read: to whom
abbrev pub reader_data : Grant → Data
reader_data g = string g.partner

-- of a model that a group lists: its owner and its name
abbrev pub member_data : Key → Data
member_data k = pair_of k.owner k.name

-- ---- rows

-- of a row, behind all else: its name, its owner and its schema
abbrev pub row_members : List ℕ → List ℕ → List ℕ → Members
row_members owner name schema = with_string (codes "name") name (with_string (codes "owner") owner (with_string (codes "schema") schema no_members))

-- of a model, where this is written of the header and the instances that it holds
abbrev pub model_data : List ℕ → Model → Data
model_data file m =
    object
    (with_string (codes "file") file
    (member (codes "grants") (list_of grant_data m.grants)
    (with_number (codes "greatest") m.holds.greatest
    (member (codes "links") (list_of link_data m.holds.content.links)
    (row_members m.owner m.name m.holds.schema)))))

abbrev pub group_data : GroupRow → Data
group_data g =
    object
    (member (codes "grants") (list_of reader_data g.grants)
    (member (codes "members") (list_of member_data g.holds.members)
    (row_members g.owner g.name g.holds.schema)))
