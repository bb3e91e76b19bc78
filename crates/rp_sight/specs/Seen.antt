-- What a partner sees, and what he may do with it.
use Rattle.std.specs.Prelude.{Bool, List, if◌then◌else◌}
use Rattle.std.specs.List.{find}
use Rattle.rp_rows.specs.declared.rows.Right.{Right}
use Rattle.rp_rows.specs.declared.rows.Right.TheVariants.{Owns}
use Rattle.rp_rows.specs.Rows.{Text, Row, Model, GroupRow}
use Rattle.rp_rows.specs.Sight.{owns, is_grant_to, granted_right, level, group_right}
use Rattle.rp_sight.specs.Stored.{row_of}
use Rattle.rp_sight.specs.declared.visible.Seen.{Seen}

-- where a model counts so in the groups that he is granted
abbrev pub level_by : Text → Model → Bool → Right
level_by c m counted = if owns c m then Owns else granted_right (find (is_grant_to c) m.grants) counted

-- what a partner sees, and what he may do with it
abbrev pub seen_model : List GroupRow → Text → Model → Model × Right
seen_model gs c m = (m, level gs c m)

abbrev pub seen_group : Text → GroupRow → GroupRow × Right
seen_group c g = (g, group_right c g)

-- a row that is seen, as it is looked at
abbrev pub seen_of : {A : Type 0} → Seen A → Row A × Right
seen_of s = (row_of s.row, s.right)
