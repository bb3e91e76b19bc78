-- One partner's grant on a group, as it is to be, with all the memory that it takes.
use Rattle.std.specs.Prelude.{◌≡◌, ◌<◌}
use Rattle.std.specs.List.{find}
use Rattle.sorted_tables.specs.Table.{with_row}
use Rattle.rp_rows.specs.declared.rows.Key.{Key}
use Rattle.rp_rows.specs.Rows.{text_cmp, grant_key, is_row}
use Rattle.rp_rows.specs.Alterations.{grant_for, grants_of}
use Rattle.rp_sight.specs.declared.groups.Regrant.{Regrant}
use Rattle.rp_sight.specs.Granted.{names_at, relisted}
use Rattle.rp_sight.specs.Kept.{KeptGroups}

-- the grants on the group with one partner's as it is to be, and the names under him and the owner
abbrev pub RegrantFits : Key → Regrant → KeptGroups → Type 0
RegrantFits k r gs = (r.grants ≡ with_row text_cmp grant_key r.under.owner (grant_for r.under.owner r.level) (grants_of (find (is_row k) gs.rows))) × (r.under.name ≡ k.owner) × (r.names ≡ relisted k.name r.level (names_at r.under gs.names)) × (0 < gs.name_room)
