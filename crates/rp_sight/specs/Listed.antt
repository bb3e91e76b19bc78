-- The models that count in a group, found by a walk over its members.
use Rattle.std.specs.Prelude.{Bool, false, ◌&&◌, List, [], ◌∷◌, map, Option, Some, None, if◌then◌else◌}
use Rattle.std.specs.List.{find}
use Rattle.std.specs.Str.{bytes_eq}
use Rattle.rp_rows.specs.declared.rows.Key.{Key}
use Rattle.rp_rows.specs.Rows.{is_row, Model, GroupRow}
use Rattle.rp_rows.specs.Sight.{counts, may_group}
use Rattle.rp_sight.specs.declared.members.Member.{Member}

-- what is asked of a model that the group lists
abbrev pub fits : GroupRow → Model → Bool
fits g m = bytes_eq m.holds.schema g.holds.schema && may_group g.owner m

-- a model that was looked up, if it counts
abbrev pub counting : GroupRow → Option Model → List Model
counting g None = []
counting g (Some m) = if counts m g then m ∷ [] else []

-- the model at a key, if it counts
abbrev pub counted_at : List Model → GroupRow → Key → List Model
counted_at ms g k = counting g (find (is_row k) ms)

-- ---- members

abbrev pub is_counting : GroupRow → Option Model → Bool
is_counting g None = false
is_counting g (Some m) = counts m g

-- a model that a group lists, and whether it counts
abbrev pub member_in : List Model → GroupRow → Key → Key × Bool
member_in ms g k = (k, is_counting g (find (is_row k) ms))

abbrev pub members_in : List Model → Option GroupRow → List (Key × Bool)
members_in ms None = []
members_in ms (Some g) = map (member_in ms g) g.holds.members

abbrev pub member_of : Member → Key × Bool
member_of m = (m.model.now, m.counts)
