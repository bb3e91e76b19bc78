-- What a partner may do with a row, and what he sees of models and groups.
use Rattle.std.specs.Prelude.{ℕ, Bool, true, false, not, ◌&&◌, ◌||◌, nat_le, List, map, filter, Option, Some, None, if◌then◌else◌}
use Rattle.std.specs.List.{find, list_any}
use Rattle.std.specs.Str.{bytes_eq}
use Rattle.rp_rows.specs.declared.rows.Level.{Level}
use Rattle.rp_rows.specs.declared.rows.Level.TheVariants.{Read, Group, Write}
use Rattle.rp_rows.specs.declared.rows.Right.{Right}
use Rattle.rp_rows.specs.declared.rows.Right.TheVariants.{Unseen, Reads, Groups, Writes, Owns}
use Rattle.rp_rows.specs.declared.rows.Grant.{Grant}
use Rattle.rp_rows.specs.declared.rows.Key.{Key}
use Rattle.rp_rows.specs.Rows.{Text, same_key, Row, row_key, Model, GroupRow}

abbrev pub rank : Right → ℕ
rank Unseen = 0
rank Reads = 1
rank Groups = 2
rank Writes = 3
rank Owns = 4

abbrev pub at_least : Right → Right → Bool
at_least needed right = nat_le (rank needed) (rank right)

abbrev pub right_of : Level → Right
right_of Read = Reads
right_of Group = Groups
right_of Write = Writes

abbrev pub owns : {A : Type 0} → Text → Row A → Bool
owns c x = bytes_eq x.owner c

abbrev pub is_grant_to : Text → Grant → Bool
is_grant_to c x = bytes_eq x.partner c

abbrev pub is_granted : {A : Type 0} → Text → Row A → Bool
is_granted c x = list_any (is_grant_to c) x.grants

-- ---- groups

abbrev pub sees_group : Text → GroupRow → Bool
sees_group c g = owns c g || is_granted c g

abbrev pub group_right : Text → GroupRow → Right
group_right c g = if owns c g then Owns else (if is_granted c g then Reads else Unseen)

abbrev pub lists : Key → GroupRow → Bool
lists k g = list_any (same_key k) g.holds.members

abbrev pub is_group_level : Level → Bool
is_group_level Read = false
is_group_level Group = true
is_group_level Write = true

abbrev pub is_group_grant : Text → Grant → Bool
is_group_grant p x = is_grant_to p x && is_group_level x.level

abbrev pub may_group : Text → Model → Bool
may_group p m = owns p m || list_any (is_group_grant p) m.grants

-- a model counts while the group lists it, they are of one schema, and the group's owner may group it
abbrev pub counts : Model → GroupRow → Bool
counts m g = lists (row_key m) g && (bytes_eq m.holds.schema g.holds.schema && may_group g.owner m)

-- ---- models

abbrev pub is_counted : List GroupRow → Text → Model → Bool
is_counted gs c m = list_any (λ g. sees_group c g && counts m g) gs

-- by a grant, else by a group
abbrev pub granted_right : Option Grant → Bool → Right
granted_right (Some x) counted = right_of x.level
granted_right None true = Reads
granted_right None false = Unseen

-- what a partner may do with a model, where these groups are
abbrev pub level : List GroupRow → Text → Model → Right
level gs c m = if owns c m then Owns else granted_right (find (is_grant_to c) m.grants) (is_counted gs c m)

abbrev pub sees : List GroupRow → Text → Model → Bool
sees gs c m = at_least Reads (level gs c m)

-- ---- what a partner sees of tables

-- p is another who owns a seen group that lists the model
abbrev pub is_shared_by : List GroupRow → Text → Key → Text → Bool
is_shared_by gs c k p = list_any (λ g. sees_group c g && (not (owns c g) && (bytes_eq g.owner p && lists k g))) gs

-- c's own grant; and that of another who shares the model in a group that c sees, if it is at least Group
abbrev pub is_shown : List GroupRow → Text → Key → Grant → Bool
is_shown gs c k x = is_grant_to c x || (is_group_level x.level && is_shared_by gs c k x.partner)

abbrev pub shown_grant : Text → Grant → Grant
shown_grant c x = record x { level = if is_grant_to c x then x.level else Group }

abbrev pub shown_grants : List GroupRow → Text → Model → List Grant
shown_grants gs c m = if owns c m then m.grants else map (shown_grant c) (filter (is_shown gs c (row_key m)) m.grants)

abbrev pub shown : List GroupRow → Text → Model → Model
shown gs c m = record m { grants = shown_grants gs c m }

abbrev pub shown_group : Text → GroupRow → GroupRow
shown_group c g = record g { grants = if owns c g then g.grants else filter (is_grant_to c) g.grants }

abbrev pub seen_models : List GroupRow → Text → List Model → List Model
seen_models gs c ms = map (shown gs c) (filter (sees gs c) ms)

abbrev pub seen_groups : Text → List GroupRow → List GroupRow
seen_groups c gs = map (shown_group c) (filter (sees_group c) gs)

-- a group that c sees lists the model
abbrev pub is_listed : List GroupRow → Text → Key → Bool
is_listed gs c k = list_any (λ g. sees_group c g && lists k g) gs
