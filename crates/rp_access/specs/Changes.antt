-- Changes of who may do what with models, and of groups: what each makes of what is kept, and why it is refused.
use Rattle.std.specs.Prelude.{Bool, nat_le, List, [], length, filter, Option, Some, None, is_some, option_map, ℕ, if◌then◌else◌}
use Rattle.std.specs.List.{find}
use Rattle.std.specs.Str.{bytes_eq}
use Rattle.sorted_tables.specs.Table.{with_row}
use Rattle.rp_rows.specs.declared.rows.Grant.{Grant}
use Rattle.rp_rows.specs.declared.rows.Level.{Level}
use Rattle.rp_rows.specs.declared.rows.Level.TheVariants.{Read}
use Rattle.rp_rows.specs.declared.rows.Listing.{Listing}
use Rattle.rp_rows.specs.declared.rows.Right.{Right}
use Rattle.rp_rows.specs.declared.rows.Right.TheVariants.{Unseen}
use Rattle.rp_rows.specs.declared.rows.Key.{Key}
use Rattle.rp_rows.specs.Rows.{Text, text_cmp, key_cmp, grant_key, Row, is_row, Model, GroupRow}
use Rattle.rp_rows.specs.Listings.{max_models, max_groups, max_members, lists_key, with_member, without_member}
use Rattle.rp_rows.specs.Sight.{owns, level, group_right}
use Rattle.rp_rows.specs.Alterations.{Holds, Grants, altered, grant_for}
use Rattle.rp_store.specs.Entries.{entry_key, is_entry, revalued, standing}
use Rattle.rp_access.specs.Kept.{Rights}
use Rattle.rp_access.specs.declared.changes.Change.{Change}
use Rattle.rp_access.specs.declared.changes.Change.TheVariants.{CreateModel, CreateGroup, RemoveModel, RemoveGroup, GrantModel, GrantGroup, RevokeModel, RevokeGroup, Include, Exclude}
use Rattle.rp_access.specs.declared.changes.AccessFault.{AccessFault}
use Rattle.rp_access.specs.declared.changes.AccessFault.TheVariants.{Exists, Absent, Membership, TooMany}

-- ---- what a change makes of the rights on models

-- one partner's level, or none, in place of any former one
abbrev pub regranted : Text → Option Level → List Grant → List Grant
regranted to l gs = with_row text_cmp grant_key to (grant_for to l) gs

-- the grants on the model of a key
abbrev pub grants_in : Option Rights → List Grant
grants_in None = []
grants_in (Some x) = x.value

abbrev pub grants_at : Key → List Rights → List Grant
grants_at k es = grants_in (find (is_entry k) es)

abbrev pub regranted_on : Key → Text → Option Level → List Rights → List Rights
regranted_on k to l es = with_row key_cmp entry_key k (option_map (revalued (regranted to l)) (find (is_entry k) es)) es

-- a grant to the owner changes nothing
abbrev pub granted_on : Key → Text → Level → List Rights → List Rights
granted_on k to l es = if bytes_eq to k.owner then es else regranted_on k to (Some l) es

abbrev pub models_after : Change → List Rights → List Rights
models_after (CreateModel k) es = with_row key_cmp entry_key k (Some (standing k [] (find (is_entry k) es))) es
models_after (RemoveModel k) es = with_row key_cmp entry_key k None es
models_after (GrantModel k to l) es = granted_on k to l es
models_after (RevokeModel k to) es = regranted_on k to None es
models_after _ es = es

-- ---- what it makes of the groups

abbrev pub granted : {A : Type 0} → Key → Text → Level → List (Row A) → List (Row A)
granted k to l rows = if bytes_eq to k.owner then rows else altered k (Grants to (Some l)) rows

abbrev pub relisted_at : Key → (Listing → Listing) → Option GroupRow → List GroupRow → List GroupRow
relisted_at k change None gs = gs
relisted_at k change (Some g) gs = altered k (Holds (Some (change g.holds))) gs

abbrev pub groups_after : Change → List GroupRow → List GroupRow
groups_after (CreateGroup k schema) gs = altered k (Holds (Some (record { schema = schema; members = [] }))) gs
groups_after (RemoveGroup k) gs = altered k (Holds None) gs
groups_after (GrantGroup k to) gs = granted k to Read gs
groups_after (RevokeGroup k to) gs = altered k (Grants to None) gs
groups_after (Include k m) gs = relisted_at k (with_member m) (find (is_row k) gs) gs
groups_after (Exclude k m) gs = relisted_at k (without_member m) (find (is_row k) gs) gs
groups_after _ gs = gs

-- ---- why it is refused

-- an item is there, or its owner has as many as he may
abbrev pub is_new : Bool → ℕ → ℕ → Option AccessFault
is_new there count most = if there then Some Exists else (if nat_le most count then Some TooMany else None)

abbrev pub is_there : Bool → Option AccessFault
is_there there = if there then None else Some Absent

abbrev pub has_rights : Key → List Rights → Bool
has_rights k es = is_some (find (is_entry k) es)

abbrev pub has_group : Key → List GroupRow → Bool
has_group k gs = is_some (find (is_row k) gs)

abbrev pub is_listable : Key → Option GroupRow → Option AccessFault
is_listable m None = Some Absent
is_listable m (Some g) = if lists_key m g.holds.members then Some Membership else (if nat_le max_members (length g.holds.members) then Some TooMany else None)

abbrev pub is_unlistable : Key → Option GroupRow → Option AccessFault
is_unlistable m None = Some Absent
is_unlistable m (Some g) = if lists_key m g.holds.members then None else Some Membership

-- a model that is included is there; one that is excluded isn't looked at
abbrev pub fault : List Rights → List GroupRow → Change → Option AccessFault
fault es gs (CreateModel k) = is_new (has_rights k es) (length (filter (λ x. bytes_eq x.key.owner k.owner) es)) max_models
fault es gs (CreateGroup k schema) = is_new (has_group k gs) (length (filter (owns k.owner) gs)) max_groups
fault es gs (RemoveModel k) = is_there (has_rights k es)
fault es gs (RemoveGroup k) = is_there (has_group k gs)
fault es gs (GrantModel k to l) = is_there (has_rights k es)
fault es gs (GrantGroup k to) = is_there (has_group k gs)
fault es gs (RevokeModel k to) = is_there (has_rights k es)
fault es gs (RevokeGroup k to) = is_there (has_group k gs)
fault es gs (Include k m) = if has_rights m es then is_listable m (find (is_row k) gs) else Some Absent
fault es gs (Exclude k m) = is_unlistable m (find (is_row k) gs)

-- ---- who may do what

abbrev pub right_on_model : List GroupRow → Text → Option Model → Right
right_on_model gs c None = Unseen
right_on_model gs c (Some m) = level gs c m

abbrev pub right_on_group : Text → Option GroupRow → Right
right_on_group c None = Unseen
right_on_group c (Some g) = group_right c g
