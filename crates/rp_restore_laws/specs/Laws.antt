-- What holds of restoring.
use Rattle.std.specs.Prelude.{◌≡◌, ◌<◌, List, [], ◌∷◌, length, map, filter, Some, None}
use Rattle.std.specs.List.{find}
use Rattle.sorted_tables.specs.Table.{IsAscending}
use Rattle.rp_rows.specs.declared.rows.Grant.{Grant}
use Rattle.rp_rows.specs.declared.rows.Key.{Key}
use Rattle.rp_rows.specs.Rows.{text_cmp, grant_key, row_key, is_row, Model, GroupRow}
use Rattle.rp_rows.specs.Listings.{max_models, max_groups}
use Rattle.rp_rows.specs.Sight.{owns}
use Rattle.rp_rows.specs.Alterations.{Holds, Grants}
use Rattle.rp_plain.specs.Plain.{Plain}
use Rattle.rp_plain.specs.Edits.{Edit, EditModel, EditGroup, changed}
use Rattle.rp_plain.specs.Opening.{opened}
use Rattle.rp_plain.specs.Valid.{IsValidModel, IsValidGroup, IsOrdered, IsValid}
use Rattle.rp_restore_laws.specs.Restoring.{with_model, with_group, with_rows}

-- ---- a row as edits

-- what a partner may do with a model, or with a group
abbrev pub model_grant : Key → Grant → Edit
model_grant k g = EditModel k (Grants g.partner (Some g.level))

abbrev pub group_grant : Key → Grant → Edit
group_grant k g = EditGroup k (Grants g.partner (Some g.level))

-- the edits that make a row: of what it holds, and then of each of its grants
abbrev pub model_edits : Model → List Edit
model_edits m = EditModel (row_key m) (Holds (Some m.holds)) ∷ map (model_grant (row_key m)) m.grants

abbrev pub group_edits : GroupRow → List Edit
group_edits g = EditGroup (row_key g) (Holds (Some g.holds)) ∷ map (group_grant (row_key g)) g.grants

-- where no row of its key stands, a row whose grants are in order is put by its edits
abbrev pub ModelIsEdits : Type 0
ModelIsEdits = (r : Plain) (m : Model) → IsAscending text_cmp grant_key m.grants → find (is_row (row_key m)) r.models ≡ None → with_model m r ≡ changed (model_edits m) r

abbrev pub GroupIsEdits : Type 0
GroupIsEdits = (r : Plain) (g : GroupRow) → IsAscending text_cmp grant_key g.grants → find (is_row (row_key g)) r.groups ≡ None → with_group g r ≡ changed (group_edits g) r

-- ---- validity

-- a valid row that is new, and for which its owner has room
pub record MayTakeModel (r : Plain) (m : Model) : Type 0 where
  pub valid : IsValidModel r.schemas r.partners m
  pub new : find (is_row (row_key m)) r.models ≡ None
  pub room : length (filter (owns m.owner) r.models) < max_models

pub record MayTakeGroup (r : Plain) (g : GroupRow) : Type 0 where
  pub valid : IsValidGroup r.schemas r.partners g
  pub new : find (is_row (row_key g)) r.groups ≡ None
  pub room : length (filter (owns g.owner) r.groups) < max_groups

-- it keeps the repository valid
abbrev pub ModelKeepsValid : Type 0
ModelKeepsValid = (r : Plain) (m : Model) → MayTakeModel r m → IsValid r → IsValid (with_model m r)

abbrev pub GroupKeepsValid : Type 0
GroupKeepsValid = (r : Plain) (g : GroupRow) → MayTakeGroup r g → IsValid r → IsValid (with_group g r)

-- ---- all rows

-- the rows of a repository, put one by one in their order into the one that is opened, give it
abbrev pub RowsGive : Type 0
RowsGive = (r : Plain) → IsOrdered r → with_rows r.groups r.models (opened r.schemas r.partners) ≡ r

-- these models may be put one by one
abbrev pub MayTakeModels : List Model → Plain → Type 0
MayTakeModels [] r = Unit {0}
MayTakeModels (m ∷ ms) r = MayTakeModel r m × MayTakeModels ms (with_model m r)

-- these groups may be put one by one, and then these models
abbrev pub MayTakeRows : List GroupRow → List Model → Plain → Type 0
MayTakeRows [] ms r = MayTakeModels ms r
MayTakeRows (g ∷ gs) ms r = MayTakeGroup r g × MayTakeRows gs ms (with_group g r)

-- so may those of a valid repository, into the one that is opened
abbrev pub RowsMayBeTaken : Type 0
RowsMayBeTaken = (r : Plain) → IsValid r → MayTakeRows r.groups r.models (opened r.schemas r.partners)
