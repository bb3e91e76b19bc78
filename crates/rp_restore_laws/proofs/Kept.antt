-- The edits of a valid row that is new are fit, and so it keeps a repository valid.
use Rattle.std.proofs.Common.{List, [], ◌∷◌, map, Some, sym, subst}
use Rattle.std.specs.List.{AllByRecursion}
use Rattle.rp_rows.specs.declared.rows.Grant.{Grant}
use Rattle.rp_rows.specs.declared.rows.Key.{Key}
use Rattle.rp_rows.specs.Rows.{row_key, Model, GroupRow}
use Rattle.rp_rows.specs.Alterations.{Holds}
use Rattle.rp_plain.specs.Plain.{Plain}
use Rattle.rp_plain.specs.Edits.{EditModel, EditGroup, edited_by}
use Rattle.rp_plain.specs.Valid.{IsValidGrant, IsRead, IsValid}
use Rattle.rp_laws.proofs.ValidEdits.{AreFit, changed_valid}
use Rattle.rp_restore_laws.specs.Restoring.{with_model, with_group}
use Rattle.rp_restore_laws.specs.Laws.{model_grant, group_grant, model_edits, group_edits, MayTakeModel, MayTakeGroup}
use Rattle.rp_restore_laws.proofs.ByEdits.{model_is_edits, group_is_edits}

-- ---- grants

model_grants_fit : (r : Plain) (k : Key) (gs : List Grant) → AllByRecursion (IsValidGrant r.partners k.owner) gs → AreFit r (map (model_grant k) gs)
model_grants_fit r k [] valid = tt
model_grants_fit r k (g ∷ gs) valid = (record { valid = valid.0; level = tt }, model_grants_fit (edited_by (model_grant k g) r) k gs valid.1)

group_grants_fit : (r : Plain) (k : Key) (gs : List Grant) → AllByRecursion (IsValidGrant r.partners k.owner) gs → AllByRecursion IsRead gs → AreFit r (map (group_grant k) gs)
group_grants_fit r k [] valid levels = tt
group_grants_fit r k (g ∷ gs) valid levels = (record { valid = valid.0; level = levels.0 }, group_grants_fit (edited_by (group_grant k g) r) k gs valid.1 levels.1)

-- ---- rows

model_fit : (r : Plain) (m : Model) → MayTakeModel r m → AreFit r (model_edits m)
model_fit r m may = (
  record { owner = may.valid.row.owner; name = may.valid.row.name; valid = may.valid.content; room = λ none. may.room },
  model_grants_fit (edited_by (EditModel (row_key m) (Holds (Some m.holds))) r) (row_key m) m.grants may.valid.row.grantees,
)

group_fit : (r : Plain) (g : GroupRow) → MayTakeGroup r g → AreFit r (group_edits g)
group_fit r g may = (
  record {
    owner = may.valid.row.owner;
    name = may.valid.row.name;
    valid = record { schema = may.valid.schema; members = may.valid.members; order = may.valid.order; few = may.valid.few };
    room = λ none. may.room;
  },
  group_grants_fit (edited_by (EditGroup (row_key g) (Holds (Some g.holds))) r) (row_key g) g.grants may.valid.row.grantees may.valid.levels,
)

pub model_keeps_valid : (r : Plain) (m : Model) → MayTakeModel r m → IsValid r → IsValid (with_model m r)
model_keeps_valid r m may valid =
    subst IsValid (sym (model_is_edits r m may.valid.row.grants may.new)) (changed_valid (model_edits m) r valid (model_fit r m may))

pub group_keeps_valid : (r : Plain) (g : GroupRow) → MayTakeGroup r g → IsValid r → IsValid (with_group g r)
group_keeps_valid r g may valid =
    subst IsValid (sym (group_is_edits r g may.valid.row.grants may.new)) (changed_valid (group_edits g) r valid (group_fit r g may))
