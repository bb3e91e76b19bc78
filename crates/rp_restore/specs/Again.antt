-- What was written is held again.
use Rattle.std.specs.Prelude.{◌≡◌, ℕ, List, Result, Ok, Err}
use Rattle.json.specs.Token.{Token}
use Rattle.plain_data.specs.declared.failure.Failure.{Failure}
use Rattle.plain_data.specs.declared.failure.Failure.TheVariants as failure
use Rattle.rp_rows.specs.declared.rows.ModelContent.{ModelContent}
use Rattle.rp_rows.specs.Rows.{Model, GroupRow}
use Rattle.rp_plain.specs.Plain.{Plain}
use Rattle.rp_core.specs.Held.{Kept}
use Rattle.rp_restore_laws.specs.Restoring.{with_models}
use Rattle.rp_restore_laws.specs.Laws.{MayTakeModels}
use Rattle.rp_restored_rows.specs.declared.models.RestoredModel.{RestoredModel}
use Rattle.rp_restored_rows.specs.Models.{model_of}
use Rattle.rp_snapshot_rows.specs.Written.{group_data, model_data}
use Rattle.rp_json.specs.Tokens.{tokens_of}
use Rattle.rp_restore.specs.declared.fault.RestoreFault.{RestoreFault}
use Rattle.rp_restore.specs.declared.fault.RestoreFault.TheVariants.{NoMemory}
use Rattle.rp_restore.specs.declared.fault.RowReason.{RowReason}
use Rattle.rp_restore.specs.declared.fault.SnapshotLack.{SnapshotLack}

-- this is what a function returned
abbrev pub Gives : {X Y E : Type 0} → (X → Y) → Result X E → Y → Type 0
Gives view (Ok x) y = view x ≡ y
Gives view (Err e) y = ⊥

-- a function returned this and left these tokens, unless memory ran out
abbrev pub ReadsAgain : {X Y : Type 0} → (X → Y) → Result X (Failure SnapshotLack) → Y → List Token → List Token → Type 0
ReadsAgain view (Ok x) y new rest = (view x ≡ y) × (new ≡ rest)
ReadsAgain view (Err e) y new rest = e ≡ failure.NoMemory

-- a function passed over what stood first, unless memory ran out
abbrev pub Passes : Result (Unit {0}) (Failure SnapshotLack) → List Token → List Token → Type 0
Passes (Ok x) new rest = new ≡ rest
Passes (Err e) new rest = e ≡ failure.NoMemory

-- this model was taken, unless memory ran out
abbrev pub TakesModel : Result RestoredModel (Failure RowReason) → Model → Type 0
TakesModel (Ok x) m = model_of x ≡ m
TakesModel (Err e) m = e ≡ failure.NoMemory

-- this is held now, and these tokens are left, unless memory ran out
abbrev pub HoldsAgain : Result (Unit {0}) (Failure SnapshotLack) → Plain → Plain → List Token → List Token → Type 0
HoldsAgain (Ok x) r held new rest = (held ≡ r) × (new ≡ rest)
HoldsAgain (Err e) r held new rest = e ≡ failure.NoMemory

-- the groups are held, these models may be put, and then it is this repository, unless memory ran out
abbrev pub GroupsHeld : Result (Unit {0}) (Failure SnapshotLack) → List Model → Plain → Plain → List Token → List Token → Type 0
GroupsHeld (Ok x) ms r held new rest = MayTakeModels ms held × (with_models ms held ≡ r) × (new ≡ rest)
GroupsHeld (Err e) ms r held new rest = e ≡ failure.NoMemory

-- this repository is held, unless memory ran out
abbrev pub Restores : Result (Unit {0}) (Failure SnapshotLack) → Plain → Plain → Type 0
Restores (Ok x) r held = held ≡ r
Restores (Err e) r held = e ≡ failure.NoMemory

abbrev pub ComesBack : Result Kept RestoreFault → Plain → Type 0
ComesBack (Ok x) r = x.content ≡ r
ComesBack (Err e) r = e ≡ NoMemory

-- ---- tokens of rows

abbrev pub group_tokens : GroupRow → List Token
group_tokens g = tokens_of (group_data g)

abbrev pub model_tokens : (ModelContent → List ℕ) → Model → List Token
model_tokens file m = tokens_of (model_data (file m.holds) m)
