-- What a repository in memory holds, and what a prepared request is.
use Rattle.std.specs.Prelude.{◌≡◌, ℕ, List, [], ◌∷◌, map, slice_index_or, Option, Some, None}
use Rattle.rp_rows.specs.declared.rows.ModelContent.{ModelContent}
use Rattle.rp_rows.specs.Rows.{Text, GroupRow}
use Rattle.rp_plain.specs.declared.messages.Request.{Request}
use Rattle.rp_plain.specs.Plain.{Plain}
use Rattle.rp_plain.specs.Runs.{MayReply}
use Rattle.rp_plain.specs.Turns.{Turn, effect, after}
use Rattle.rp_store.specs.declared.changes.Change as store_change
use Rattle.rp_store.specs.declared.changes.Prepared as store
use Rattle.rp_store.specs.Entries.{Entries, entry_key}
use Rattle.rp_store.specs.Models.{Held}
use Rattle.rp_store.specs.Kept.{made as made_in_store, Fits as StoreFits, IsPrepared as IsPreparedFor}
use Rattle.rp_access.specs.Kept.{Rights, KeptAccess}
use Rattle.rp_access.specs.Steps.{prepared_models, prepared_groups, PreparedFits}
use Rattle.rp_access.specs.declared.changes.Change as access
use Rattle.rp_access.specs.declared.access.Prepared as rights
use Rattle.rp_access.specs.declared.access.Prepared.TheVariants.{Nothing}
use Rattle.rp_access.specs.Changes as access_changes
use Rattle.rp_sight.specs.Stored.{joined}
use Rattle.rp_plans.specs.declared.edits.Edit.{Edit}
use Rattle.rp_plans.specs.declared.edits.Edit.TheVariants.{OfModel, OfRights}
use Rattle.rp_core.specs.Faults.{with_rights}
use Rattle.rp_core.specs.declared.steps.Step.{Step}
use Rattle.rp_core.specs.declared.steps.Pending.{Pending}

-- what models hold, and who may do what
pub record Both : Type 0 where
  pub models : Entries ModelContent
  pub access : KeptAccess

-- both have the same models
abbrev pub AreAlike : Both → Type 0
AreAlike b = map entry_key b.models.entries ≡ map entry_key b.access.models.entries

-- the content, and what it is made of
pub record Kept : Type 0 where
  pub content : Plain
  pub both : Both

-- ---- what steps do

abbrev pub made_by : Option store.Prepared → List Held → List Held
made_by None ms = ms
made_by (Some prepared) ms = made_in_store prepared ms

abbrev pub made_entries : List Step → List Held → List Held
made_entries [] ms = ms
made_entries (s ∷ steps) ms = made_entries steps (made_by s.store ms)

abbrev pub made_rights : List Step → List Rights → List Rights
made_rights [] es = es
made_rights (s ∷ steps) es = made_rights steps (prepared_models s.rights es)

abbrev pub made_groups : List Step → List GroupRow → List GroupRow
made_groups [] gs = gs
made_groups (s ∷ steps) gs = made_groups steps (prepared_groups s.rights gs)

abbrev pub made_of : List Step → Both → Plain → Plain
made_of steps b r = record r { models = joined (made_entries steps b.models.entries) (made_rights steps b.access.models.entries); groups = made_groups steps r.groups }

-- what steps leave of what is kept
abbrev pub made : List Step → Kept → Plain
made steps kept = made_of steps kept.both kept.content

-- ---- what steps ask

abbrev pub store_fits : Entries ModelContent → Option store.Prepared → Type 0
store_fits s None = Unit {0}
store_fits s (Some prepared) = StoreFits s prepared

abbrev pub StepFits : Both → Step → Type 0
StepFits b s = store_fits b.models s.store × PreparedFits b.access s.rights

-- what is kept after a step
pub record After (s : Step) (b next : Both) : Type 0 where
  pub models : next.models.entries ≡ made_by s.store b.models.entries
  pub rights : next.access.models.entries ≡ prepared_models s.rights b.access.models.entries
  pub groups : next.access.groups.rows ≡ prepared_groups s.rights b.access.groups.rows

-- each fits what those before it leave
abbrev pub StepsFit : Both → List Step → Type 0
StepsFit b [] = Unit {0}
StepsFit b (s ∷ steps) = StepFits b s × ((next : Both) → After s b next → StepsFit next steps)

-- ---- which steps edits come to

-- nothing speaks against the change of rights, and this makes it
pub record IsRightsMade (change : access.Change) (es : List Rights) (gs : List GroupRow) (prepared : rights.Prepared) : Type 0 where
  pub passes : access_changes.fault es gs change ≡ None
  pub models : prepared_models prepared es ≡ access_changes.models_after change es
  pub groups : prepared_groups prepared gs ≡ access_changes.groups_after change gs

abbrev pub IsRightsOf : Option access.Change → List Rights → List GroupRow → rights.Prepared → Type 0
IsRightsOf None es gs prepared = prepared ≡ Nothing
IsRightsOf (Some change) es gs prepared = IsRightsMade change es gs prepared

pub record IsModelStep (change : store_change.Change) (ms : List Held) (es : List Rights) (gs : List GroupRow) (s : Step) : Type 0 where
  pub prepared : store.Prepared
  pub is : s.store ≡ Some prepared
  pub makes : IsPreparedFor change ms prepared
  pub rights : IsRightsOf (with_rights change) es gs s.rights

-- nothing speaks against the edit of these, and this step makes it
abbrev pub IsStepOf : List Held → List Rights → List GroupRow → Edit → Step → Type 0
IsStepOf ms es gs (OfModel change) s = IsModelStep change ms es gs s
IsStepOf ms es gs (OfRights change) s = (s.store ≡ None) × IsRightsMade change es gs s.rights

abbrev pub AreStepsOf : List Held → List Rights → List GroupRow → List Edit → List Step → Type 0
AreStepsOf ms es gs [] [] = Unit {0}
AreStepsOf ms es gs (e ∷ edits) (s ∷ steps) = IsStepOf ms es gs e s × AreStepsOf ms es gs edits steps
AreStepsOf ms es gs [] (s ∷ steps) = ⊥
AreStepsOf ms es gs (e ∷ edits) [] = ⊥

-- what is pending was prepared for what is held: its steps take no memory, and leave rights on the same models
unfoldable pub Fits : Kept → Pending → Type 0
Fits kept pending = StepsFit kept.both pending.steps × (map entry_key (made_entries pending.steps kept.both.models.entries) ≡ map entry_key (made_rights pending.steps kept.both.access.models.entries))

-- ---- prepared requests

-- the partner at a place of the table
abbrev pub partner_at : Plain → ℕ → Text
partner_at r place = slice_index_or r.partners place []

abbrev pub turn : Plain → ℕ → Request → Turn
turn r place q = record { caller = partner_at r place; request = q }

-- the reply is that of c's turn, and the steps make what the turn leaves
pub record IsPrepared (r : Plain) (b : Both) (t : Turn) (pending : Pending) : Type 0 where
  pub replies : MayReply (effect r t) pending.reply
  pub changes : made_of pending.steps b r ≡ after r t pending.reply
