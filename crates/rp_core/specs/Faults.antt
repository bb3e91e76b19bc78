-- What the store and the rights say against an edit, as refusals.
use Rattle.std.specs.Prelude.{List, [], ◌∷◌, Option, Some, None, option_map}
use Rattle.rp_rows.specs.Rows.{GroupRow}
use Rattle.rp_plain.specs.declared.messages.Refusal.{Refusal}
use Rattle.rp_plain.specs.declared.messages.Refusal.TheVariants as refusal
use Rattle.rp_plain.specs.Meaning.{first_some}
use Rattle.rp_store.specs.declared.changes.Change as store
use Rattle.rp_store.specs.declared.changes.Change.TheVariants as s
use Rattle.rp_store.specs.declared.changes.StoreFault.{StoreFault}
use Rattle.rp_store.specs.declared.changes.StoreFault.TheVariants as of_store
use Rattle.rp_store.specs.Models.{Held}
use Rattle.rp_store.specs.Changes as store_changes
use Rattle.rp_access.specs.Kept.{Rights}
use Rattle.rp_access.specs.declared.changes.Change as access
use Rattle.rp_access.specs.declared.changes.Change.TheVariants.{CreateModel, RemoveModel}
use Rattle.rp_access.specs.declared.changes.AccessFault.{AccessFault}
use Rattle.rp_access.specs.declared.changes.AccessFault.TheVariants as of_access
use Rattle.rp_access.specs.Changes as access_changes
use Rattle.rp_plans.specs.declared.edits.Edit.{Edit}
use Rattle.rp_plans.specs.declared.edits.Edit.TheVariants.{OfModel, OfRights}

abbrev pub store_refusal : StoreFault → Refusal
store_refusal of_store.Exists = refusal.Exists
store_refusal of_store.Absent = refusal.NoSuchItem
store_refusal of_store.TooMany = refusal.TooMany
store_refusal of_store.NoSuchInstance = refusal.NoSuchInstance
store_refusal of_store.InUse = refusal.InUse
store_refusal of_store.NoMemory = refusal.NoMemory

abbrev pub access_refusal : AccessFault → Refusal
access_refusal of_access.Exists = refusal.Exists
access_refusal of_access.Absent = refusal.NoSuchItem
access_refusal of_access.Membership = refusal.Membership
access_refusal of_access.TooMany = refusal.TooMany
access_refusal of_access.NoMemory = refusal.NoMemory

-- what happens to rights where what models hold changes so
abbrev pub with_rights : store.Change → Option access.Change
with_rights (s.Create k schema) = Some (CreateModel k)
with_rights (s.Remove k) = Some (RemoveModel k)
with_rights _ = None

abbrev pub rights_fault : List Rights → List GroupRow → Option access.Change → Option Refusal
rights_fault es gs None = None
rights_fault es gs (Some change) = option_map access_refusal (access_changes.fault es gs change)

-- of a model that is created, how many there are is told before the store is asked
abbrev pub edit_fault : List Held → List Rights → List GroupRow → Edit → Option Refusal
edit_fault ms es gs (OfModel change) = first_some (rights_fault es gs (with_rights change) ∷ option_map store_refusal (store_changes.fault change ms) ∷ [])
edit_fault ms es gs (OfRights change) = rights_fault es gs (Some change)
