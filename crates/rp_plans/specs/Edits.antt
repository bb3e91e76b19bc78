-- What the edits of a plan are in the plain repository, where a partner is told this, and what speaks against them.
use Rattle.std.specs.Prelude.{◌≡◌, not, nat_le, true, List, [], ◌∷◌, length, Option, Some, None, is_some, Ok, if◌then◌else◌}
use Rattle.std.specs.Str.{bytes_eq}
use Rattle.rp_content.specs.declared.content.Content.{Content}
use Rattle.rp_rows.specs.declared.rows.ModelContent.{ModelContent}
use Rattle.rp_rows.specs.declared.rows.Level.TheVariants.{Read}
use Rattle.rp_rows.specs.declared.rows.Right.TheVariants.{Reads}
use Rattle.rp_rows.specs.declared.rows.Key.{Key}
use Rattle.rp_rows.specs.Rows.{Text}
use Rattle.rp_rows.specs.Listings.{max_models, max_groups, max_members, with_member, without_member}
use Rattle.rp_rows.specs.Sight.{at_least}
use Rattle.rp_rows.specs.Alterations.{Holds, Grants}
use Rattle.rp_plain.specs.declared.messages.Refusal.{Refusal}
use Rattle.rp_plain.specs.declared.messages.Refusal.TheVariants as refusal
use Rattle.rp_plain.specs.Edits as plain
use Rattle.rp_plain.specs.Readers.{Readers}
use Rattle.rp_plain.specs.Meaning.{first_some, when}
use Rattle.rp_plain.specs.Files.{refilled, too_many}
use Rattle.rp_plain.specs.Groups.{is_member, members_of, relisted}
use Rattle.rp_plain.specs.Instances.{instance_in, is_absent, is_full, is_needed, next_in, placing, dropping}
use Rattle.rp_store.specs.declared.changes.Change as store
use Rattle.rp_store.specs.declared.changes.Change.TheVariants as s
use Rattle.rp_store.specs.Contents.{new_model}
use Rattle.rp_access.specs.declared.changes.Change as access
use Rattle.rp_access.specs.declared.changes.Change.TheVariants as r
use Rattle.rp_plans.specs.declared.edits.Edit.{Edit}
use Rattle.rp_plans.specs.declared.edits.Edit.TheVariants.{OfModel, OfRights}

-- ---- the edits

abbrev pub refilling : Key → Option ModelContent → Content → List plain.Edit
refilling k None content = []
refilling k (Some h) content = plain.EditModel k (Holds (Some (refilled h content))) ∷ []

abbrev pub of_model : Readers → store.Change → List plain.Edit
of_model a (s.Create k schema) = plain.EditModel k (Holds (Some (new_model schema))) ∷ []
of_model a (s.Remove k) = plain.EditModel k (Holds None) ∷ []
of_model a (s.Put k content) = refilling k (a.content k) content
of_model a (s.Add k entities values) = placing k (a.content k) (Ok (record { name = next_in (a.content k); entities = entities; values = values }))
of_model a (s.Set k i) = placing k (a.content k) (Ok i)
of_model a (s.DropInstance k n) = dropping k n (a.content k)

-- a grant to the owner is none
abbrev pub unless_own : Key → Text → plain.Edit → List plain.Edit
unless_own k to e = if bytes_eq to k.owner then [] else e ∷ []

abbrev pub of_rights : Readers → access.Change → List plain.Edit
of_rights a (r.CreateModel k) = []
of_rights a (r.RemoveModel k) = []
of_rights a (r.CreateGroup k schema) = plain.EditGroup k (Holds (Some (record { schema = schema; members = [] }))) ∷ []
of_rights a (r.RemoveGroup k) = plain.EditGroup k (Holds None) ∷ []
of_rights a (r.GrantModel k to l) = unless_own k to (plain.EditModel k (Grants to (Some l)))
of_rights a (r.GrantGroup k to) = unless_own k to (plain.EditGroup k (Grants to (Some Read)))
of_rights a (r.RevokeModel k to) = plain.EditModel k (Grants to None) ∷ []
of_rights a (r.RevokeGroup k to) = plain.EditGroup k (Grants to None) ∷ []
of_rights a (r.Include k m) = relisted k (with_member m) (a.listing k)
of_rights a (r.Exclude k m) = relisted k (without_member m) (a.listing k)

abbrev pub edits_of : Readers → Edit → List plain.Edit
edits_of a (OfModel change) = of_model a change
edits_of a (OfRights change) = of_rights a change

-- ---- what the store and the rights know against them: the last tests of their requests

abbrev pub model_fault : Readers → store.Change → Option Refusal
model_fault a (s.Create k schema) = first_some (when (at_least Reads (a.model_right k)) refusal.Exists ∷ when (nat_le max_models a.model_count) refusal.TooMany ∷ [])
model_fault a (s.Remove k) = None
model_fault a (s.Put k content) = too_many content.links (Ok content)
model_fault a (s.Add k entities values) = is_full (a.content k)
model_fault a (s.Set k i) = is_absent (instance_in (a.content k) i.name)
model_fault a (s.DropInstance k n) = first_some (is_absent (instance_in (a.content k) n) ∷ is_needed n (a.content k) ∷ [])

abbrev pub rights_fault : Readers → access.Change → Option Refusal
rights_fault a (r.CreateGroup k schema) = first_some (when (at_least Reads (a.group_right k)) refusal.Exists ∷ when (nat_le max_groups a.group_count) refusal.TooMany ∷ [])
rights_fault a (r.Include k m) =
    let g = a.listing k in
    first_some (when (is_member m g) refusal.Membership ∷ when (nat_le max_members (length (members_of g))) refusal.TooMany ∷ [])
rights_fault a (r.Exclude k m) = when (not (is_member m (a.listing k))) refusal.Membership
rights_fault a _ = None

abbrev pub fault_of : Readers → Edit → Option Refusal
fault_of a (OfModel change) = model_fault a change
fault_of a (OfRights change) = rights_fault a change

-- ---- what they change is seen

abbrev pub SeesModel : Readers → Text → store.Change → Type 0
SeesModel a c (s.Create k schema) = k.owner ≡ c
SeesModel a c (s.Remove k) = is_some (a.content k) ≡ true
SeesModel a c (s.Put k content) = is_some (a.content k) ≡ true
SeesModel a c (s.Add k entities values) = is_some (a.content k) ≡ true
SeesModel a c (s.Set k i) = is_some (a.content k) ≡ true
SeesModel a c (s.DropInstance k n) = is_some (a.content k) ≡ true

abbrev pub SeesRights : Readers → Text → access.Change → Type 0
SeesRights a c (r.CreateModel k) = ⊥
SeesRights a c (r.RemoveModel k) = ⊥
SeesRights a c (r.CreateGroup k schema) = k.owner ≡ c
SeesRights a c (r.RemoveGroup k) = is_some (a.listing k) ≡ true
SeesRights a c (r.GrantModel k to l) = is_some (a.content k) ≡ true
SeesRights a c (r.GrantGroup k to) = is_some (a.listing k) ≡ true
SeesRights a c (r.RevokeModel k to) = is_some (a.content k) ≡ true
SeesRights a c (r.RevokeGroup k to) = is_some (a.listing k) ≡ true
SeesRights a c (r.Include k m) = (is_some (a.listing k) ≡ true) × (is_some (a.content m) ≡ true)
SeesRights a c (r.Exclude k m) = is_some (a.listing k) ≡ true

abbrev pub Sees : Readers → Text → Edit → Type 0
Sees a c (OfModel change) = SeesModel a c change
Sees a c (OfRights change) = SeesRights a c change
