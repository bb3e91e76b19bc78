-- Changes with all the memory that they take.
use Rattle.std.specs.Prelude.{◌≡◌, ◌<◌, List, Some, None, option_map}
use Rattle.std.specs.List.{find}
use Rattle.sorted_tables.specs.Table.{with_row}
use Rattle.rp_rows.specs.declared.rows.Grant.{Grant}
use Rattle.rp_rows.specs.declared.rows.Key.{Key}
use Rattle.rp_rows.specs.Rows.{key_cmp, Row, GroupRow}
use Rattle.rp_rows.specs.Alterations.{Alteration, Holds, Grants as GrantAltered, altered}
use Rattle.rp_store.specs.Entries.{entry_key, is_entry, with_value, standing}
use Rattle.rp_sight.specs.Kept.{KeptGroups}
use Rattle.rp_sight.specs.Regrants.{RegrantFits}
use Rattle.rp_sight.specs.Told.{AreTold}
use Rattle.rp_sight.specs.Stored.{rewritten}
use Rattle.rp_access.specs.Kept.{Rights, KeptAccess}
use Rattle.rp_access.specs.declared.steps.Altered.{Altered}
use Rattle.rp_access.specs.declared.steps.Altered.TheVariants as altered_to
use Rattle.rp_access.specs.declared.steps.GroupStep.{GroupStep}
use Rattle.rp_access.specs.declared.steps.GroupStep.TheVariants as group
use Rattle.rp_access.specs.declared.access.Prepared.{Prepared}
use Rattle.rp_access.specs.declared.access.Prepared.TheVariants.{Open, Close, Regrant, OfGroup}

-- a change of what stands under a key, as definitions have it
abbrev pub alteration_of : {A : Type 0} → Altered A → Alteration A
alteration_of (altered_to.Hold a) = Holds (Some a)
alteration_of altered_to.Remove = Holds None
alteration_of (altered_to.Grants to l) = GrantAltered to l

-- ---- groups

abbrev pub regranted_row : {A : Type 0} → Key → List Grant → List (Row A) → List (Row A)
regranted_row k gs rows = rewritten k (λ x. record x { grants = gs }) rows

abbrev pub group_stepped : Key → GroupStep → List GroupRow → List GroupRow
group_stepped k (group.Put again a) gs = altered k (Holds (Some a)) gs
group_stepped k group.Remove gs = altered k (Holds None) gs
group_stepped k (group.Regrant r) gs = regranted_row k r.grants gs

abbrev pub GroupFits : Key → GroupStep → KeptGroups → Type 0
GroupFits k (group.Put again a) gs = (again ≡ k) × (0 < gs.room) × (0 < gs.right_room) × AreTold k a.members gs.listers
GroupFits k group.Remove gs = Unit {0}
GroupFits k (group.Regrant r) gs = RegrantFits k r gs

-- ---- prepared changes: what they make, and what they ask

abbrev pub prepared_models : Prepared → List Rights → List Rights
prepared_models (Open k gs) es = with_row key_cmp entry_key k (Some (standing k gs (find (is_entry k) es))) es
prepared_models (Close k) es = with_row key_cmp entry_key k None es
prepared_models (Regrant k gs) es = with_row key_cmp entry_key k (option_map (with_value gs) (find (is_entry k) es)) es
prepared_models _ es = es

abbrev pub prepared_groups : Prepared → List GroupRow → List GroupRow
prepared_groups (OfGroup k step) gs = group_stepped k step gs
prepared_groups _ gs = gs

-- it was prepared for what is kept: it takes no memory
abbrev pub PreparedFits : KeptAccess → Prepared → Type 0
PreparedFits kept (Open k gs) = 0 < kept.models.room
PreparedFits kept (OfGroup k step) = GroupFits k step kept.groups
PreparedFits kept _ = Unit {0}
