-- Changes of what models hold: whatever stands elsewhere, each step makes what its edit says.
use Rattle.std.proofs.Common.{◌≡◌, List, [], ◌∷◌, ◌++◌, Some, None, Ok, refl, sym, ◌∙◌, ap, subst}
use Rattle.std.specs.List.{find, flat_map, AllByRecursion}
use Rattle.rp_rows.specs.declared.rows.Key.{Key}
use Rattle.rp_rows.specs.declared.rows.ModelContent.{ModelContent}
use Rattle.rp_rows.specs.Rows.{is_row, Model, GroupRow}
use Rattle.rp_rows.specs.Instances.{with_instance, without_instance}
use Rattle.rp_rows.specs.Alterations.{Holds, altered}
use Rattle.rp_plain.specs.Plain.{Plain}
use Rattle.rp_plain.specs.Edits.{EditModel, changed}
use Rattle.rp_plain.specs.Readers.{Readers}
use Rattle.rp_plain.specs.Instances.{placing, dropping, next_in}
use Rattle.rp_store.specs.declared.changes.Change.{Change}
use Rattle.rp_store.specs.declared.changes.Change.TheVariants as c
use Rattle.rp_store.specs.Models.{Held, held_at, edited}
use Rattle.rp_store.specs.Contents.{refilled, added}
use Rattle.rp_store.specs.Changes as store
use Rattle.rp_store.specs.Changes.{key_of}
use Rattle.rp_access.specs.Kept.{Rights}
use Rattle.rp_access.specs.declared.access.Prepared as rights
use Rattle.rp_access.specs.declared.access.Prepared.TheVariants.{Nothing}
use Rattle.rp_access.specs.Steps.{prepared_models, prepared_groups}
use Rattle.rp_sight.specs.Stored.{joined, IsTable}
use Rattle.rp_sight.proofs.Joining.{Makes}
use Rattle.rp_plans.specs.declared.edits.Edit.{Edit}
use Rattle.rp_plans.specs.declared.edits.Edit.TheVariants.{OfModel, OfRights}
use Rattle.rp_plans.specs.Edits.{refilling, of_model, edits_of}
use Rattle.rp_plans.specs.Plans.{IsOfContent, IsApartFrom, AreApart}
use Rattle.rp_core.specs.declared.steps.Step.{Step}
use Rattle.rp_core.specs.Faults.{with_rights}
use Rattle.rp_core.specs.Held.{made_by, made_entries, made_rights, made_groups, IsRightsOf, AreStepsOf}
use Rattle.rp_core.proofs.Altering.{held_row, content_rows, other_row}

-- what such a change makes of what a model holds
abbrev pub content_by : Change → ModelContent → ModelContent
content_by (c.Put k content) h = refilled content h
content_by (c.Add k entities values) h = added entities values h
content_by (c.Set k i) h = with_instance i h
content_by (c.DropInstance k n) h = without_instance n h
content_by _ h = h

pub changed_content : (change : Change) (ms : List Held) → IsOfContent change → store.changed change ms ≡ edited (key_of change) (content_by change) ms
changed_content (c.Create k schema) ms is = absurd is
changed_content (c.Remove k) ms is = absurd is
changed_content (c.Put k content) ms is = refl
changed_content (c.Add k entities values) ms is = refl
changed_content (c.Set k i) ms is = refl
changed_content (c.DropInstance k n) ms is = refl

pub content_edits : (a : Readers) (change : Change) (h : ModelContent) → IsOfContent change → a.content (key_of change) ≡ Some h → of_model a change ≡ EditModel (key_of change) (Holds (Some (content_by change h))) ∷ []
content_edits a (c.Create k schema) h is seen = absurd is
content_edits a (c.Remove k) h is seen = absurd is
content_edits a (c.Put k content) h is seen = ap (λ o. refilling k o content) seen
content_edits a (c.Add k entities values) h is seen = ap (λ o. placing k o (Ok (record { name = next_in o; entities = entities; values = values }))) seen
content_edits a (c.Set k i) h is seen = ap (λ o. placing k o (Ok i)) seen
content_edits a (c.DropInstance k n) h is seen = ap (dropping k n) seen

pub no_rights : (change : Change) → IsOfContent change → with_rights change ≡ None
no_rights (c.Create k schema) is = absurd is
no_rights (c.Remove k) is = absurd is
no_rights (c.Put k content) is = refl
no_rights (c.Add k entities values) is = refl
no_rights (c.Set k i) is = refl
no_rights (c.DropInstance k n) is = refl

pub still : (es : List Rights) (gs : List GroupRow) (change : Change) (p : rights.Prepared) → IsOfContent change → IsRightsOf (with_rights change) es gs p → p ≡ Nothing
still es gs change p is rights = subst (λ o. IsRightsOf o es gs p) (no_rights change is) rights

-- ---- the model that an edit changes

-- it is there in these rows, a partner sees what it holds, and so it was where the step was prepared
pub record Stands (a : Readers) (ms : List Held) (rows : List Model) (k : Key) : Type 0 where
  pub row : Model
  pub there : find (is_row k) rows ≡ Some row
  pub seen : a.content k ≡ Some row.holds
  pub was : held_at k ms ≡ Some row.holds

abbrev pub EditStands : Readers → List Held → List Model → Edit → Type 0
EditStands a ms rows (OfModel change) = IsOfContent change × Stands a ms rows (key_of change)
EditStands a ms rows (OfRights change) = ⊥

-- the models of the other edits stand as before
others_stand : (a : Readers) (ms : List Held) (rows : List Model) (change : Change) (h : ModelContent) (edits : List Edit) → AllByRecursion (IsApartFrom (OfModel change)) edits → AllByRecursion (EditStands a ms rows) edits
    → AllByRecursion (EditStands a ms (altered (key_of change) (Holds (Some h)) rows)) edits
others_stand a ms rows change h [] apart stand = tt
others_stand a ms rows change h (OfRights other ∷ edits) apart stand = absurd stand.0
others_stand a ms rows change h (OfModel other ∷ edits) apart stand =
    let k = key_of change in
    let j = key_of other in
    let at = stand.0.1 in
    ((stand.0.0, record { row = at.row; there = other_row j k h rows apart.0.2 ∙ at.there; seen = at.seen; was = at.was }), others_stand a ms rows change h edits apart.1 stand.1)

-- ---- what the steps make

-- these two halves, and these groups, are what is left of the repository
pub record Leaves (ms : List Held) (es : List Rights) (gs : List GroupRow) (r left : Plain) : Type 0 where
  pub content : record r { models = joined ms es; groups = gs } ≡ left
  pub table : IsTable ms es

pub contents_made : (a : Readers) (ms : List Held) (es : List Rights) (gs : List GroupRow) (edits : List Edit) (steps : List Step) → AreStepsOf ms es gs edits steps → AreApart edits
    → (ns : List Held) (r : Plain) → IsTable ns es → joined ns es ≡ r.models → AllByRecursion (EditStands a ms r.models) edits
    → Leaves (made_entries steps ns) (made_rights steps es) (made_groups steps r.groups) r (changed (flat_map (edits_of a) edits) r)
contents_made a ms es gs [] [] are apart ns r table rows stand = record { content = λ i. record r { models = rows i }; table = table }
contents_made a ms es gs [] (s ∷ steps) are apart ns r table rows stand = absurd are
contents_made a ms es gs (e ∷ edits) [] are apart ns r table rows stand = absurd are
contents_made a ms es gs (OfRights change ∷ edits) (s ∷ steps) are apart ns r table rows stand = absurd stand.0
contents_made a ms es gs (OfModel change ∷ edits) (s ∷ steps) are apart ns r table rows stand =
    let is = stand.0.0 in
    let at = stand.0.1 in
    let k = key_of change in
    let h = content_by change at.row.holds in
    let step = are.0 in
    let next : List Model = altered k (Holds (Some h)) r.models in
    let left : Plain = record r { models = next } in
    let there : find (is_row k) (joined ns es) ≡ Some at.row = ap (find (is_row k)) rows ∙ at.there in
    let now : held_at k ns ≡ held_at k ms = held_row k ns es at.row table.same there ∙ sym at.was in
    let entries : made_by s.store ns ≡ edited k (content_by change) ns = ap (λ o. made_by o ns) step.is ∙ step.makes.makes ns now ∙ changed_content change ns is in
    let nothing : s.rights ≡ Nothing = still es gs change s.rights is step.rights in
    let makes : Makes (edited k (content_by change) ns) es (altered k (Holds (Some h)) (joined ns es)) = content_rows k (content_by change) at.row ns es table there in
    let rest : Leaves (made_entries steps (edited k (content_by change) ns)) (made_rights steps es) (made_groups steps r.groups) left (changed (flat_map (edits_of a) edits) left) =
    contents_made a ms es gs edits steps are.1 apart.1 (edited k (content_by change) ns) left makes.table (makes.rows_are ∙ ap (altered k (Holds (Some h))) rows) (others_stand a ms r.models change h edits apart.0 stand.1) in
    let plain : changed (flat_map (edits_of a) edits) left ≡ changed (of_model a change ++ flat_map (edits_of a) edits) r = ap (λ xs. changed (xs ++ flat_map (edits_of a) edits) r) (sym (content_edits a change at.row.holds is at.seen)) in
    subst (λ (x : List Held). Leaves (made_entries steps x) (made_rights steps (prepared_models s.rights es)) (made_groups steps (prepared_groups s.rights r.groups)) r (changed (of_model a change ++ flat_map (edits_of a) edits) r)) (sym entries)
    (subst (λ (p : rights.Prepared). Leaves (made_entries steps (edited k (content_by change) ns)) (made_rights steps (prepared_models p es)) (made_groups steps (prepared_groups p r.groups)) r (changed (of_model a change ++ flat_map (edits_of a) edits) r)) (sym nothing)
    (record { content = rest.content ∙ plain; table = rest.table }))
