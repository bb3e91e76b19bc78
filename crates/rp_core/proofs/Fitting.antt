-- The steps of edits fit one another, and steps that were found are those of the edits before.
use Rattle.std.proofs.Common.{◌≡◌, ℕ, List, [], ◌∷◌, ◌++◌, map, Option, Some, None, refl, sym, ◌∙◌, ap, subst}
use Rattle.std.specs.List.{AllByRecursion}
use Rattle.rp_rows.specs.declared.rows.ModelContent.{ModelContent}
use Rattle.rp_rows.specs.Rows.{GroupRow}
use Rattle.rp_plain.specs.declared.messages.Refusal.{Refusal}
use Rattle.rp_plain.specs.Meaning.{first_some}
use Rattle.rp_store.specs.declared.changes.Change.{Change}
use Rattle.rp_store.specs.declared.changes.Change.TheVariants as c
use Rattle.rp_store.specs.Models.{Held, held_at, edited}
use Rattle.rp_store.specs.Changes.{key_of}
use Rattle.rp_store.specs.Kept.{HasRoomFor}
use Rattle.rp_access.specs.Kept.{Rights}
use Rattle.rp_access.specs.declared.access.Prepared as rights
use Rattle.rp_access.specs.declared.changes.Change as access
use Rattle.rp_access.specs.Steps.{PreparedFits}
use Rattle.rp_plans.specs.declared.edits.Edit.{Edit}
use Rattle.rp_plans.specs.declared.edits.Edit.TheVariants.{OfModel, OfRights}
use Rattle.rp_plans.specs.Plans.{IsOfContent, IsApartFrom, AreApart}
use Rattle.rp_core.specs.declared.steps.Step.{Step}
use Rattle.rp_core.specs.Faults.{with_rights, rights_fault, edit_fault}
use Rattle.rp_core.specs.Held.{Both, made_by, store_fits, StepFits, StepsFit, IsRightsOf, IsStepOf, AreStepsOf}
use Rattle.rp_core.proofs.Altering.{other_held}
use Rattle.rp_core.proofs.Contents.{content_by, changed_content, still}

-- ---- one step more

pub steps_more : (ms : List Held) (es : List Rights) (gs : List GroupRow) (edits : List Edit) (steps : List Step) (e : Edit) (s : Step) → AreStepsOf ms es gs edits steps → IsStepOf ms es gs e s → AreStepsOf ms es gs (edits ++ e ∷ []) (steps ++ s ∷ [])
steps_more ms es gs [] [] e s are is = (is, tt)
steps_more ms es gs [] (t ∷ steps) e s are is = absurd are
steps_more ms es gs (d ∷ edits) [] e s are is = absurd are
steps_more ms es gs (d ∷ edits) (t ∷ steps) e s are is = (are.0, steps_more ms es gs edits steps e s are.1 is)

pub rights_pass : (es : List Rights) (gs : List GroupRow) (change : Option access.Change) (p : rights.Prepared) → IsRightsOf change es gs p → rights_fault es gs change ≡ None
rights_pass es gs None p is = refl
rights_pass es gs (Some change) p is = rw is.passes refl

-- nothing speaks against an edit that has a step
pub passes : (ms : List Held) (es : List Rights) (gs : List GroupRow) (e : Edit) (s : Step) → IsStepOf ms es gs e s → edit_fault ms es gs e ≡ None
passes ms es gs (OfModel change) s is = rw (rights_pass es gs (with_rights change) s.rights is.rights) (rw is.makes.passes refl)
passes ms es gs (OfRights change) s is = rw is.1.passes refl

pub all_pass : (ms : List Held) (es : List Rights) (gs : List GroupRow) (edits : List Edit) (steps : List Step) → AreStepsOf ms es gs edits steps → first_some (map (edit_fault ms es gs) edits) ≡ None
all_pass ms es gs [] [] are = refl
all_pass ms es gs [] (s ∷ steps) are = absurd are
all_pass ms es gs (e ∷ edits) [] are = absurd are
all_pass ms es gs (e ∷ edits) (s ∷ steps) are = rw (passes ms es gs e s are.0) (all_pass ms es gs edits steps are.1)

-- the first that has none is the first that is refused
pub first_refused : (ms : List Held) (es : List Rights) (gs : List GroupRow) (edits : List Edit) (steps : List Step) (e : Edit) (more : List Edit) (refusal : Refusal) → AreStepsOf ms es gs edits steps → edit_fault ms es gs e ≡ Some refusal
    → first_some (map (edit_fault ms es gs) (edits ++ e ∷ more)) ≡ Some refusal
first_refused ms es gs [] [] e more refusal are refused = rw refused refl
first_refused ms es gs [] (s ∷ steps) e more refusal are refused = absurd are
first_refused ms es gs (d ∷ edits) [] e more refusal are refused = absurd are
first_refused ms es gs (d ∷ edits) (s ∷ steps) e more refusal are refused = rw (passes ms es gs d s are.0) (first_refused ms es gs edits steps e more refusal are.1 refused)

-- ---- several steps

abbrev pub IsContentEdit : Edit → Type 0
IsContentEdit (OfModel change) = IsOfContent change
IsContentEdit (OfRights change) = ⊥

apart_contents : (change : Change) (edits : List Edit) → AllByRecursion (IsApartFrom (OfModel change)) edits → AllByRecursion IsContentEdit edits
apart_contents change [] apart = tt
apart_contents change (OfRights other ∷ edits) apart = absurd apart.0
apart_contents change (OfModel other ∷ edits) apart = (apart.0.1, apart_contents change edits apart.1)

-- of two edits and more, each changes what a model holds
pub several_contents : (e d : Edit) (edits : List Edit) → AreApart (e ∷ d ∷ edits) → AllByRecursion IsContentEdit (e ∷ d ∷ edits)
several_contents (OfRights change) d edits apart = absurd apart.0.0
several_contents (OfModel change) (OfRights other) edits apart = absurd apart.0.0
several_contents (OfModel change) (OfModel other) edits apart = (apart.0.0.0, apart_contents change (OfModel other ∷ edits) apart.0)

room_for : (change : Change) (room : ℕ) → IsOfContent change → HasRoomFor change room
room_for (c.Create k schema) room is = absurd is
room_for (c.Remove k) room is = absurd is
room_for (c.Put k content) room is = tt
room_for (c.Add k entities values) room is = tt
room_for (c.Set k i) room is = tt
room_for (c.DropInstance k n) room is = tt

-- the model of the edit is as it was where its step was prepared
abbrev IsAsBefore : List Held → List Held → Edit → Type 0
IsAsBefore ms ns (OfModel change) = held_at (key_of change) ns ≡ held_at (key_of change) ms
IsAsBefore ms ns (OfRights change) = Unit {0}

others_as_before : (ms ns : List Held) (change : Change) (f : ModelContent → ModelContent) (edits : List Edit) → AllByRecursion (IsApartFrom (OfModel change)) edits → AllByRecursion (IsAsBefore ms ns) edits → AllByRecursion (IsAsBefore ms (edited (key_of change) f ns)) edits
others_as_before ms ns change f [] apart are = tt
others_as_before ms ns change f (OfRights other ∷ edits) apart are = absurd apart.0
others_as_before ms ns change f (OfModel other ∷ edits) apart are =
    (other_held (key_of other) (key_of change) f ns apart.0.2 ∙ are.0, others_as_before ms ns change f edits apart.1 are.1)

contents_fit : (ms : List Held) (es : List Rights) (gs : List GroupRow) (edits : List Edit) (steps : List Step) → AreStepsOf ms es gs edits steps → AreApart edits → AllByRecursion IsContentEdit edits
    → (b : Both) → AllByRecursion (IsAsBefore ms b.models.entries) edits → StepsFit b steps
contents_fit ms es gs [] [] are apart contents b before = tt
contents_fit ms es gs [] (s ∷ steps) are apart contents b before = absurd are
contents_fit ms es gs (e ∷ edits) [] are apart contents b before = absurd are
contents_fit ms es gs (OfRights change ∷ edits) (s ∷ steps) are apart contents b before = absurd contents.0
contents_fit ms es gs (OfModel change ∷ edits) (s ∷ steps) are apart contents b before =
    let step = are.0 in
    let k = key_of change in
    let f = content_by change in
    let nothing = still es gs change s.rights contents.0 step.rights in
    let fits : store_fits b.models s.store = subst (store_fits b.models) (sym step.is) (step.makes.fits b.models before.0 (room_for change b.models.room contents.0)) in
    let rights : PreparedFits b.access s.rights = subst (PreparedFits b.access) (sym nothing) tt in (
      (fits, rights),
      λ next after.
          let entries : edited k f b.models.entries ≡ next.models.entries = sym (after.models ∙ ap (λ o. made_by o b.models.entries) step.is ∙ step.makes.makes b.models.entries before.0 ∙ changed_content change b.models.entries contents.0) in
          contents_fit ms es gs edits steps are.1 apart.1 contents.1 next
          (subst (λ (ns : List Held). AllByRecursion (IsAsBefore ms ns) edits) entries (others_as_before ms b.models.entries change f edits apart.0 before.1)),
    )

-- ---- all steps

-- one step fits what is kept; several do by themselves
abbrev pub AloneFits : Both → List Step → Type 0
AloneFits b (s ∷ []) = StepFits b s
AloneFits b _ = Unit {0}

pub alone_more : (b : Both) (steps : List Step) (s : Step) → StepFits b s → AloneFits b (steps ++ s ∷ [])
alone_more b [] s fits = fits
alone_more b (t ∷ []) s fits = tt
alone_more b (t ∷ u ∷ steps) s fits = tt

as_before : (ms ns : List Held) (edits : List Edit) → ns ≡ ms → AllByRecursion (IsAsBefore ms ns) edits
as_before ms ns [] same = tt
as_before ms ns (OfModel change ∷ edits) same = (ap (held_at (key_of change)) same, as_before ms ns edits same)
as_before ms ns (OfRights change ∷ edits) same = (tt, as_before ms ns edits same)

pub steps_fit : (ms : List Held) (es : List Rights) (gs : List GroupRow) (edits : List Edit) (steps : List Step) (b : Both) → AreStepsOf ms es gs edits steps → AreApart edits → b.models.entries ≡ ms → AloneFits b steps → StepsFit b steps
steps_fit ms es gs [] [] b are apart same fits = tt
steps_fit ms es gs [] (s ∷ steps) b are apart same fits = absurd are
steps_fit ms es gs (e ∷ edits) [] b are apart same fits = absurd are
steps_fit ms es gs (e ∷ []) (s ∷ []) b are apart same fits = (fits, λ next after. tt)
steps_fit ms es gs (e ∷ []) (s ∷ t ∷ steps) b are apart same fits = absurd are.1
steps_fit ms es gs (e ∷ d ∷ edits) (s ∷ []) b are apart same fits = absurd are.1
steps_fit ms es gs (e ∷ d ∷ edits) (s ∷ t ∷ steps) b are apart same fits =
    contents_fit ms es gs (e ∷ d ∷ edits) (s ∷ t ∷ steps) are apart (several_contents e d edits apart) b (as_before ms b.models.entries (e ∷ d ∷ edits) same)
