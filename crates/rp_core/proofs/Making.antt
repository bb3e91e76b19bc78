-- The steps of a plan make of a repository what its edits say.
use Rattle.std.proofs.Common.{◌≡◌, Bool, true, false, List, [], ◌∷◌, Option, Some, None, is_some, refl, sym, ◌∙◌, ap, subst}
use Rattle.std.proofs.lemmas.List.{append-nil}
use Rattle.std.specs.Prelude.{if◌then◌else◌}
use Rattle.std.specs.List.{find, flat_map, AllByRecursion}
use Rattle.std.specs.Str.{bytes_eq}
use Rattle.rp_rows.specs.declared.rows.Key.{Key}
use Rattle.rp_rows.specs.declared.rows.Level.{Level}
use Rattle.rp_rows.specs.declared.rows.Level.TheVariants.{Read}
use Rattle.rp_rows.specs.declared.rows.Listing.{Listing}
use Rattle.rp_rows.specs.Rows.{Text, is_row, Model, GroupRow}
use Rattle.rp_rows.specs.Listings.{with_member, without_member}
use Rattle.rp_rows.specs.Alterations.{Holds, Grants, altered}
use Rattle.rp_plain.specs.Plain.{Plain}
use Rattle.rp_plain.specs.Edits.{EditModel, EditGroup, changed}
use Rattle.rp_plain.specs.Readers.{Readers, asked}
use Rattle.rp_plain.specs.Groups.{relisted}
use Rattle.rp_store.specs.declared.changes.Change as store
use Rattle.rp_store.specs.declared.changes.Change.TheVariants as s
use Rattle.rp_store.specs.Models.{Held}
use Rattle.rp_store.specs.Contents.{new_model}
use Rattle.rp_store.specs.Changes.{key_of}
use Rattle.rp_access.specs.Kept.{Rights}
use Rattle.rp_access.specs.declared.changes.Change.TheVariants as r
use Rattle.rp_access.specs.Changes.{relisted_at, granted, granted_on, regranted_on}
use Rattle.rp_access.specs.Steps.{prepared_models, prepared_groups}
use Rattle.rp_sight.specs.Stored.{joined, IsTable}
use Rattle.rp_sight.proofs.Joining.{Makes, put_rows, remove_rows}
use Rattle.rp_plans.specs.declared.edits.Edit.{Edit}
use Rattle.rp_plans.specs.declared.edits.Edit.TheVariants.{OfModel, OfRights}
use Rattle.rp_plans.specs.Edits.{of_model, edits_of, Sees}
use Rattle.rp_plans.specs.Plans.{IsOfContent, AreApart}
use Rattle.rp_core.specs.declared.steps.Step.{Step}
use Rattle.rp_core.specs.Held.{made_by, made_entries, made_rights, made_groups, IsModelStep, IsStepOf, AreStepsOf}
use Rattle.rp_core.proofs.Altering.{regranted_rows}
use Rattle.rp_core.proofs.Contents.{Stands, EditStands, Leaves, contents_made}
use Rattle.rp_core.proofs.Standing.{IsKept, stands, GroupStands, group_stands}
use Rattle.rp_core.proofs.Fitting.{IsContentEdit, several_contents}

-- ---- what is left

leaves_models : (r : Plain) (xs zs : List Held) (ys vs : List Rights) (gs : List GroupRow) (rows : List Model) → zs ≡ xs → vs ≡ ys → gs ≡ r.groups → Makes xs ys rows → Leaves zs vs gs r (record r { models = rows })
leaves_models r xs zs ys vs gs rows x y g makes =
    record {
      content = (λ i. record r { models = joined (x i) (y i); groups = g i }) ∙ (λ i. record r { models = makes.rows_are i });
      table = subst (λ (zs : List Held). IsTable zs vs) (sym x) (subst (λ (vs : List Rights). IsTable xs vs) (sym y) makes.table);
    }

leaves_groups : (r : Plain) (ms zs : List Held) (es vs : List Rights) (gs groups : List GroupRow) → zs ≡ ms → vs ≡ es → gs ≡ groups → IsTable ms es → joined ms es ≡ r.models → Leaves zs vs gs r (record r { groups = groups })
leaves_groups r ms zs es vs gs groups x y g table rows =
    record {
      content = (λ i. record r { models = joined (x i) (y i); groups = g i }) ∙ (λ i. record r { models = rows i; groups = groups });
      table = subst (λ (zs : List Held). IsTable zs vs) (sym x) (subst (λ (vs : List Rights). IsTable ms vs) (sym y) table);
    }

-- ---- one edit

module _ (ms : List Held) (es : List Rights) (p : Plain) (c : Text) (kept : IsKept ms es p) where
  abbrev a : Readers
  a = asked p c

  -- what a step of this edit leaves
  abbrev LeavesBy : Step → Edit → Type 0
  LeavesBy t e = Leaves (made_by t.store ms) (prepared_models t.rights es) (prepared_groups t.rights p.groups) p (changed (edits_of a e) p)

  entries_stay : (t : Step) → t.store ≡ None → made_by t.store ms ≡ ms
  entries_stay t none = ap (λ o. made_by o ms) none

  stays : Makes ms es p.models
  stays = record { rows_are = kept.rows; table = kept.table }

  created : (k : Key) (schema : Text) (t : Step) → IsModelStep (s.Create k schema) ms es p.groups t → LeavesBy t (OfModel (s.Create k schema))
  created k schema t is =
      let makes = put_rows k (new_model schema) ms es p.models kept.table kept.rows in
      leaves_models p _ (made_by t.store ms) _ (prepared_models t.rights es) (prepared_groups t.rights p.groups) (altered k (Holds (Some (new_model schema))) p.models)
      (ap (λ o. made_by o ms) is.is ∙ is.makes.makes ms refl) is.rights.models is.rights.groups makes

  removed : (k : Key) (t : Step) → IsModelStep (s.Remove k) ms es p.groups t → LeavesBy t (OfModel (s.Remove k))
  removed k t is =
      let makes = remove_rows k ms es p.models kept.table kept.rows in
      leaves_models p _ (made_by t.store ms) _ (prepared_models t.rights es) (prepared_groups t.rights p.groups) (altered k (Holds None) p.models)
      (ap (λ o. made_by o ms) is.is ∙ is.makes.makes ms refl) is.rights.models is.rights.groups makes

  content_made : (change : store.Change) (t : Step) → IsOfContent change → IsModelStep change ms es p.groups t → is_some (a.content (key_of change)) ≡ true → LeavesBy t (OfModel change)
  content_made change t content is seen =
      let made = contents_made a ms es p.groups (OfModel change ∷ []) (t ∷ []) (is, tt) (tt, tt) ms p kept.table kept.rows ((content, stands ms es p c (key_of change) kept seen), tt) in
      record { content = made.content ∙ ap (λ xs. changed xs p) (append-nil (of_model a change)); table = made.table }

  regranted : (k : Key) (to : Text) (l : Option Level) (t : Step) → t.store ≡ None → prepared_models t.rights es ≡ regranted_on k to l es → prepared_groups t.rights p.groups ≡ p.groups
      → Leaves (made_by t.store ms) (prepared_models t.rights es) (prepared_groups t.rights p.groups) p (changed (EditModel k (Grants to l) ∷ []) p)
  regranted k to l t none models groups =
      let makes = regranted_rows k to l ms es kept.table in
      leaves_models p ms (made_by t.store ms) (regranted_on k to l es) (prepared_models t.rights es) (prepared_groups t.rights p.groups) (altered k (Grants to l) p.models)
      (entries_stay t none) models groups (record { rows_are = makes.rows_are ∙ ap (altered k (Grants to l)) kept.rows; table = makes.table })

  model_granted : (k : Key) (to : Text) (l : Level) (t : Step) → t.store ≡ None → prepared_models t.rights es ≡ granted_on k to l es → prepared_groups t.rights p.groups ≡ p.groups → LeavesBy t (OfRights (r.GrantModel k to l))
  model_granted k to l t none models groups = by (bytes_eq to k.owner) models
    where
      by : (own : Bool) → prepared_models t.rights es ≡ (if own then es else regranted_on k to (Some l) es)
          → Leaves (made_by t.store ms) (prepared_models t.rights es) (prepared_groups t.rights p.groups) p (changed (if own then [] else EditModel k (Grants to (Some l)) ∷ []) p)
      by true are = leaves_models p ms (made_by t.store ms) es (prepared_models t.rights es) (prepared_groups t.rights p.groups) p.models (entries_stay t none) are groups stays
      by false are = regranted k to (Some l) t none are groups

  group_left : (t : Step) (groups : List GroupRow) → t.store ≡ None → prepared_models t.rights es ≡ es → prepared_groups t.rights p.groups ≡ groups → Leaves (made_by t.store ms) (prepared_models t.rights es) (prepared_groups t.rights p.groups) p (record p { groups = groups })
  group_left t groups none models are = leaves_groups p ms (made_by t.store ms) es (prepared_models t.rights es) (prepared_groups t.rights p.groups) groups (entries_stay t none) models are kept.table kept.rows

  group_granted : (k : Key) (to : Text) (t : Step) → t.store ≡ None → prepared_models t.rights es ≡ es → prepared_groups t.rights p.groups ≡ granted k to Read p.groups → LeavesBy t (OfRights (r.GrantGroup k to))
  group_granted k to t none models groups = by (bytes_eq to k.owner) groups
    where
      by : (own : Bool) → prepared_groups t.rights p.groups ≡ (if own then p.groups else altered k (Grants to (Some Read)) p.groups)
          → Leaves (made_by t.store ms) (prepared_models t.rights es) (prepared_groups t.rights p.groups) p (changed (if own then [] else EditGroup k (Grants to (Some Read)) ∷ []) p)
      by true are = group_left t p.groups none models are
      by false are = group_left t (altered k (Grants to (Some Read)) p.groups) none models are

  -- a group that is seen lists something else
  relists : (k : Key) (change : Listing → Listing) (t : Step) → GroupStands p c k → t.store ≡ None → prepared_models t.rights es ≡ es → prepared_groups t.rights p.groups ≡ relisted_at k change (find (is_row k) p.groups) p.groups
      → Leaves (made_by t.store ms) (prepared_models t.rights es) (prepared_groups t.rights p.groups) p (changed (relisted k change (a.listing k)) p)
  relists k change t at none models groups =
      let left = group_left t (altered k (Holds (Some (change at.row.holds))) p.groups) none models (groups ∙ ap (λ o. relisted_at k change o p.groups) at.there) in
      record { content = left.content ∙ ap (λ g. changed (relisted k change g) p) (sym at.seen); table = left.table }

  made_alone : (e : Edit) (t : Step) → IsStepOf ms es p.groups e t → Sees a c e → LeavesBy t e
  made_alone (OfModel (s.Create k schema)) t is seen = created k schema t is
  made_alone (OfModel (s.Remove k)) t is seen = removed k t is
  made_alone (OfModel (s.Put k content)) t is seen = content_made (s.Put k content) t tt is seen
  made_alone (OfModel (s.Add k entities values)) t is seen = content_made (s.Add k entities values) t tt is seen
  made_alone (OfModel (s.Set k i)) t is seen = content_made (s.Set k i) t tt is seen
  made_alone (OfModel (s.DropInstance k n)) t is seen = content_made (s.DropInstance k n) t tt is seen
  made_alone (OfRights (r.CreateModel k)) t is seen = absurd seen
  made_alone (OfRights (r.RemoveModel k)) t is seen = absurd seen
  made_alone (OfRights (r.CreateGroup k schema)) t is seen = group_left t (altered k (Holds (Some (record { schema = schema; members = [] }))) p.groups) is.0 is.1.models is.1.groups
  made_alone (OfRights (r.RemoveGroup k)) t is seen = group_left t (altered k (Holds None) p.groups) is.0 is.1.models is.1.groups
  made_alone (OfRights (r.GrantModel k to l)) t is seen = model_granted k to l t is.0 is.1.models is.1.groups
  made_alone (OfRights (r.GrantGroup k to)) t is seen = group_granted k to t is.0 is.1.models is.1.groups
  made_alone (OfRights (r.RevokeModel k to)) t is seen = regranted k to None t is.0 is.1.models is.1.groups
  made_alone (OfRights (r.RevokeGroup k to)) t is seen = group_left t (altered k (Grants to None) p.groups) is.0 is.1.models is.1.groups
  made_alone (OfRights (r.Include k m)) t is seen = relists k (with_member m) t (group_stands p c k kept.groups seen.0) is.0 is.1.models is.1.groups
  made_alone (OfRights (r.Exclude k m)) t is seen = relists k (without_member m) t (group_stands p c k kept.groups seen) is.0 is.1.models is.1.groups

  -- ---- all edits

  content_stands : (change : store.Change) → IsOfContent change → Sees a c (OfModel change) → Stands a ms p.models (key_of change)
  content_stands (s.Create k schema) content seen = absurd content
  content_stands (s.Remove k) content seen = absurd content
  content_stands (s.Put k content) is seen = stands ms es p c k kept seen
  content_stands (s.Add k entities values) is seen = stands ms es p c k kept seen
  content_stands (s.Set k i) is seen = stands ms es p c k kept seen
  content_stands (s.DropInstance k n) is seen = stands ms es p c k kept seen

  all_stand : (edits : List Edit) → AllByRecursion IsContentEdit edits → AllByRecursion (Sees a c) edits → AllByRecursion (EditStands a ms p.models) edits
  all_stand [] contents seen = tt
  all_stand (OfRights change ∷ edits) contents seen = absurd contents.0
  all_stand (OfModel change ∷ edits) contents seen = ((contents.0, content_stands change contents.0 seen.0), all_stand edits contents.1 seen.1)

  pub all_made : (edits : List Edit) (steps : List Step) → AreStepsOf ms es p.groups edits steps → AreApart edits → AllByRecursion (Sees a c) edits
      → Leaves (made_entries steps ms) (made_rights steps es) (made_groups steps p.groups) p (changed (flat_map (edits_of a) edits) p)
  all_made [] [] are apart seen = record { content = λ i. record p { models = kept.rows i }; table = kept.table }
  all_made [] (t ∷ steps) are apart seen = absurd are
  all_made (e ∷ edits) [] are apart seen = absurd are
  all_made (e ∷ []) (t ∷ []) are apart seen =
      let alone = made_alone e t are.0 seen.0 in
      record { content = alone.content ∙ ap (λ xs. changed xs p) (sym (append-nil (edits_of a e))); table = alone.table }
  all_made (e ∷ []) (t ∷ u ∷ steps) are apart seen = absurd are.1
  all_made (e ∷ d ∷ edits) (t ∷ steps) are apart seen =
      contents_made a ms es p.groups (e ∷ d ∷ edits) (t ∷ steps) are apart ms p kept.table kept.rows (all_stand (e ∷ d ∷ edits) (several_contents e d edits apart) seen)
