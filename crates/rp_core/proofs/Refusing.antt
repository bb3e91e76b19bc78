-- What the store and the rights say against an edit is what the plain repository says against it.
use Rattle.std.proofs.Common.{◌≡◌, ℕ, Bool, true, false, List, [], ◌∷◌, length, Option, Some, None, is_some, refl, sym, ◌∙◌, ap}
use Rattle.std.specs.Prelude.{filter, option_map, nat_le, not, ◌||◌, if◌then◌else◌}
use Rattle.std.specs.List.{find}
use Rattle.std.specs.Str.{bytes_eq}
use Rattle.rp_rows.specs.declared.rows.Key.{Key}
use Rattle.rp_rows.specs.declared.rows.Listing.{Listing}
use Rattle.rp_rows.specs.declared.rows.ModelContent.{ModelContent}
use Rattle.rp_rows.specs.declared.rows.Right.TheVariants.{Reads}
use Rattle.rp_rows.specs.Rows.{Text, is_row}
use Rattle.rp_rows.specs.Sight.{owns, at_least}
use Rattle.rp_rows.specs.Instances.{max_instances, max_name, instance_of, is_used}
use Rattle.rp_rows.specs.Listings.{max_models, max_groups, max_members, lists_key}
use Rattle.rp_plain.specs.declared.messages.Refusal.{Refusal}
use Rattle.rp_plain.specs.declared.messages.Refusal.TheVariants as refusal
use Rattle.rp_plain.specs.Plain.{Plain}
use Rattle.rp_plain.specs.Readers.{asked}
use Rattle.rp_plain.specs.Meaning.{first_some, when}
use Rattle.rp_plain.specs.Groups.{is_member, members_of}
use Rattle.rp_plain.specs.Instances.{instance_in, is_absent, is_full, is_needed}
use Rattle.rp_store.specs.declared.changes.Change.TheVariants as s
use Rattle.rp_store.specs.declared.changes.StoreFault.{StoreFault}
use Rattle.rp_store.specs.declared.changes.StoreFault.TheVariants as of_store
use Rattle.rp_store.specs.Entries.{is_entry}
use Rattle.rp_store.specs.Models.{Held, held_at}
use Rattle.rp_store.specs.Changes as store
use Rattle.rp_access.specs.Kept.{Rights}
use Rattle.rp_access.specs.declared.changes.Change.TheVariants as r
use Rattle.rp_access.specs.declared.changes.AccessFault.TheVariants as of_access
use Rattle.rp_access.specs.Changes.{is_new, is_there, is_listable, is_unlistable, has_rights, has_group}
use Rattle.rp_plans.specs.declared.edits.Edit.{Edit}
use Rattle.rp_plans.specs.declared.edits.Edit.TheVariants.{OfModel, OfRights}
use Rattle.rp_plans.specs.Edits.{fault_of, Sees}
use Rattle.rp_core.specs.Faults.{store_refusal, access_refusal, edit_fault}
use Rattle.rp_core.proofs.Standing.{IsKept, stands, has_rights_where, some_value, own_model, model_count_is, GroupStands, group_stands, own_group}
use Rattle.rp_core.proofs.Altering.{both_have}

-- ---- reasons as refusals

abbrev alone : Option StoreFault → Option Refusal
alone why = first_some (option_map store_refusal why ∷ [])

when_alone : (b : Bool) (why : StoreFault) → alone (store.when b why) ≡ when b (store_refusal why)
when_alone true why = refl
when_alone false why = refl

missing_alone : (found : Bool) → alone (if found then None else Some of_store.NoSuchInstance) ≡ when (not found) refusal.NoSuchInstance
missing_alone true = refl
missing_alone false = refl

needed_alone : (found used : Bool) → alone (if found then store.when used of_store.InUse else Some of_store.NoSuchInstance) ≡ first_some (when (not found) refusal.NoSuchInstance ∷ when used refusal.InUse ∷ [])
needed_alone true true = refl
needed_alone true false = refl
needed_alone false used = refl

-- one more, of which the store says no more than the rights
new_model_is : (there seen held : Bool) (n m : ℕ) → there ≡ seen → held ≡ there → n ≡ m
    → first_some (option_map access_refusal (is_new there n max_models) ∷ option_map store_refusal (store.when held of_store.Exists) ∷ []) ≡ first_some (when seen refusal.Exists ∷ when (nat_le max_models m) refusal.TooMany ∷ [])
new_model_is true true held n m e f g = refl
new_model_is true false held n m e f g = cc
new_model_is false true held n m e f g = cc
new_model_is false false true n m e f g = cc
new_model_is false false false n m e f g = by (nat_le max_models n) (nat_le max_models m) (ap (nat_le max_models) g)
  where
    by : (t u : Bool) → t ≡ u → first_some (option_map access_refusal (if t then Some of_access.TooMany else None) ∷ None ∷ []) ≡ first_some (when u refusal.TooMany ∷ [])
    by true true h = refl
    by true false h = cc
    by false true h = cc
    by false false h = refl

new_group_is : (there seen : Bool) (n m : ℕ) → there ≡ seen → n ≡ m → option_map access_refusal (is_new there n max_groups) ≡ first_some (when seen refusal.Exists ∷ when (nat_le max_groups m) refusal.TooMany ∷ [])
new_group_is true true n m e g = refl
new_group_is true false n m e g = cc
new_group_is false true n m e g = cc
new_group_is false false n m e g = by (nat_le max_groups n) (nat_le max_groups m) (ap (nat_le max_groups) g)
  where
    by : (t u : Bool) → t ≡ u → option_map access_refusal (if t then Some of_access.TooMany else None) ≡ first_some (when u refusal.TooMany ∷ [])
    by true true h = refl
    by true false h = cc
    by false true h = cc
    by false false h = refl

removed_is : (there : Bool) (o : Option ModelContent) (h : ModelContent) → there ≡ true → o ≡ Some h → first_some (option_map access_refusal (is_there there) ∷ option_map store_refusal (store.tested (λ x. None) o) ∷ []) ≡ None
removed_is true None h e f = cc
removed_is true (Some x) h e f = refl
removed_is false o h e f = cc

there_is : (there : Bool) → there ≡ true → option_map access_refusal (is_there there) ≡ None
there_is true e = refl
there_is false e = cc

listable_is : (m : Key) (g : Listing) → option_map access_refusal (if lists_key m g.members then Some of_access.Membership else (if nat_le max_members (length g.members) then Some of_access.TooMany else None)) ≡ first_some (when (is_member m (Some g)) refusal.Membership ∷ when (nat_le max_members (length (members_of (Some g)))) refusal.TooMany ∷ [])
listable_is m g = by (lists_key m g.members) (nat_le max_members (length g.members))
  where
    by : (t u : Bool) → option_map access_refusal (if t then Some of_access.Membership else (if u then Some of_access.TooMany else None)) ≡ first_some (when t refusal.Membership ∷ when u refusal.TooMany ∷ [])
    by true u = refl
    by false true = refl
    by false false = refl

unlistable_is : (t : Bool) → option_map access_refusal (if t then None else Some of_access.Membership) ≡ when (not t) refusal.Membership
unlistable_is true = refl
unlistable_is false = refl

-- ---- an edit of what is seen

module _ (ms : List Held) (es : List Rights) (p : Plain) (c : Text) (kept : IsKept ms es p) where
  abbrev told : Edit → Option Refusal
  told = fault_of (asked p c)

  has_rights_seen : (k : Key) → is_some ((asked p c).content k) ≡ true → has_rights k es ≡ true
  has_rights_seen k seen = let at = stands ms es p c k kept seen in has_rights_where k ms es at.row.holds kept.table.same at.was

  has_group_seen : (k : Key) → is_some ((asked p c).listing k) ≡ true → has_group k p.groups ≡ true
  has_group_seen k seen = ap is_some (group_stands p c k kept.groups seen).there

  include_is : (k m : Key) → is_some ((asked p c).content m) ≡ true → (at : GroupStands p c k) → edit_fault ms es p.groups (OfRights (r.Include k m)) ≡ told (OfRights (r.Include k m))
  include_is k m seen at =
      ap (λ t. option_map access_refusal (if t then is_listable m (find (is_row k) p.groups) else Some of_access.Absent)) (has_rights_seen m seen)
      ∙ ap (λ o. option_map access_refusal (is_listable m o)) at.there
      ∙ listable_is m at.row.holds
      ∙ ap (λ g. first_some (when (is_member m g) refusal.Membership ∷ when (nat_le max_members (length (members_of g))) refusal.TooMany ∷ [])) (sym at.seen)

  exclude_is : (k m : Key) → (at : GroupStands p c k) → edit_fault ms es p.groups (OfRights (r.Exclude k m)) ≡ told (OfRights (r.Exclude k m))
  exclude_is k m at =
      ap (λ o. option_map access_refusal (is_unlistable m o)) at.there
      ∙ unlistable_is (lists_key m at.row.holds.members)
      ∙ ap (λ g. when (not (is_member m g)) refusal.Membership) (sym at.seen)

  pub fault_is : (e : Edit) → Sees (asked p c) c e → edit_fault ms es p.groups e ≡ told e
  fault_is (OfModel (s.Create k schema)) own =
      new_model_is (has_rights k es) (at_least Reads ((asked p c).model_right k)) (is_some (held_at k ms)) (length (filter (λ x. bytes_eq x.key.owner k.owner) es)) (asked p c).model_count
      (sym (own_model ms es p c k kept own)) (some_value (find (is_entry k) ms) ∙ both_have k ms es kept.table.same) (model_count_is ms es p c k kept own)
  fault_is (OfModel (s.Remove k)) seen = let at = stands ms es p c k kept seen in removed_is (has_rights k es) (held_at k ms) at.row.holds (has_rights_seen k seen) at.was
  fault_is (OfModel (s.Put k content)) seen =
      let at = stands ms es p c k kept seen in
      ap (λ o. alone (store.tested (λ h. store.when (store.holds_too_many content) of_store.TooMany) o)) at.was
      ∙ when_alone (store.holds_too_many content) of_store.TooMany
  fault_is (OfModel (s.Add k entities values)) seen =
      let at = stands ms es p c k kept seen in
      let h = at.row.holds in
      ap (λ o. alone (store.tested store.is_full o)) at.was
      ∙ when_alone (nat_le max_name h.greatest || nat_le max_instances (length h.content.instances)) of_store.TooMany
      ∙ ap is_full (sym at.seen)
  fault_is (OfModel (s.Set k i)) seen =
      let at = stands ms es p c k kept seen in
      ap (λ o. alone (store.tested (store.is_missing i.name) o)) at.was
      ∙ missing_alone (is_some (instance_of i.name at.row.holds.content.instances))
      ∙ ap (λ o. is_absent (instance_in o i.name)) (sym at.seen)
  fault_is (OfModel (s.DropInstance k n)) seen =
      let at = stands ms es p c k kept seen in
      let h = at.row.holds in
      ap (λ o. alone (store.tested (store.is_needed n) o)) at.was
      ∙ needed_alone (is_some (instance_of n h.content.instances)) (is_used n h.content.instances)
      ∙ ap (λ o. first_some (is_absent (instance_in o n) ∷ is_needed n o ∷ [])) (sym at.seen)
  fault_is (OfRights (r.CreateModel k)) seen = absurd seen
  fault_is (OfRights (r.RemoveModel k)) seen = absurd seen
  fault_is (OfRights (r.CreateGroup k schema)) own =
      new_group_is (has_group k p.groups) (at_least Reads ((asked p c).group_right k)) (length (filter (owns k.owner) p.groups)) (asked p c).group_count
      (sym (own_group p c k kept.groups own)) (ap (λ d. length (filter (owns d) p.groups)) own)
  fault_is (OfRights (r.RemoveGroup k)) seen = there_is (has_group k p.groups) (has_group_seen k seen)
  fault_is (OfRights (r.GrantModel k to l)) seen = there_is (has_rights k es) (has_rights_seen k seen)
  fault_is (OfRights (r.GrantGroup k to)) seen = there_is (has_group k p.groups) (has_group_seen k seen)
  fault_is (OfRights (r.RevokeModel k to)) seen = there_is (has_rights k es) (has_rights_seen k seen)
  fault_is (OfRights (r.RevokeGroup k to)) seen = there_is (has_group k p.groups) (has_group_seen k seen)
  fault_is (OfRights (r.Include k m)) seen = include_is k m seen.1 (group_stands p c k kept.groups seen.0)
  fault_is (OfRights (r.Exclude k m)) seen = exclude_is k m (group_stands p c k kept.groups seen)
