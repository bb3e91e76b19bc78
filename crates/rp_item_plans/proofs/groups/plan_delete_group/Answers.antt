use Rattle.std.proofs.Common.{◌≡◌, [], ◌∷◌, None, refl, sym, ◌∙◌, ap}
use Rattle.rp_rows.specs.Rows.{key_of}
use Rattle.rp_plain.specs.declared.messages.Reply.TheVariants.{Done}
use Rattle.rp_plain.specs.declared.messages.Request.TheVariants.{DeleteGroup}
use Rattle.rp_plain.specs.Meaning.{first_some, name_fault, unseen}
use Rattle.rp_readers.specs.Told.{told}
use Rattle.rp_access.specs.declared.changes.Change.TheVariants as r
use Rattle.rp_plans.specs.declared.edits.Edit.TheVariants.{OfRights}
use Rattle.rp_plans.proofs.Firsts.{none_last}
use Rattle.rp_plans.proofs.Answering.{of_one}
use Rattle.rp_plans.proofs.Seeing.{group_told}
use Rattle.rp_item_plans.specs.Tests.{own_tests}
use Rattle.rp_item_plans.proofs.groups.plan_delete_group.Goals as goal

pub returns : goal.returns
returns c =
    let held = c.args.asked.now in
    let a = told held in
    let who = held.caller.now in
    let k = key_of who c.args.name in
    let none : first_some (own_tests c.args.name (a.group_right k)) ≡ None = sym (c.in_default.ensures ∙ ap (λ right. first_some (own_tests c.args.name right)) c.own_group_right.ensures) in
    of_one a who (DeleteGroup c.args.name) c.in_ok-of.field-0 Done (OfRights (r.RemoveGroup k)) (own_tests c.args.name (a.group_right k)) []
    (c.in_ok-of.ensures ∙ ap (λ key. record { reply = Done; edits = OfRights (r.RemoveGroup key) ∷ [] }) c.in_ok-key.ensures)
    none refl refl refl refl (group_told held k (none_last (name_fault c.args.name ∷ []) (unseen (a.group_right k)) none))
