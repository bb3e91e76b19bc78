use Rattle.std.proofs.Common.{◌≡◌, [], ◌∷◌, None, refl, sym, ◌∙◌, ap}
use Rattle.rp_rows.specs.Rows.{key_of}
use Rattle.rp_plain.specs.declared.messages.Reply.TheVariants.{Done}
use Rattle.rp_plain.specs.declared.messages.Request.TheVariants.{DeleteModel}
use Rattle.rp_plain.specs.Meaning.{first_some, name_fault, unseen}
use Rattle.rp_readers.specs.Told.{told}
use Rattle.rp_store.specs.declared.changes.Change.TheVariants as s
use Rattle.rp_plans.specs.declared.edits.Edit.TheVariants.{OfModel}
use Rattle.rp_plans.proofs.Firsts.{none_last}
use Rattle.rp_plans.proofs.Answering.{of_one}
use Rattle.rp_plans.proofs.Seeing.{model_told}
use Rattle.rp_item_plans.specs.Tests.{own_tests}
use Rattle.rp_item_plans.proofs.models.plan_delete.Goals as goal

pub returns : goal.returns
returns c =
    let held = c.args.asked.now in
    let a = told held in
    let who = held.caller.now in
    let k = key_of who c.args.name in
    let none : first_some (own_tests c.args.name (a.model_right k)) ≡ None = sym (c.in_default.ensures ∙ ap (λ right. first_some (own_tests c.args.name right)) c.own_model_right.ensures) in
    of_one a who (DeleteModel c.args.name) c.in_ok-of.field-0 Done (OfModel (s.Remove k)) (own_tests c.args.name (a.model_right k)) []
    (c.in_ok-of.ensures ∙ ap (λ key. record { reply = Done; edits = OfModel (s.Remove key) ∷ [] }) c.in_ok-key.ensures)
    none refl refl refl refl (model_told held k (none_last (name_fault c.args.name ∷ []) (unseen (a.model_right k)) none))
