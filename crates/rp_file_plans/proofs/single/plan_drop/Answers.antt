use Rattle.std.proofs.Common.{◌≡◌, [], ◌∷◌, None, refl, sym, ◌∙◌, ap}
use Rattle.rp_rows.specs.declared.rows.Right.TheVariants.{Writes}
use Rattle.rp_plain.specs.declared.messages.Reply.TheVariants.{Done}
use Rattle.rp_plain.specs.declared.messages.Request.TheVariants.{DropInstance}
use Rattle.rp_plain.specs.Meaning.{first_some, key_fault, is_no_partner, lacks}
use Rattle.rp_plain.specs.Instances.{instance_in, is_absent, is_needed}
use Rattle.rp_readers.specs.Told.{told}
use Rattle.rp_store.specs.declared.changes.Change.TheVariants as s
use Rattle.rp_plans.specs.declared.edits.Edit.TheVariants.{OfModel}
use Rattle.rp_plans.proofs.Firsts.{first_front, none_last}
use Rattle.rp_plans.proofs.Answering.{of_one}
use Rattle.rp_plans.proofs.Seeing.{seen_enough, model_told}
use Rattle.rp_file_plans.proofs.single.plan_drop.Goals as goal

pub returns-in-Some : goal.returns-in-Some
returns-in-Some c = λ unlike.
    let a = told c.args.asked.now in
    let k = c.args.key in
    let n = c.args.name in
    first_front (key_fault k ∷ is_no_partner a k.owner ∷ lacks Writes (a.model_right k) ∷ []) (is_absent (instance_in (a.content k) n) ∷ is_needed n (a.content k) ∷ []) c.in-Some.refusal
    (sym (c.in-Some.ensures ∙ (λ i. first_some (c.key_fault.ensures i ∷ c.is_no_partner.ensures i ∷ (c.lacks.ensures ∙ ap (lacks Writes) c.model_right.ensures) i ∷ []))))

pub returns : goal.returns
returns c =
    let held = c.args.asked.now in
    let a = told held in
    let k = c.args.key in
    let n = c.args.name in
    let tests = key_fault k ∷ is_no_partner a k.owner ∷ lacks Writes (a.model_right k) ∷ [] in
    let none : first_some tests ≡ None =
    sym (c.in_default.ensures ∙ (λ i. first_some (c.key_fault.ensures i ∷ c.is_no_partner.ensures i ∷ (c.lacks.ensures ∙ ap (lacks Writes) c.model_right.ensures) i ∷ []))) in
    of_one a held.caller.now (DropInstance k n) c.in_ok-of.field-0 Done (OfModel (s.DropInstance k n)) tests (is_absent (instance_in (a.content k) n) ∷ is_needed n (a.content k) ∷ []) c.in_ok-of.ensures
    none refl refl refl refl
    (model_told held k (seen_enough Writes (a.model_right k) (none_last (key_fault k ∷ is_no_partner a k.owner ∷ []) (lacks Writes (a.model_right k)) none)))
