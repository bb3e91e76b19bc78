use Rattle.std.proofs.Common.{rules, ◌≡◌, [], ◌∷◌, ◌++◌, Some, map, sym, ◌∙◌, ap, subst}
use Rattle.std.proofs.lemmas.List.{append_assoc, map-id}
use Rattle.std.proofs.lemmas.Iterator.Adapters.{YieldsList-from_vec}
use Rattle.std.proofs.lemmas.Iterator.Consumers.{YieldsList-end}
use Rattle.rp_plain.specs.Meaning.{first_some}
use Rattle.rp_core.specs.Faults.{edit_fault}
use Rattle.rp_core.specs.Held.{Both, AreStepsOf, IsStepOf, StepsFit}
use Rattle.rp_core.proofs.Fitting.{AloneFits, alone_more, steps_more, first_refused, steps_fit}
use Rattle.rp_core.proofs.steps.steps_of.Goals as goal

pub loop-edit-preserved : goal.loop-edit-preserved
loop-edit-preserved c =
    let ms = c.args.store.now.entries in
    let es = c.args.access.now.models.entries in
    let gs = c.args.access.now.groups.rows in
    let held = c.loop-edit.invariant in
    let e = c.in-Some.edit in
    let s = c.in-Ok.step in
    let is : IsStepOf ms es gs e s =
    subst (λ xs. IsStepOf xs es gs e s) held.models
    (subst (λ xs. IsStepOf c.loop-edit.store.entries xs gs e s) held.rights
    (subst (λ xs. IsStepOf c.loop-edit.store.entries c.loop-edit.access.models.entries xs e s) held.groups c.in-Ok.ensures.made)) in
    let turn : c.loop-edit.edit-iterator.rest.items ≡ e ∷ c.next.new.self.rest.items = search rules in
    let items = c.in_ok-push-in-Ok.ensures.items in
    record {
      models = c.step_of.ensures.models ∙ held.models;
      rights = c.step_of.ensures.rights ∙ held.rights;
      groups = c.step_of.ensures.groups ∙ held.groups;
      made = subst (λ xs. AreStepsOf ms es gs (c.loop-edit.yielded ++ e ∷ []) xs) (sym items) (steps_more ms es gs c.loop-edit.yielded c.loop-edit.steps.items e s held.made is);
      whole = append_assoc c.loop-edit.yielded (e ∷ []) c.next.new.self.rest.items ∙ ap (λ xs. c.loop-edit.yielded ++ xs) (sym turn) ∙ held.whole;
      fits = subst (λ xs. AloneFits (record { models = c.step_of.new.store; access = c.step_of.new.access }) xs) (sym items)
          (alone_more (record { models = c.step_of.new.store; access = c.step_of.new.access }) c.loop-edit.steps.items s c.in-Ok.ensures.fits);
    }

pub returns-in-Err-clause-made : goal.returns-in-Err-clause-made
returns-in-Err-clause-made c = λ is.
    let ms = c.args.store.now.entries in
    let es = c.args.access.now.models.entries in
    let gs = c.args.access.now.groups.rows in
    let held = c.loop-edit.invariant in
    let e = c.in-Some.edit in
    let turn : c.loop-edit.edit-iterator.rest.items ≡ e ∷ c.next.new.self.rest.items = search rules in
    let said : edit_fault ms es gs e ≡ Some c.in-Err.refusal = (λ i. edit_fault (sym held.models i) (sym held.rights i) (sym held.groups i) e) ∙ c.in-Err.ensures.made is in
    ap (λ xs. first_some (map (edit_fault ms es gs) xs)) (sym held.whole ∙ ap (λ xs. c.loop-edit.yielded ++ xs) turn)
    ∙ first_refused ms es gs c.loop-edit.yielded c.loop-edit.steps.items e c.next.new.self.rest.items c.in-Err.refusal held.made said

pub returns-clause-fits : goal.returns-clause-fits
returns-clause-fits c =
    let ms = c.args.store.now.entries in
    let es = c.args.access.now.models.entries in
    let gs = c.args.access.now.groups.rows in
    let held = c.loop-edit.invariant in
    let end = YieldsList-end (YieldsList-from_vec c.args.edits (search rules) (search rules)) c.loop-edit.yielded _ c.loop-edit.yielded_by _ c.next.new.self c.in-None.is c.next.ensures.steps in
    let all : c.loop-edit.yielded ≡ c.args.edits = sym (map-id c.loop-edit.yielded) ∙ end.0 in
    let b : Both = record { models = c.loop-edit.store; access = c.loop-edit.access } in
    subst (λ xs. StepsFit b xs) (sym c.from_vec.ensures)
    (steps_fit ms es gs c.args.edits c.loop-edit.steps.items b (subst (λ xs. AreStepsOf ms es gs xs c.loop-edit.steps.items) all held.made) c.requires held.models held.fits)
