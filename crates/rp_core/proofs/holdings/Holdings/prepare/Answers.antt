use Rattle.std.proofs.Common.{◌≡◌, ◌<◌, List, [], length, get_or, refl, sym, subst, ◌∙◌, ap}
use Rattle.std.proofs.lemmas.List.{get_or_read}
use Rattle.std.specs.List.{AllByRecursion}
use Rattle.sorted_tables.specs.Table.{IsAscending}
use Rattle.rp_rows.specs.Rows.{key_cmp, row_key, Model, GroupRow}
use Rattle.rp_plain.specs.Plain.{Plain}
use Rattle.rp_sight.specs.Stored.{joined}
use Rattle.rp_plans.specs.Plans.{IsAnswer, IsRefusal}
use Rattle.rp_core.specs.declared.steps.Pending.{Pending}
use Rattle.rp_core.specs.Held.{Both, partner_at, turn, AreStepsOf, StepsFit, Fits}
use Rattle.rp_core.proofs.Standing.{IsKept, kept_of}
use Rattle.rp_core.proofs.Preparing.{IsDone, at_home, answered_still, refused_still, faulted_still}
use Rattle.rp_readers.specs.Named.{HoldsNamed}
use Rattle.rp_readers.specs.Listed.{HoldsListed}
use Rattle.rp_readers.specs.Told.{told}
use Rattle.rp_readers.proofs.Names.{told_named, told_listed, told_populations}
use Rattle.rp_core.proofs.holdings.Holdings.prepare.Goals as goal
use Rattle.rp_core.proofs.holdings.Holdings.prepare.Goals.{in-Ok-of_plan, in-Err-of_plan}

pub plan-requires-clause-named : goal.plan-requires-clause-named
unfolding told
plan-requires-clause-named c =
    let read : Plain = record { schemas = c.self.inside.schemas.now; partners = c.deref.result.now; models = c.models-models.result.rows; groups = c.self.inside.access.groups.rows } in
    let models : c.models-models.result.rows ≡ c.args.self.now.content.models = c.models-models.ensures ∙ ap (λ h. h.content.models) c.self.view_is in
    told_named read c.index.result.now (subst (λ (ms : List Model). AllByRecursion HoldsNamed ms) (sym models) c.requires.named)

pub plan-requires-clause-listed : goal.plan-requires-clause-listed
unfolding told
plan-requires-clause-listed c =
    let read : Plain = record { schemas = c.self.inside.schemas.now; partners = c.deref.result.now; models = c.models-models.result.rows; groups = c.self.inside.access.groups.rows } in
    told_listed read c.index.result.now (subst (λ (gs : List GroupRow). AllByRecursion HoldsListed gs) (sym (ap (λ h. h.content.groups) c.self.view_is)) c.requires.listed)

pub plan-requires-clause-schemas : goal.plan-requires-clause-schemas
unfolding told
plan-requires-clause-schemas c = c.self.invariant.layouts

pub plan-requires-clause-rules : goal.plan-requires-clause-rules
unfolding told
plan-requires-clause-rules c = c.self.invariant.rules

pub plan-requires-clause-populations : goal.plan-requires-clause-populations
unfolding told
plan-requires-clause-populations c =
    let read : Plain = record { schemas = c.self.inside.schemas.now; partners = c.deref.result.now; models = c.models-models.result.rows; groups = c.self.inside.access.groups.rows } in
    let models : c.models-models.result.rows ≡ c.args.self.now.content.models = c.models-models.ensures ∙ ap (λ h. h.content.models) c.self.view_is in
    told_populations read c.index.result.now (subst (λ (ms : List Model). IsAscending key_cmp row_key ms) (sym models) c.requires.order.models)
    (subst (λ (ms : List Model). AllByRecursion HoldsNamed ms) (sym models) c.requires.named)

pub returns-in-Err-clause-prepared : goal.returns-in-Err-clause-prepared
unfolding told
returns-in-Err-clause-prepared c =
    let r = c.args.self.now.content in
    let who = partner_at r c.args.place in
    let ms = c.self.inside.store.entries in
    let es = c.self.inside.access.models.entries in
    let read : Plain = record { schemas = c.self.inside.schemas.now; partners = c.deref.result.now; models = c.models-models.result.rows; groups = c.self.inside.access.groups.rows } in
    let kept : Plain = record { schemas = c.self.inside.schemas.now; partners = c.self.inside.partners.items; models = joined ms es; groups = c.self.inside.access.groups.rows } in
    let seen : read ≡ kept = λ i. record { schemas = c.self.inside.schemas.now; partners = c.deref.ensures.value i; models = c.models-models.ensures i; groups = c.self.inside.access.groups.rows } in
    let same : read ≡ r = seen ∙ ap (λ h. h.content) c.self.view_is in
    let partners : c.self.inside.partners.items ≡ r.partners = ap (λ h. h.content.partners) c.self.view_is in
    let within : c.args.place < length c.self.inside.partners.items = rw partners c.requires.partner in
    let caller : c.index.result.now ≡ who = get_or_read c.self.inside.partners.items c.args.place c.index.result.now within c.index.ensures [] ∙ ap (λ xs. get_or xs c.args.place []) partners in
    let standing : IsKept ms es r = kept_of ms es r c.self.invariant.alike (ap (λ h. h.content.models) c.self.view_is) c.requires.order.models c.requires.order.groups in
    let b : Both = record { models = c.self.inside.store; access = c.self.inside.access } in
    let refused = at_home (λ a d. IsRefusal a d c.args.request c.in-Err.refusal) read r c.index.result.now who same caller c.in-Err.ensures.planned in
    (refused_still r who c.args.request ms es b c.in-Err.refusal c.refused.result standing refl refl refused c.refused.ensures).prepared

-- what is pending of a plan
done : (c : goal.Joined-of_plan) → IsDone c.args.self.now.content (record { models = c.of_plan.new.store; access = c.of_plan.new.access }) (turn c.args.self.now.content c.args.place c.args.request) c.match-of_plan.result
unfolding told
done c =
    let r = c.args.self.now.content in
    let who = partner_at r c.args.place in
    let ms = c.self.inside.store.entries in
    let es = c.self.inside.access.models.entries in
    let read : Plain = record { schemas = c.self.inside.schemas.now; partners = c.deref.result.now; models = c.models-models.result.rows; groups = c.self.inside.access.groups.rows } in
    let kept : Plain = record { schemas = c.self.inside.schemas.now; partners = c.self.inside.partners.items; models = joined ms es; groups = c.self.inside.access.groups.rows } in
    let seen : read ≡ kept = λ i. record { schemas = c.self.inside.schemas.now; partners = c.deref.ensures.value i; models = c.models-models.ensures i; groups = c.self.inside.access.groups.rows } in
    let same : read ≡ r = seen ∙ ap (λ h. h.content) c.self.view_is in
    let partners : c.self.inside.partners.items ≡ r.partners = ap (λ h. h.content.partners) c.self.view_is in
    let within : c.args.place < length c.self.inside.partners.items = rw partners c.requires.partner in
    let caller : c.index.result.now ≡ who = get_or_read c.self.inside.partners.items c.args.place c.index.result.now within c.index.ensures [] ∙ ap (λ xs. get_or xs c.args.place []) partners in
    let standing : IsKept ms es r = kept_of ms es r c.self.invariant.alike (ap (λ h. h.content.models) c.self.view_is) c.requires.order.models c.requires.order.groups in
    let b : Both = record { models = c.of_plan.new.store; access = c.of_plan.new.access } in
    let groups : c.self.inside.access.groups.rows ≡ r.groups = ap (λ h. h.content.groups) c.self.view_is in
    let is = at_home (λ a d. IsAnswer a d c.args.request c.in-Ok.plan) read r c.index.result.now who same caller c.in-Ok.ensures.planned in
    elim c.match-of_plan.branch [
      | in-Ok-of_plan w ↦
          answered_still r who c.args.request ms es c.self.inside.access.groups.rows b c.in-Ok.plan c.match-of_plan.result standing c.of_plan.ensures.models c.of_plan.ensures.rights groups is
          (ap (λ p. p.reply) w.result-is ∙ w.in-Ok-of_plan.ensures.reply)
          (subst (λ (p : Pending). AreStepsOf ms es c.self.inside.access.groups.rows c.in-Ok.plan.edits p.steps) (sym w.result-is) w.in-Ok-of_plan.ensures.made)
      | in-Err-of_plan w ↦
          refused_still r who c.args.request ms es b w.in-Err-of_plan.refusal c.match-of_plan.result standing c.of_plan.ensures.models c.of_plan.ensures.rights
          (faulted_still r who c.args.request ms es c.self.inside.access.groups.rows c.in-Ok.plan w.in-Err-of_plan.refusal standing groups is w.in-Err-of_plan.ensures.made)
          (w.result-is ∙ w.refused-in-Err-of_plan.ensures)
    ]

pub returns-after-of_plan-clause-prepared : goal.returns-after-of_plan-clause-prepared
returns-after-of_plan-clause-prepared c = (done c).prepared

pub returns-after-of_plan-clause-fits : goal.returns-after-of_plan-clause-fits
unfolding Fits
returns-after-of_plan-clause-fits c =
    let b : Both = record { models = c.of_plan.new.store; access = c.of_plan.new.access } in
    let fits : StepsFit b c.match-of_plan.result.steps =
    elim c.match-of_plan.branch [
      | in-Ok-of_plan w ↦ subst (λ (p : Pending). StepsFit b p.steps) (sym w.result-is) w.in-Ok-of_plan.ensures.fits
      | in-Err-of_plan w ↦ subst (λ (p : Pending). StepsFit b p.steps) (sym (w.result-is ∙ w.refused-in-Err-of_plan.ensures)) tt
    ] in
    (fits, (done c).alike)
