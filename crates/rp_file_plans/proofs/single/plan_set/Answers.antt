use Rattle.std.proofs.Common.{[], ◌∷◌, sym, ◌∙◌, ap}
use Rattle.p21_read.specs.Single.{mapping_of}
use Rattle.rp_plain.specs.declared.messages.Request.TheVariants.{Set}
use Rattle.rp_plain.specs.Instances.{refused, said, said_by, is_absent, instance_in}
use Rattle.rp_readers.specs.Told.{told}
use Rattle.rp_plans.proofs.Firsts.{first_front}
use Rattle.rp_file_plans.specs.Files.{cheap_tests}
use Rattle.rp_file_plans.proofs.Putting.{refused_with}
use Rattle.rp_file_plans.proofs.Singles.{set_nowhere, not_set, is_set}
use Rattle.rp_file_plans.proofs.single.plan_set.Goals as goal

pub said_by-requires : goal.said_by-requires
said_by-requires c =
    let named = c.requires.named c.args.key c.in-Some-content.model.now (sym c.in-Some-content.ensures) in
    record { instances = named.order; links = named.links }

pub returns-in-Some-clause-planned : goal.returns-in-Some-clause-planned
returns-in-Some-clause-planned c = λ unlike.
    let a = told c.args.asked.now in
    let new = said a.schemas (a.content c.args.key) c.args.name c.args.text.now in
    first_front (cheap_tests a c.args.key c.args.text.now) (refused new ∷ is_absent (instance_in (a.content c.args.key) c.args.name) ∷ []) c.in-Some.refusal (sym c.in-Some.ensures)

pub returns-in_default-content-clause-planned : goal.returns-in_default-content-clause-planned
returns-in_default-content-clause-planned c = λ unlike.
    set_nowhere (told c.args.asked.now) c.args.asked.now.caller.now c.args.key c.args.text.now (sym c.in_default.ensures) c.args.name c.in_default-content.ensures

pub returns-in_err-instance-clause-planned : goal.returns-in_err-instance-clause-planned
returns-in_err-instance-clause-planned c =
    let a = told c.args.asked.now in
    let who = c.args.asked.now.caller.now in
    let why = c.in_err-instance.field-0.0 in
    refused_with a who (Set c.args.key c.args.name c.args.text.now) why c.from_residual.result c.from_residual.ensures.1 (λ unlike.
    not_set a who c.args.key c.args.text.now (sym c.in_default.ensures) c.args.name c.in-Some-content.model.now c.in-Some-content.ensures why
    (ap (λ schemas. said_by schemas c.in-Some-content.model.now c.args.name (mapping_of c.args.text.now)) (sym c.requires.schemas) ∙ c.in_err-instance.ensures.said unlike))

pub returns-clause-planned : goal.returns-clause-planned
returns-clause-planned c =
    is_set (told c.args.asked.now) c.args.asked.now.caller.now c.args.key c.args.text.now (sym c.in_default.ensures) c.args.name c.in-Some-content.model.now c.in-Some-content.ensures
    c.in_ok-instance.instance (ap (λ schemas. said_by schemas c.in-Some-content.model.now c.args.name (mapping_of c.args.text.now)) (sym c.requires.schemas) ∙ c.in_ok-instance.ensures.said) c.in_ok-of.field-0 c.in_ok-of.ensures
