use Rattle.std.proofs.Common.{◌≡◌, length, ap, ◌∙◌}
use Rattle.rp_meaning.specs.declared.report.Constraint.TheVariants as k
use Rattle.rp_meaning.specs.Populations.{extent}
use Rattle.rp_meaning.specs.Report.{agreeing, world}
use Rattle.rp_meaning.specs.Sequence.{check_of}
use Rattle.rp_rules.specs.declared.unique.Table.{Table}
use Rattle.rp_rules.proofs.Gatherings.{rows-whole, unique-check, unique-used}
use Rattle.rp_rules.proofs.validation.Validation.of_unique.Goals as goal

pub agreeing-requires : goal.agreeing-requires
agreeing-requires g c =
    let w = world c.args.self.now.schema.now (g.D.Domain.population c.args.self.now.domain.now) in
    rows-whole w c.args.entity c.args.place (length c.args.attributes.now) c.as_slice.result.now c.args.used.now.steps c.as_slice-2.result.now
    (c.as_slice-2.ensures ∙ ap (λ (t : Table). t.rows) c.in_ok-rows.ensures.table)

pub returns-clause-check : goal.returns-clause-check
returns-clause-check g c =
    let schema = c.args.self.now.schema.now in
    let population = g.D.Domain.population c.args.self.now.domain.now in
    let is : c.as_slice.result.now ≡ extent population c.args.entity = c.as_slice.ensures ∙ c.in_ok-instances.ensures in
    let violating : c.in_ok-agreeing.field-0 ≡ agreeing c.in_ok-rows.field-0.rows = c.in_ok-agreeing.ensures ∙ ap agreeing c.as_slice-2.ensures in
    let said : c.into_check.result ≡ check_of (k.Unique c.args.entity c.args.place) c.in_ok-agreeing.field-0 c.in_ok-rows.field-0.limited c.in_ok-rows.field-0.not_run c.new.result = c.into_check.ensures in
    said
    ∙ (λ i. check_of (k.Unique c.args.entity c.args.place) (violating i) c.in_ok-rows.field-0.limited c.in_ok-rows.field-0.not_run (c.new.ensures i))
    ∙ unique-check schema population c.args.entity c.args.place c.args.used.now.steps c.args.attributes.now c.as_slice.result.now c.in_ok-rows.field-0 is c.in_ok-rows.ensures.table

pub returns-clause-used : goal.returns-clause-used
returns-clause-used g c =
    let schema = c.args.self.now.schema.now in
    let population = g.D.Domain.population c.args.self.now.domain.now in
    let is : c.as_slice.result.now ≡ extent population c.args.entity = c.as_slice.ensures ∙ c.in_ok-instances.ensures in
    c.in_ok-rows.ensures.used ∙ unique-used schema population c.args.entity c.args.place c.args.used.now.steps c.args.attributes.now c.as_slice.result.now is
