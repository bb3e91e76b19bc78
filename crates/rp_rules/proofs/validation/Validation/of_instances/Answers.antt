use Rattle.std.proofs.Common.{◌≡◌, ap, ◌∙◌}
use Rattle.rp_meaning.specs.Populations.{extent}
use Rattle.rp_rules.specs.Tallies.{check_with}
use Rattle.rp_rules.proofs.Tallied.{check-by, used-by}
use Rattle.rp_rules.proofs.validation.Validation.of_instances.Goals as goal

pub returns-clause-check : goal.returns-clause-check
returns-clause-check g c =
    let schema = c.args.self.now.schema.now in
    let population = g.D.Domain.population c.args.self.now.domain.now in
    let is : c.as_slice.result.now ≡ extent population c.args.entity = c.as_slice.ensures ∙ c.in_ok-instances.ensures in
    c.into_check.ensures ∙ ap (check_with c.args.constraint) c.in_ok-found.ensures.culprits
    ∙ check-by schema population c.args.constraint c.args.rule c.args.entity c.args.used.now.steps c.as_slice.result.now is

pub returns-clause-used : goal.returns-clause-used
returns-clause-used g c =
    let schema = c.args.self.now.schema.now in
    let population = g.D.Domain.population c.args.self.now.domain.now in
    let is : c.as_slice.result.now ≡ extent population c.args.entity = c.as_slice.ensures ∙ c.in_ok-instances.ensures in
    c.in_ok-found.ensures.used ∙ used-by schema population c.args.constraint c.args.rule c.args.entity c.args.used.now.steps c.as_slice.result.now is
