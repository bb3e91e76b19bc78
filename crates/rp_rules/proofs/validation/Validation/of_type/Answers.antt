use Rattle.std.proofs.Common.{ℕ, [], ap, ◌∙◌}
use Rattle.rp_meaning.specs.declared.report.Constraint.TheVariants as k
use Rattle.rp_meaning.specs.Report.{type_candidates, world}
use Rattle.rp_rules.specs.declared.culprits.Culprits.{Culprits}
use Rattle.rp_rules.specs.Tallies.{check_with}
use Rattle.rp_rules.proofs.Tallied.{tallied-all}
use Rattle.rp_rules.proofs.validation.Validation.of_type.Goals as goal

pub returns-clause-check : goal.returns-clause-check
returns-clause-check g c =
    let schema = c.args.self.now.schema.now in
    let population = g.D.Domain.population c.args.self.now.domain.now in
    c.into_check.ensures
    ∙ ap (check_with (k.Type c.args.number c.args.place)) c.in_ok-found.ensures.culprits
    ∙ ap (λ (p : Culprits × ℕ). check_with (k.Type c.args.number c.args.place) p.0) (tallied-all (world schema population) [] (type_candidates schema population c.args.number c.args.place) c.args.used.now.steps)

pub returns-clause-used : goal.returns-clause-used
returns-clause-used g c =
    let schema = c.args.self.now.schema.now in
    let population = g.D.Domain.population c.args.self.now.domain.now in
    c.in_ok-found.ensures.used
    ∙ ap (λ (p : Culprits × ℕ). p.1) (tallied-all (world schema population) [] (type_candidates schema population c.args.number c.args.place) c.args.used.now.steps)
