use Rattle.std.proofs.Common.{sym, ap, ◌∙◌, arith}
use Rattle.rp_meaning.specs.Report.{world}
use Rattle.rp_rules.proofs.TypeTallies.{instances-past, instances-step}
use Rattle.rp_rules.proofs.validation.Validation.tallied_types.Goals as goal

pub loop-at-preserved : goal.loop-at-preserved
loop-at-preserved g c =
    let schema = c.args.self.now.schema.now in
    let population = g.D.Domain.population c.args.self.now.domain.now in
    let step = instances-step schema population c.args.number c.args.place (world schema population) c.loop-at.found c.loop-at.used.steps c.loop-at.at in
    record {
      memory = c.in_ok-tally_instance.ensures.memory;
      left = rw (c.in_ok-tally_instance.ensures.found, c.in_ok-tally_instance.ensures.used) (sym step ∙ c.loop-at.invariant.left);
    }

pub returns-clause-culprits : goal.returns-clause-culprits
returns-clause-culprits g c =
    let schema = c.args.self.now.schema.now in
    let population = g.D.Domain.population c.args.self.now.domain.now in
    let past = instances-past schema population c.args.number c.args.place (world schema population) c.loop-at.found c.loop-at.used.steps c.loop-at.at (omega (arith, c.count-at-end.ensures)) in
    ap (λ p. p.0) (sym past ∙ c.loop-at.invariant.left)

pub returns-clause-used : goal.returns-clause-used
returns-clause-used g c =
    let schema = c.args.self.now.schema.now in
    let population = g.D.Domain.population c.args.self.now.domain.now in
    let past = instances-past schema population c.args.number c.args.place (world schema population) c.loop-at.found c.loop-at.used.steps c.loop-at.at (omega (arith, c.count-at-end.ensures)) in
    ap (λ p. p.1) (sym past ∙ c.loop-at.invariant.left)
