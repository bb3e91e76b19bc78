use Rattle.std.proofs.Common.{[], sym, ap, ◌∙◌, arith}
use Rattle.rp_meaning.specs.Report.{world}
use Rattle.rp_rules.specs.Gatherings.{trials_of, unique_rules}
use Rattle.rp_rules.proofs.Gatherings.{gathered-all, gathered-end, gathered-step}
use Rattle.rp_rules.proofs.validation.Validation.gathered.Goals as goal

pub loop-at-preserved : goal.loop-at-preserved
loop-at-preserved g c =
    let w = world c.args.self.now.schema.now (g.D.Domain.population c.args.self.now.domain.now) in
    let step = gathered-step w c.loop-at.found c.args.entity c.args.place c.loop-at.at c.args.count c.args.instance.now c.loop-at.used.steps (omega arith) in
    record {
      memory = c.in_ok-ended.ensures.memory;
      left = rw (c.in_ok-add.ensures, c.in_ok-ended.ensures.ended, c.in_ok-ended.ensures.used, c.in_ok-copy.ensures) (sym step ∙ c.loop-at.invariant.left);
    }

pub returns-clause-gathered : goal.returns-clause-gathered
returns-clause-gathered g c =
    let w = world c.args.self.now.schema.now (g.D.Domain.population c.args.self.now.domain.now) in
    let end = gathered-end w c.loop-at.found c.args.entity c.args.place c.loop-at.at c.args.count c.args.instance.now c.loop-at.used.steps (omega arith) in
    let all = gathered-all w [] (trials_of (unique_rules c.args.entity c.args.place c.args.count) c.args.instance.now) c.args.used.now.steps in
    ap (λ p. p.0) (sym end ∙ c.loop-at.invariant.left ∙ all)

pub returns-clause-used : goal.returns-clause-used
returns-clause-used g c =
    let w = world c.args.self.now.schema.now (g.D.Domain.population c.args.self.now.domain.now) in
    let end = gathered-end w c.loop-at.found c.args.entity c.args.place c.loop-at.at c.args.count c.args.instance.now c.loop-at.used.steps (omega arith) in
    let all = gathered-all w [] (trials_of (unique_rules c.args.entity c.args.place c.args.count) c.args.instance.now) c.args.used.now.steps in
    ap (λ p. p.1) (sym end ∙ c.loop-at.invariant.left ∙ all)
